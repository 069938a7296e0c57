use Rattle.std.proofs.Common.{◌∙◌, ap, map, refl}
use Rattle.gq_index.specs.Walks.{walk_at}
use Rattle.gq_exec_source.proofs.HopSortLemmas.{sorted_is, sources_low}
use Rattle.gq_exec_source.proofs.hop.Hop.of.Goals as goal

pub in_order-requires-clause-known : goal.in_order-requires-clause-known
in_order-requires-clause-known c = sources_low c.args.walks.now c.deref.result.now c.args.vertices (c.deref.ensures.value ∙ c.in_ok-keys.ensures) c.requires

pub returns : goal.returns
returns c =
    sorted_is c.args.walks.now c.in_ok-walks.walks.items c.deref.result.now c.in_ok-starts.starts.items c.in_ok-starts.order.items c.args.vertices _
    (c.deref.ensures.value ∙ c.in_ok-keys.ensures) c.in_ok-starts.ensures (c.in_ok-walks.ensures ∙ ap (map (walk_at c.args.walks.now)) c.deref-2.ensures.value) refl
