use Rattle.std.proofs.Common.{◌≡◌, ◌++◌, [], map, replicate, sym, ap, ◌∙◌, arith, append-nil, length}
use Rattle.gq_index.proofs.ListLemmas.{widened_more}
use Rattle.gq_index.proofs.lists.widen_apart.Goals as goal

pub loop-ways-init : goal.loop-ways-init
loop-ways-init c = ap (map (λ list. list.items)) c.in_ok-reserve.ensures.items ∙ sym (append-nil (map (λ list. list.items) c.args.lists.now.items))

pub loop-ways-preserved : goal.loop-ways-preserved
loop-ways-preserved c =
    ap (map (λ list. list.items)) c.in_ok-push.ensures.items
    ∙ widened_more (λ list. list.items) c.args.lists.now.items c.loop-ways.lists.items c.loop-ways.ways-index c.in_ok-empty.empty c.loop-ways.invariant c.in_ok-empty.ensures.items

pub returns : goal.returns
returns c =
    let all : c.loop-ways.ways-index ≡ length c.args.room.now = omega arith in
    c.loop-ways.invariant ∙ ap (λ n. map (λ list. list.items) c.args.lists.now.items ++ replicate n []) all
