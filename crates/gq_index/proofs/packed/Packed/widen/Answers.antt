use Rattle.std.proofs.Common.{◌≡◌, ◌≤◌, ◌++◌, [], List, length, replicate, ap, subst, ◌∙◌, arith}
use Rattle.std.proofs.lemmas.Result.{IfOk-weaker}
use Rattle.gq_index.specs.declared.walks.Neighbor.{Neighbor}
use Rattle.gq_index.specs.Packed.{AreApart}
use Rattle.gq_index.proofs.PackedLemmas.{no_way, parts_roomy}
use Rattle.gq_index.proofs.packed.Packed.widen.Goals as goal

pub invariant_of-self-2 : goal.invariant_of-self-2
invariant_of-self-2 c =
    let long : c.saturating_add-size.result ≡ length c.resize.new.self.items = omega (arith, c.in_ok-resize.ensures.len, c.resize.new.self.ok.0) in
    record {
      apart = subst (AreApart c.append.new.spans.items) long c.append.ensures.apart;
      short = omega (arith, long, c.in_ok-within.ensures.ok);
    }

pub returns : goal.returns
returns c =
    let old = c.self.inside.ways.items in let new = c.resize.new.self.items in
    let more : length old ≤ length new =
    omega (arith, c.in_ok-resize.ensures.len, c.resize.new.self.ok.0, c.saturating_add-size.ensures, c.len-first.ensures, c.self.inside.ways.ok.0, c.in_ok-within.ensures.ok) in
    IfOk-weaker c.append.result _ _ (λ ok h.
    h new ∙ ap (λ (l : List (List Neighbor)). l ++ replicate (length c.args.room.now) [])
    (parts_roomy c.self.inside.spans.items old new c.self.invariant.apart more
    (λ i low. c.in_ok-resize.ensures.by_index.0 i no_way (omega (arith, low, more, c.in_ok-resize.ensures.len, c.resize.new.self.ok.0)) (omega (arith, low, c.self.inside.ways.ok.0)))
    ∙ c.self.view_is))
    c.append.ensures.lists
