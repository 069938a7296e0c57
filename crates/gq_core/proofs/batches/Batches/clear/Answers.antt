use Rattle.std.proofs.Common.{◌≡◌, ℕ, ◌<◌, length, map, take, replicate, [], sym, ◌∙◌, ap, arith}
use Rattle.std.proofs.lemmas.List.{length-map, with_items_is}
use Rattle.std.proofs.Math.Seq.{take-length}
use Rattle.gq_core.proofs.BatchLemmas.{emptied_more}
use Rattle.gq_core.proofs.batches.Batches.clear.Goals as goal

pub loop-list-preserved : goal.loop-list-preserved
loop-list-preserved c =
    let within : c.loop-list.list-index < length c.loop-list.list-items = omega arith in
    emptied_more (λ list. list.items) c.loop-list.list-items c.loop-list.list-index c.clear.new.self within c.loop-list.invariant c.clear.ensures.items

pub returns : goal.returns
returns c =
    let items = map (λ list. list.items) c.loop-list.list-items in
    let many : length items ≡ length c.loop-list.list-items = length-map c.loop-list.list-items (λ list. list.items) in
    let here = ap length c.self.view_is in let before = length-map c.self.inside.lists.items (λ list. list.items) in
    let same = ap length c.deref_mut-list-items.ensures.value in
    let all : c.loop-list.list-index ≡ length items = omega arith in
    let so : c.loop-list.list-index ≡ length c.args.self.now = omega arith in
    let empty : items ≡ replicate (length c.args.self.now) [] = sym (take-length items) ∙ (ap (λ (n : ℕ). take n items) (sym all) ∙ (c.loop-list.invariant ∙ ap (λ (n : ℕ). replicate n []) so)) in
    let written : length c.loop-list.list-items ≡ c.self.inside.lists.len = c.loop-list.auto.list-items ∙ c.deref_mut-list-items.ensures.len in
    ap (map (λ list. list.items)) (with_items_is c.self.inside.lists c.loop-list.list-items written) ∙ empty
