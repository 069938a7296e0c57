use Rattle.std.proofs.Common.{rules, ◌≡◌, ◌<◌, ◌++◌, [], ◌∷◌, List, length, leb, true, false, ap, ap₂, sym, subst, ◌∙◌, arith}
use Rattle.std.proofs.lemmas.List.{with_items_is}
use Rattle.std.specs.List.Sorted.{IsPartitionPoint, IsPartitionedBy}
use Rattle.gq_index.specs.declared.walks.Neighbor.{Neighbor}
use Rattle.gq_index.specs.Packed.{part, parts, span_at}
use Rattle.gq_index.specs.Walks.{AreListed, ways_at}
use Rattle.gq_index.proofs.PackedLemmas.{part_at, walk_put}
use Rattle.gq_index.proofs.packed.Packed.put.Goals as goal

pub write-requires-clause-short : goal.write-requires-clause-short
write-requires-clause-short c = omega (arith, c.self.invariant.short, ap length c.deref_mut-2.ensures.value)

pub returns-clause-put : goal.returns-clause-put
returns-clause-put c = λ _ n count walks low are.
    let spans = c.self.inside.spans.items in let ways = c.self.inside.ways.items in let w = c.args.walk in let v = w.source in
    let there : v < length spans = omega (arith, c.len.ensures, c.self.inside.spans.ok.0, c.if-vertex-len.false) in
    let list : c.ways.result.now ≡ part ways (span_at spans v) = c.ways.ensures ∙ ap (λ l. ways_at l v) (sym c.self.view_is) ∙ part_at spans ways v there in
    let point = subst (λ (l : List Neighbor). IsPartitionedBy (λ (y : Neighbor). leb y.kind w.kind) l
    → IsPartitionPoint (λ (y : Neighbor). leb y.kind w.kind ≡ true) (λ (y : Neighbor). leb y.kind w.kind ≡ false) l (length l)) list (c.is_last.ensures (search rules)) in
    let put = rw (c.deref_mut.ensures.value, c.deref_mut-2.ensures.value) at c.write.ensures.put in
    let spans_size : length c.write.new.spans ≡ c.self.inside.spans.len = omega (arith, c.write.auto.spans, c.deref_mut.ensures.len) in
    let ways_size : length c.write.new.ways ≡ c.self.inside.ways.len = omega (arith, c.write.auto.ways, c.deref_mut-2.ensures.len) in
    let same = ap₂ parts (with_items_is c.self.inside.spans c.write.new.spans spans_size) (with_items_is c.self.inside.ways c.write.new.ways ways_size) in
    subst (λ l. AreListed n count l (walks ++ w ∷ [])) (sym (same ∙ put))
    (walk_put n count spans ways walks w there point low (subst (λ l. AreListed n count l walks) (sym c.self.view_is) are))
