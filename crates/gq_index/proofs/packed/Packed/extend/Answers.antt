use Rattle.std.proofs.Common.{◌≡◌, ◌∙◌, ℕ, ◌++◌, List, length, map, ap, ap₂, arith}
use Rattle.std.proofs.lemmas.Result.{IfOk-weaker}
use Rattle.gq_index.specs.declared.packed.Span.{Span}
use Rattle.gq_index.specs.declared.walks.Neighbor.{Neighbor}
use Rattle.gq_index.specs.Packed.{moved, parts}
use Rattle.gq_index.proofs.PackedLemmas.{parts_joined}
use Rattle.gq_index.proofs.packed.Packed.extend.Goals as goal

pub returns : goal.returns
returns c =
    let old = c.self.inside.ways.items in let more = c.other.inside.ways.items in
    let spans = c.self.inside.spans.items in let others = c.other.inside.spans.items in
    let first : c.len-first.result ≡ length old = omega (arith, c.len-first.ensures, c.self.inside.ways.ok.0) in
    IfOk-weaker c.append_moved.result _ _ (λ ok h.
    ap₂ parts (h ∙ ap₂ (λ (f : ℕ) (l : List Span). spans ++ map (moved f) l) first c.deref-2.ensures.value)
    (c.in_ok-extend_from_slice.ensures.items ∙ ap (λ (l : List Neighbor). old ++ l) c.deref.ensures.value)
    ∙ parts_joined spans others old more c.self.invariant.apart
    ∙ ap₂ (λ (xs ys : List (List Neighbor)). xs ++ ys) c.self.view_is c.other.view_is)
    c.append_moved.ensures.spans
