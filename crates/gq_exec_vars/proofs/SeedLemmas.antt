-- SeedLemmas: the vertices of the seeds of a written set.
use Rattle.std.proofs.Common.{◌≡◌, ℕ, true, false, List, [], ◌∷◌, filter, length, Option, Some, None, Result, Ok, Err, refl, sym, ap, subst, ◌∙◌}
use Rattle.std.specs.Borrow.{Bor}
use Rattle.std.specs.Prelude.{if◌then◌else◌}
use Rattle.std.specs.List.{range_with_len}
use Rattle.std.proofs.lemmas.List.{length-map}
use Rattle.gq_graph.specs.declared.rows.VertexRow.{VertexRow}
use Rattle.gq_value.specs.declared.kind.Kind.{Kind}
use Rattle.gq_value.specs.declared.value.Wrong.{Wrong}
use Rattle.gq_value.specs.Val.{Int, UInt, Truth, Text, Vertex, Tuple, Fraction}
use Rattle.gq_value.specs.Accums.{Base, INT, UINT, BOOL, STRING, DATETIME, VERTEX, VERTEX_OF, TUPLE, Accum, SumAccum, MinAccum, MaxAccum, OrAccum, AndAccum, BitwiseOrAccum, BitwiseAndAccum, AvgAccum, SetAccum, BagAccum, ListAccum, MapAccum, GroupByAccum, HeapAccum}
use Rattle.gq_accum_laws.specs.Holds.{Holds}
use Rattle.gq_accum_laws.specs.After.{fresh}
use Rattle.gq_graph.specs.Candidates.{among, is_target}
use Rattle.gq_index.specs.Sights.{vertex_kinds}
use Rattle.gq_nest.specs.declared.content.Content.{Content, out-Content}
use Rattle.gq_nest.specs.Forms.{view}
use Rattle.gq_nest.specs.Tells.{elements_of}
use Rattle.gq_rules_typing.specs.Statements as plain
use Rattle.gq_rules_typing.specs.Words.{under}
use Rattle.gq_rules_meaning.specs.Answers.{Answer, Gives, Stuck, ◌>>=◌, found}
use Rattle.gq_rules_meaning.specs.Graphs.{vertices_of}
use Rattle.gq_rules_meaning.specs.Meanings.{IsContent, Outcome}
use Rattle.gq_rules_meaning.specs.Expressions.{World}
use Rattle.gq_rules_meaning.specs.States.{Thing, Variable, SetOf, EdgeRow, Member, State, meant, read_slot}
use Rattle.gq_rules_meaning.specs.Sets.{TypedSet, types_of_base, vertices_in, of_variable, of_content, seed_of}
use Rattle.gq_plan_ir.specs.Reference as reference
use Rattle.gq_plan_ir.specs.Reference.{Reference, Place, VertexType}
use Rattle.gq_eval_operand.specs.declared.halt.Halt.{Halt}
use Rattle.gq_eval_operand.specs.declared.halt.Halt.TheVariants as halt
use Rattle.gq_eval_operand.specs.declared.seen.Seen.{Seen}
use Rattle.gq_eval_operand.specs.declared.seen.Seen.TheVariants as seen_is
use Rattle.gq_value.specs.AccumViews.{accum_of}
use Rattle.gq_eval_operand.specs.Meant.{Halts, Tells}
use Rattle.gq_eval_operand.specs.Meant as seen_meant
use Rattle.gq_eval_operand.specs.Sound.{IsSound, Sound}
use Rattle.gq_frame.specs.Names.{thing_in}
use Rattle.gq_frame.specs.Slots.{slots_are, ReadsAs}
use Rattle.gq_exec_vars.specs.declared.bits.SetBitmap.{SetBitmap}
use Rattle.gq_exec_vars.specs.declared.lookup.Lookup.{Lookup}
use Rattle.gq_exec_vars.specs.Lookups.{IsOver, IsSeen, base_types, variable_in, vertex_in}
use Rattle.gq_exec_vars.specs.Written.{Gains, GainsSet, PutContent, PutNone, PutRead, Seeded, set_base, vertices_under}
use Rattle.gq_exec_vars.proofs.ValueLemmas.{stops}

-- ---- types and their vertices

pub vertices_meant : (vertices : List VertexRow) (own : List ℕ) (world : World Reference) (kinds : List ℕ) → IsOver vertices own world → vertices_of world.graph kinds ≡ vertices_under vertices kinds
vertices_meant vertices own world kinds o =
    ap (λ ks. filter (is_target ks kinds) (range_with_len 0 (length ks))) o.kinds
    ∙ ap (λ n. filter (is_target (vertex_kinds vertices) kinds) (range_with_len 0 n)) (length-map vertices (λ (row : VertexRow). row.kind))

pub type_seeded : (at : Lookup) (kind : ℕ) (old new : SetBitmap) → among at.own.now kind ≡ true → GainsSet (kind ∷ [], vertices_under at.vertices.now (kind ∷ [])) old new
    → (world : World Reference) (s : State Reference) → IsSeen at world s → Seeded (seed_of world s (plain.AllOf (VertexType kind))) old new (Ok tt)
type_seeded at kind old new e g world s seen = (
  (kind ∷ [], vertices_under at.vertices.now (kind ∷ [])),
  ap (λ o. found o >>= λ t. Gives (t ∷ [], vertices_of world.graph (t ∷ []))) (seen.over.vertex_type kind ∙ ap (λ b. if b then Some kind else None) e)
      ∙ ap (λ vs. Gives (kind ∷ [], vs)) (vertices_meant at.vertices.now at.own.now world (kind ∷ []) seen.over),
  g,
)

pub type_unknown : (at : Lookup) (kind : ℕ) (old new : SetBitmap) → among at.own.now kind ≡ false
    → (world : World Reference) (s : State Reference) → IsSeen at world s → Seeded (seed_of world s (plain.AllOf (VertexType kind))) old new (Err halt.Stuck)
type_unknown at kind old new e world s seen =
    ap (λ o. found o >>= λ t. Gives (t ∷ [], vertices_of world.graph (t ∷ []))) (seen.over.vertex_type kind ∙ ap (λ b. if b then Some kind else None) e)

pub every_seeded : (at : Lookup) (old new : SetBitmap) → GainsSet (at.own.now, vertices_under at.vertices.now at.own.now) old new
    → (world : World Reference) (s : State Reference) → IsSeen at world s → Seeded (seed_of world s plain.AllVertices) old new (Ok tt)
every_seeded at old new g world s seen = (
  (at.own.now, vertices_under at.vertices.now at.own.now),
  ap (λ ts. Gives (ts, vertices_of world.graph ts)) seen.over.types ∙ ap (λ vs. Gives (at.own.now, vs)) (vertices_meant at.vertices.now at.own.now world at.own.now seen.over),
  g,
)

-- ---- a variable

types_meant : (world : World Reference) (own : List ℕ) (b : Base) → world.graph.sorts.own_vertices ≡ own → types_of_base world b ≡ base_types own b
types_meant world own (VERTEX_OF t) o = refl
types_meant world own INT o = o
types_meant world own UINT o = o
types_meant world own BOOL o = o
types_meant world own STRING o = o
types_meant world own DATETIME o = o
types_meant world own VERTEX o = o
types_meant world own (TUPLE n bs) o = o

-- what a name refers to
abbrev thing_seen : Option Thing → Outcome
thing_seen o = found o >>= λ thing. Gives (meant thing)

-- the seed of a variable with a vertex
abbrev vertex_seed : World Reference → Option (Base × ℕ) → Answer Wrong TypedSet
vertex_seed world None = Stuck
vertex_seed world (Some x) = Gives (types_of_base world x.0, x.1 ∷ [])

vertex_meant : (world : World Reference) (o : Option Thing) → (thing_seen o >>= of_variable world) ≡ vertex_seed world (vertex_in (variable_in o))
vertex_meant world None = refl
vertex_meant world (Some (Variable b (Vertex v))) = refl
vertex_meant world (Some (Variable b (Int x))) = refl
vertex_meant world (Some (Variable b (UInt n))) = refl
vertex_meant world (Some (Variable b (Truth t))) = refl
vertex_meant world (Some (Variable b (Text bs))) = refl
vertex_meant world (Some (Variable b (Tuple vs))) = refl
vertex_meant world (Some (Variable b (Fraction x n))) = refl
vertex_meant world (Some (SetOf types vs)) = refl
vertex_meant world (Some (EdgeRow r t)) = refl
vertex_meant world (Some (Member types vs v)) = refl

seed_is : (at : Lookup) (world : World Reference) (s : State Reference) (p : ℕ) (v : Option (Base × ℕ)) → IsSeen at world s → v ≡ vertex_in (variable_in (thing_in at.frame.now.things p))
    → seed_of world s (plain.OneVertex (Place p)) ≡ vertex_seed world v
seed_is at world s p v seen e =
    ap (λ f. thing_seen (under f (Place p) s.names) >>= of_variable world) seen.over.like ∙ ap (λ o. thing_seen o >>= of_variable world) (seen.shows.names (Place p))
    ∙ vertex_meant world (thing_in at.frame.now.things p) ∙ ap (vertex_seed world) (sym e)

pub vertex_seeded : (at : Lookup) (p : ℕ) (b : Base) (v : ℕ) (old new : SetBitmap) → Some (b, v) ≡ vertex_in (variable_in (thing_in at.frame.now.things p))
    → Gains (base_types at.own.now b) old.types new.types → Gains (v ∷ []) old.vertices new.vertices
    → (world : World Reference) (s : State Reference) → IsSeen at world s → Seeded (seed_of world s (plain.OneVertex (Place p))) old new (Ok tt)
vertex_seeded at p b v old new e g h world s seen = (
  (base_types at.own.now b, v ∷ []),
  seed_is at world s p (Some (b, v)) seen e ∙ ap (λ ts. Gives (ts, v ∷ [])) (types_meant world at.own.now b seen.over.types),
  record { types = g; vertices = h },
)

pub no_vertex : (at : Lookup) (p : ℕ) (old new : SetBitmap) → None ≡ vertex_in (variable_in (thing_in at.frame.now.things p))
    → (world : World Reference) (s : State Reference) → IsSeen at world s → Seeded (seed_of world s (plain.OneVertex (Place p))) old new (Err halt.Stuck)
no_vertex at p old new e world s seen = seed_is at world s p None seen e

-- ---- a global accumulator

set_by : (world : World Reference) (own : List ℕ) (k : Accum) (h : Holds k) (b : Base) (vs : List ℕ) → world.graph.sorts.own_vertices ≡ own → k ≡ SetAccum b → vs ≡ vertices_in (elements_of k h) → of_content world (IsContent k h) ≡ Gives (base_types own b, vs)
set_by world own (SetAccum c) h b vs o e v =
    ap (λ us. Gives (types_of_base world c, us)) (sym v) ∙ ap (λ ts. Gives (ts, vs)) (types_meant world own c o ∙ ap (base_types own) (let f : c ≡ b = cc in f))
set_by world own (SumAccum n) h b vs o e v = absurd (cc)
set_by world own (MinAccum n) h b vs o e v = absurd (cc)
set_by world own (MaxAccum n) h b vs o e v = absurd (cc)
set_by world own OrAccum h b vs o e v = absurd (cc)
set_by world own AndAccum h b vs o e v = absurd (cc)
set_by world own BitwiseOrAccum h b vs o e v = absurd (cc)
set_by world own BitwiseAndAccum h b vs o e v = absurd (cc)
set_by world own AvgAccum h b vs o e v = absurd (cc)
set_by world own (BagAccum c) h b vs o e v = absurd (cc)
set_by world own (ListAccum c) h b vs o e v = absurd (cc)
set_by world own (MapAccum c k) h b vs o e v = absurd (cc)
set_by world own (GroupByAccum keys ps) h b vs o e v = absurd (cc)
set_by world own (HeapAccum c n by) h b vs o e v = absurd (cc)

no_set : (world : World Reference) (k : Accum) (h : Holds k) → set_base k ≡ None → of_content world (IsContent k h) ≡ Stuck
no_set world (SetAccum c) h e = absurd (cc)
no_set world (SumAccum n) h e = refl
no_set world (MinAccum n) h e = refl
no_set world (MaxAccum n) h e = refl
no_set world OrAccum h e = refl
no_set world AndAccum h e = refl
no_set world BitwiseOrAccum h e = refl
no_set world BitwiseAndAccum h e = refl
no_set world AvgAccum h e = refl
no_set world (BagAccum c) h e = refl
no_set world (ListAccum c) h e = refl
no_set world (MapAccum c k) h e = refl
no_set world (GroupByAccum keys ps) h e = refl
no_set world (HeapAccum c n by) h e = refl

content_put : (k : Accum) (c : Content) (own : List ℕ) (old new : SetBitmap) (result : Result (Unit {0}) Halt) → IsSound k c → PutContent k c own old new result → PutRead (IsContent k (view k (out-Content c))) own old new result
content_put k c own old new (Ok u) sound put = let p = put sound in record {
  each = λ world o. ((base_types own p.0, p.1), set_by world own k (view k (out-Content c)) p.0 p.1 o p.2 p.3, p.4);
}
content_put k c own old new (Err halt.Stuck) sound put = record { each = λ world o. no_set world k (view k (out-Content c)) put }
content_put k c own old new (Err halt.OutOfMemory) sound put = record { each = λ world o. tt }
content_put k c own old new (Err (halt.Wrong w)) sound put = absurd put

fresh_set : (k : Accum) (b : Base) → k ≡ SetAccum b → [] ≡ vertices_in (elements_of k (fresh k))
fresh_set k b e = subst (λ j. [] ≡ vertices_in (elements_of j (fresh j))) (sym e) refl

none_put : (k : Accum) (own : List ℕ) (old new : SetBitmap) (result : Result (Unit {0}) Halt) → PutNone k own old new result → PutRead (IsContent k (fresh k)) own old new result
none_put k own old new (Ok u) put = record {
  each = λ world o. ((base_types own put.0, []), set_by world own k (fresh k) put.0 [] o put.1 (fresh_set k put.0 put.1), put.2);
}
none_put k own old new (Err halt.Stuck) put = record { each = λ world o. no_set world k (fresh k) put }
none_put k own old new (Err halt.OutOfMemory) put = record { each = λ world o. tt }
none_put k own old new (Err (halt.Wrong w)) put = absurd put

-- by what was read
module _ (seen : Seen) (own : List ℕ) (old new : SetBitmap) where
  pub put_whole : (kind : Bor Kind) (content : Bor Content) (result : Result (Unit {0}) Halt) → seen ≡ seen_is.Whole kind content → Sound seen → PutContent (accum_of kind.now) content.now own old new result → PutRead (seen_meant.meant seen) own old new result
  put_whole kind content result e sound put = subst (λ x. PutRead (seen_meant.meant x) own old new result) (sym e) (content_put (accum_of kind.now) content.now own old new result (subst Sound e sound).0 put)

  pub put_opening : (kind : Bor Kind) (result : Result (Unit {0}) Halt) → seen ≡ seen_is.Opening kind → PutNone (accum_of kind.now) own old new result → PutRead (seen_meant.meant seen) own old new result
  put_opening kind result e put = subst (λ x. PutRead (seen_meant.meant x) own old new result) (sym e) (none_put (accum_of kind.now) own old new result put)

  pub not_collected : ((world : World Reference) → of_content world (seen_meant.meant seen) ≡ Stuck) → PutRead (seen_meant.meant seen) own old new (Err halt.Stuck)
  not_collected stuck = record { each = λ world o. stuck world }

pub content_seeded : (at : Lookup) (n : ℕ) (r : Result Seen Halt) (m : Seen) (old new : SetBitmap) (result : Result (Unit {0}) Halt) → ReadsAs at.frame.now.accums n 0 r → r ≡ Ok m → PutRead (seen_meant.meant m) at.own.now old new result
    → (world : World Reference) (s : State Reference) → IsSeen at world s → Seeded (seed_of world s (plain.ContentOf (reference.Slot n))) old new result
content_seeded at n r m old new result reads e put world s is =
    subst (λ o. Seeded (o >>= of_content world) old new result) (sym (ap (λ slots. read_slot world slots (reference.Slot n) 0) is.shows.slots ∙ subst (Tells seen_meant.meant (read_slot world (slots_are at.frame.now.accums) (reference.Slot n) 0)) e (reads.each world is.over.like)))
    (put.each world is.over.types)

pub content_halts : (at : Lookup) (n : ℕ) (r : Result Seen Halt) (h : Halt) (old new : SetBitmap) → ReadsAs at.frame.now.accums n 0 r → r ≡ Err h
    → (world : World Reference) (s : State Reference) → IsSeen at world s → Seeded (seed_of world s (plain.ContentOf (reference.Slot n))) old new (Err h)
content_halts at n r h old new reads e world s is =
    subst (λ slots. Halts (read_slot world slots (reference.Slot n) 0 >>= of_content world) h) (sym is.shows.slots)
    (stops (read_slot world (slots_are at.frame.now.accums) (reference.Slot n) 0) (of_content world) h (subst (Tells seen_meant.meant (read_slot world (slots_are at.frame.now.accums) (reference.Slot n) 0)) e (reads.each world is.over.like)))

pub ruleset read_laws = (put_whole, put_opening, not_collected)
