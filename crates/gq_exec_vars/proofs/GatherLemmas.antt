-- GatherLemmas: the seeds of a written set, one after another.
use Rattle.std.proofs.Common.{◌≡◌, ℕ, ◌==◌, ◌||◌, Bool, true, false, List, [], ◌∷◌, ◌++◌, map, drop, length, get_or, ◌+◌, ◌<◌, ◌≤◌, Ok, refl, sym, ap, ap₂, subst, ◌∙◌, append_assoc, append-nil}
use Rattle.std.specs.declared.cmp.Ordering.{Ordering}
use Rattle.std.specs.declared.cmp.Ordering.TheVariants.{Less, Equal, Greater}
use Rattle.std.specs.Ordering.{nat_cmp}
use Rattle.std.proofs.lemmas.List.{drop_more, drop_all}
use Rattle.std.proofs.lemmas.List.Folds.{list_any-append}
use Rattle.std.proofs.lemmas.Map.Lookups.{exact_unsigned}
use Rattle.gq_value.specs.declared.value.Wrong.{Wrong}
use Rattle.gq_graph.specs.Candidates.{among}
use Rattle.gq_accum_laws.specs.Gather.{choose, put}
use Rattle.gq_rules_typing.specs.Patterns.{by_number}
use Rattle.gq_exec_source.specs.Marks.{Marks, is_marked}
use Rattle.gq_rules_meaning.specs.Answers.{Answer, Gives, Faults, Stuck, ◌>>=◌, each}
use Rattle.gq_rules_meaning.specs.Expressions.{World}
use Rattle.gq_rules_meaning.specs.States.{State}
use Rattle.gq_rules_meaning.specs.Sets.{TypedSet, all_of, seed_of}
use Rattle.gq_plan_ir.specs.declared.step.Seed.{Seed}
use Rattle.gq_plan_ir.specs.Reference.{Reference}
use Rattle.gq_plan_ir.specs.PlanView.{view_seed}
use Rattle.gq_eval_operand.specs.declared.halt.Halt.{Halt}
use Rattle.gq_eval_operand.specs.declared.halt.Halt.TheVariants as halt
use Rattle.gq_eval_operand.specs.Meant.{Halts}
use Rattle.gq_exec_vars.specs.declared.bits.SetBitmap.{SetBitmap}
use Rattle.gq_exec_vars.specs.Written.{Gains, GainsSet, Seeded}
use Rattle.gq_exec_vars.proofs.BitLemmas.{gains_none, gains_more, gained}

-- ---- numbers in order have the same members

or_swap_in : (a b c : Bool) → (a || (b || c)) ≡ (b || (a || c))
or_swap_in true true c = refl
or_swap_in true false c = refl
or_swap_in false true c = refl
or_swap_in false false c = refl

or_twice : (a b : Bool) → (a || b) ≡ (a || (a || b))
or_twice true b = refl
or_twice false b = refl

among_put : (x v : ℕ) (ys : List ℕ) → among (put nat_cmp false x ys) v ≡ ((x == v) || among ys v)
among_put x v [] = refl
among_put x v (y ∷ ys) = by (nat_cmp x y) refl (among_put x v ys)
  where
    by : (o : Ordering) → nat_cmp x y ≡ o → among (put nat_cmp false x ys) v ≡ ((x == v) || among ys v) → among (choose o (x ∷ y ∷ ys) (y ∷ ys) (y ∷ put nat_cmp false x ys)) v ≡ ((x == v) || ((y == v) || among ys v))
    by Less e h = refl
    by Equal e h = or_twice (y == v) (among ys v) ∙ ap (λ z. (z == v) || ((y == v) || among ys v)) (sym (exact_unsigned x y e))
    by Greater e h = ap (λ b. (y == v) || b) h ∙ or_swap_in (y == v) (x == v) (among ys v)

among_by_number : (xs : List ℕ) (v : ℕ) → among (by_number xs) v ≡ among xs v
among_by_number [] v = refl
among_by_number (x ∷ xs) v = among_put x v (by_number xs) ∙ ap (λ b. (x == v) || b) (among_by_number xs v)

-- ---- the union of all

abbrev pub all_types : List TypedSet → List ℕ
all_types [] = []
all_types (t ∷ ts) = t.0 ++ all_types ts

abbrev pub all_vertices : List TypedSet → List ℕ
all_vertices [] = []
all_vertices (t ∷ ts) = t.1 ++ all_vertices ts

types_snoc : (ts : List TypedSet) (t : TypedSet) → all_types (ts ++ t ∷ []) ≡ all_types ts ++ t.0
types_snoc [] t = append-nil t.0
types_snoc (u ∷ ts) t = ap (λ xs. u.0 ++ xs) (types_snoc ts t) ∙ sym (append_assoc u.0 (all_types ts) t.0)

vertices_snoc : (ts : List TypedSet) (t : TypedSet) → all_vertices (ts ++ t ∷ []) ≡ all_vertices ts ++ t.1
vertices_snoc [] t = append-nil t.1
vertices_snoc (u ∷ ts) t = ap (λ xs. u.1 ++ xs) (vertices_snoc ts t) ∙ sym (append_assoc u.1 (all_vertices ts) t.1)

joins : (a b c : List ℕ) (v : ℕ) → among b v ≡ among c v → among (a ++ b) v ≡ among (a ++ c) v
joins a b c v e = list_any-append (λ m. m == v) a b ∙ ap (λ x. among a v || x) e ∙ sym (list_any-append (λ m. m == v) a c)

types_among : (ts : List TypedSet) (v : ℕ) → among (all_of ts).0 v ≡ among (all_types ts) v
types_among [] v = refl
types_among (t ∷ ts) v = among_by_number (t.0 ++ (all_of ts).0) v ∙ joins t.0 (all_of ts).0 (all_types ts) v (types_among ts v)

vertices_among : (ts : List TypedSet) (v : ℕ) → among (all_of ts).1 v ≡ among (all_vertices ts) v
vertices_among [] v = refl
vertices_among (t ∷ ts) v = among_by_number (t.1 ++ (all_of ts).1) v ∙ joins t.1 (all_of ts).1 (all_vertices ts) v (vertices_among ts v)

types_listed : (ts : List TypedSet) (words list : List ℕ) → Marks words (all_types ts) → ((xs : List ℕ) → Marks words xs → list ≡ by_number xs) → list ≡ (all_of ts).0
types_listed [] words list m h = h [] m
types_listed (t ∷ ts) words list m h = h (t.0 ++ (all_of ts).0) (λ v. m v ∙ joins t.0 (all_types ts) (all_of ts).0 v (sym (types_among ts v)))

vertices_listed : (ts : List TypedSet) (words list : List ℕ) → Marks words (all_vertices ts) → ((xs : List ℕ) → Marks words xs → list ≡ by_number xs) → list ≡ (all_of ts).1
vertices_listed [] words list m h = h [] m
vertices_listed (t ∷ ts) words list m h = h (t.1 ++ (all_of ts).1) (λ v. m v ∙ joins t.1 (all_vertices ts) (all_of ts).1 v (sym (vertices_among ts v)))

-- ---- seed by seed

-- the sets so far are marked, and the rest is still to come
pub record SoFar (whole rest : Answer Wrong (List TypedSet)) (start now : SetBitmap) : Type 0 where
  pub sets : List TypedSet
  pub goes_on : whole ≡ (rest >>= λ more. Gives (sets ++ more))
  pub types : Gains (all_types sets) start.types now.types
  pub vertices : Gains (all_vertices sets) start.vertices now.vertices

nothing_yet : (o : Answer Wrong (List TypedSet)) → o ≡ (o >>= λ more. Gives ([] ++ more))
nothing_yet (Gives a) = refl
nothing_yet (Faults w) = refl
nothing_yet Stuck = refl

pub so_far_none : (whole : Answer Wrong (List TypedSet)) (start : SetBitmap) → SoFar whole whole start start
so_far_none whole start = record { sets = []; goes_on = nothing_yet whole; types = gains_none start.types; vertices = gains_none start.vertices }

regrouped : (sets : List TypedSet) (t : TypedSet) (next : Answer Wrong (List TypedSet))
    → ((next >>= λ bs. Gives (t ∷ bs)) >>= λ more. Gives (sets ++ more)) ≡ (next >>= λ more. Gives ((sets ++ t ∷ []) ++ more))
regrouped sets t (Gives bs) = ap Gives (sym (append_assoc sets (t ∷ []) bs))
regrouped sets t (Faults w) = refl
regrouped sets t Stuck = refl

-- the remaining seeds, from the first one on
abbrev pub then_more : Answer Wrong TypedSet → Answer Wrong (List TypedSet) → Answer Wrong (List TypedSet)
then_more o next = o >>= λ b. next >>= λ bs. Gives (b ∷ bs)

pub so_far_more : (whole rest next : Answer Wrong (List TypedSet)) (o : Answer Wrong TypedSet) (start now new : SetBitmap) (set : TypedSet)
    → SoFar whole rest start now → rest ≡ then_more o next → o ≡ Gives set → GainsSet set now new → SoFar whole next start new
so_far_more whole rest next o start now new set h r e g = record {
  sets = h.sets ++ set ∷ [];
  goes_on = h.goes_on ∙ ap (λ x. x >>= λ more. Gives (h.sets ++ more)) (r ∙ ap (λ o. then_more o next) e) ∙ regrouped h.sets set next;
  types = subst (λ xs. Gains xs start.types new.types) (sym (types_snoc h.sets set)) (gains_more (all_types h.sets) set.0 start.types now.types new.types h.types g.types);
  vertices = subst (λ xs. Gains xs start.vertices new.vertices) (sym (vertices_snoc h.sets set)) (gains_more (all_vertices h.sets) set.1 start.vertices now.vertices new.vertices h.vertices g.vertices);
}

pub so_far_stops : (whole rest next : Answer Wrong (List TypedSet)) (o : Answer Wrong TypedSet) (start now : SetBitmap) (h : Halt)
    → SoFar whole rest start now → rest ≡ then_more o next → Halts o h → Halts (whole >>= λ sets. Gives (all_of sets)) h
so_far_stops whole rest next o start now (halt.Wrong w) f r e = ap (λ x. x >>= λ sets. Gives (all_of sets)) (f.goes_on ∙ ap (λ x. x >>= λ more. Gives (f.sets ++ more)) (r ∙ ap (λ o. then_more o next) e))
so_far_stops whole rest next o start now halt.Stuck f r e = ap (λ x. x >>= λ sets. Gives (all_of sets)) (f.goes_on ∙ ap (λ x. x >>= λ more. Gives (f.sets ++ more)) (r ∙ ap (λ o. then_more o next) e))
so_far_stops whole rest next o start now halt.OutOfMemory f r e = tt

pub so_far_all : (whole rest : Answer Wrong (List TypedSet)) (start now : SetBitmap) (types vertices : List ℕ)
    → SoFar whole rest start now → rest ≡ Gives []
    → ((v : ℕ) → is_marked start.types v ≡ false) → ((v : ℕ) → is_marked start.vertices v ≡ false)
    → ((xs : List ℕ) → Marks now.types xs → types ≡ by_number xs) → ((xs : List ℕ) → Marks now.vertices xs → vertices ≡ by_number xs)
    → (whole >>= λ sets. Gives (all_of sets)) ≡ Gives (types, vertices)
so_far_all whole rest start now types vertices f r no_type no_vertex t v =
    ap (λ x. x >>= λ sets. Gives (all_of sets)) (f.goes_on ∙ ap (λ x. x >>= λ more. Gives (f.sets ++ more)) r ∙ ap Gives (append-nil f.sets))
    ∙ sym (ap₂ (λ (a b : List ℕ). Gives (a, b)) (types_listed f.sets now.types types (gained (all_types f.sets) start.types now.types no_type f.types) t) (vertices_listed f.sets now.vertices vertices (gained (all_vertices f.sets) start.vertices now.vertices no_vertex f.vertices) v))

-- ---- the same, over a list of seeds

-- the sets of seeds, each by itself
abbrev pub seeds_of : World Reference → State Reference → List Seed → Answer Wrong (List TypedSet)
seeds_of world s seeds = each (seed_of world s) (map view_seed seeds)

seed_next : (world : World Reference) (s : State Reference) (seeds : List Seed) (i : ℕ) (d : Seed) → i < length seeds
    → seeds_of world s (drop i seeds) ≡ then_more (seed_of world s (view_seed (get_or seeds i d))) (seeds_of world s (drop (i + 1) seeds))
seed_next world s seeds i d l = ap (seeds_of world s) (drop_more seeds i d l)

pub seeds_begin : (world : World Reference) (s : State Reference) (seeds : List Seed) (start : SetBitmap) → SoFar (seeds_of world s seeds) (seeds_of world s (drop 0 seeds)) start start
seeds_begin world s seeds start = so_far_none (seeds_of world s seeds) start

pub seeds_more : (world : World Reference) (s : State Reference) (seeds : List Seed) (i : ℕ) (d : Seed) (start now new : SetBitmap) → i < length seeds
    → SoFar (seeds_of world s seeds) (seeds_of world s (drop i seeds)) start now → Seeded (seed_of world s (view_seed (get_or seeds i d))) now new (Ok tt)
    → SoFar (seeds_of world s seeds) (seeds_of world s (drop (i + 1) seeds)) start new
seeds_more world s seeds i d start now new l f g =
    so_far_more (seeds_of world s seeds) (seeds_of world s (drop i seeds)) (seeds_of world s (drop (i + 1) seeds)) (seed_of world s (view_seed (get_or seeds i d))) start now new g.0 f (seed_next world s seeds i d l) g.1 g.2

pub seeds_stop : (world : World Reference) (s : State Reference) (seeds : List Seed) (i : ℕ) (d : Seed) (start now : SetBitmap) (h : Halt) → i < length seeds
    → SoFar (seeds_of world s seeds) (seeds_of world s (drop i seeds)) start now → Halts (seed_of world s (view_seed (get_or seeds i d))) h → Halts (seeds_of world s seeds >>= λ sets. Gives (all_of sets)) h
seeds_stop world s seeds i d start now h l f g =
    so_far_stops (seeds_of world s seeds) (seeds_of world s (drop i seeds)) (seeds_of world s (drop (i + 1) seeds)) (seed_of world s (view_seed (get_or seeds i d))) start now h f (seed_next world s seeds i d l) g

-- a slice of the bits reads as the bits do
abbrev pub Listed : List ℕ → List ℕ → List ℕ → Type 0
Listed words slice list = (slice ≡ words) × ((xs : List ℕ) → Marks slice xs → list ≡ by_number xs)

read_back : (words slice list : List ℕ) → Listed words slice list → (xs : List ℕ) → Marks words xs → list ≡ by_number xs
read_back words slice list r xs m = r.1 xs (λ v. ap (λ l. is_marked l v) r.0 ∙ m v)

pub seeds_end : (world : World Reference) (s : State Reference) (seeds : List Seed) (i : ℕ) (start now : SetBitmap) (type_slice types vertex_slice vertices : List ℕ) → length seeds ≤ i
    → SoFar (seeds_of world s seeds) (seeds_of world s (drop i seeds)) start now → ((v : ℕ) → is_marked start.types v ≡ false) → ((v : ℕ) → is_marked start.vertices v ≡ false)
    → Listed now.types type_slice types → Listed now.vertices vertex_slice vertices → (seeds_of world s seeds >>= λ sets. Gives (all_of sets)) ≡ Gives (types, vertices)
seeds_end world s seeds i start now type_slice types vertex_slice vertices l f no_type no_vertex t v =
    so_far_all (seeds_of world s seeds) (seeds_of world s (drop i seeds)) start now types vertices f (ap (seeds_of world s) (drop_all i seeds l)) no_type no_vertex (read_back now.types type_slice types t) (read_back now.vertices vertex_slice vertices v)
