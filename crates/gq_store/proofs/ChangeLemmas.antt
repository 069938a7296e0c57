-- ChangeLemmas: what copies show after changes, and what is pending.
use Rattle.std.proofs.Common.{◌≡◌, true, List, [], ◌∷◌, ◌++◌, Option, Some, None, fold, refl, sym, ap, ◌∙◌, Result, Ok, Err, MatchResult, append_assoc}
use Rattle.std.proofs.lemmas.List.{append-nil}
use Rattle.gq_load_check.specs.declared.insert.Insert.{Insert}
use Rattle.gq_store.specs.declared.view.Shown.{Shown}
use Rattle.gq_store.specs.Entries.{rows_in}
use Rattle.gq_store.specs.Lists.{EndsSealed, Listed, added, listed_of, pending_of, with_one}
use Rattle.gq_store.specs.Shows.{taken}

-- the inserts among changes come behind those that a copy has
pub rows_taken : (s : Shown) (changes : List (Option Insert)) → (fold taken s changes).rows ≡ s.rows ++ rows_in changes
rows_taken s [] = sym (append-nil s.rows)
rows_taken s (None ∷ changes) = rows_taken (taken s None) changes
rows_taken s (Some row ∷ changes) = rows_taken (taken s (Some row)) changes ∙ append_assoc s.rows (row ∷ []) (rows_in changes)

-- behind a seal the index is up to date
seal_last : (s : Shown) (changes : List (Option Insert)) → (fold taken s (changes ++ None ∷ [])).sealed ≡ true
seal_last s [] = refl
seal_last s (change ∷ changes) = seal_last (taken s change) changes

pub sealed_taken : (s : Shown) (changes : List (Option Insert)) → EndsSealed changes → (fold taken s changes).sealed ≡ true
sealed_taken s changes ends = ap (λ (cs : List (Option Insert)). (fold taken s cs).sealed) ends.whole ∙ seal_last s ends.before

-- what copies have, they don't lack
pub rows_join : (xs ys : List (Option Insert)) → rows_in (xs ++ ys) ≡ rows_in xs ++ rows_in ys
rows_join [] ys = refl
rows_join (None ∷ xs) ys = rows_join xs ys
rows_join (Some row ∷ xs) ys = ap (λ (l : List Insert). row ∷ l) (rows_join xs ys)

-- an insert that is held goes behind the others
pub stowed : (before after : List (Option Insert)) (row : Insert) → after ≡ before ++ Some row ∷ [] → pending_of after None ≡ pending_of before (Some row)
stowed before after row is = ap rows_in is ∙ rows_join before (Some row ∷ [])

-- a seal is no insert
pub seal_pends : (before after : List (Option Insert)) → after ≡ before ++ None ∷ [] → rows_in after ≡ rows_in before
seal_pends before after is = ap rows_in is ∙ rows_join before (None ∷ []) ∙ append-nil (rows_in before)

pub ends_sealed : (before after : List (Option Insert)) → after ≡ before ++ None ∷ [] → EndsSealed after
ends_sealed before after is = record { before = before; whole = is }

pub both : {T E : Type 0} (A C B D X Y : Type 0) (r : Result T E) → (A → B → X) → (C → Y) → MatchResult r (λ _. A) (λ _. C) → MatchResult r (λ _. B) (λ _. D) → MatchResult r (λ _. X) (λ _. Y)
both A C B D X Y (Ok t) f g a b = f a b
both A C B D X Y (Err e) f g a b = g a

-- ---- what is published and what is pending

abbrev listed : List Insert → List Insert → Listed
listed r p = record { published = r; pending = p }

listed_cong : (r r' p p' : List Insert) → r ≡ r' → p ≡ p' → listed r p ≡ listed r' p'
listed_cong r r' p p' a b = λ i. listed (a i) (b i)

-- an insert that is held is put behind the others
pub stows : (r r' : List Insert) (l l' : List (Option Insert)) (h h' : Option Insert) (row : Insert) → r' ≡ r → l' ≡ l ++ Some row ∷ [] → h ≡ Some row → h' ≡ None → listed_of r' l' h' ≡ listed_of r l h
stows r r' l l' h h' row rows more is none = listed_cong r' r _ _ rows (ap (pending_of l') none ∙ stowed l l' row more ∙ ap (pending_of l) (sym is))

-- or it comes back
pub keeps_held : (r r' : List Insert) (l l' : List (Option Insert)) (h h' : Option Insert) → r' ≡ r → l' ≡ l → h' ≡ h → listed_of r' l' h' ≡ listed_of r l h
keeps_held r r' l l' h h' rows same is = listed_cong r' r _ _ rows (λ i. pending_of (same i) (is i))

-- a seal is put behind all, where none is held
pub settles : (first : Listed) (r r' : List Insert) (l l' : List (Option Insert)) (h : Option Insert) → listed_of r l h ≡ first → h ≡ None → r' ≡ r → l' ≡ l ++ None ∷ [] → listed_of r' l' h ≡ first
settles first r r' l l' h was none rows more =
    let pends : pending_of l' h ≡ pending_of l h = ap (pending_of l') none ∙ seal_pends l l' more ∙ ap (pending_of l) (sym none) in
    listed_cong r' r _ _ rows pends ∙ was

-- all is published
pub shown_rows : (first : Listed) (r r' : List Insert) (l : List (Option Insert)) (h : Option Insert) → listed_of r l h ≡ first → h ≡ None → r' ≡ r ++ rows_in l → r' ≡ added first
shown_rows first r r' l h was none rows = rows ∙ ap (λ (k : Option Insert). r ++ pending_of l k) (sym none) ∙ ap added was

pub shown_none : (l : List (Option Insert)) (h : Option Insert) → h ≡ None → l ≡ [] → pending_of l h ≡ []
shown_none l h none empty = λ i. pending_of (empty i) (none i)

-- one more is added
pub one_more : (first : Listed) (r : List Insert) (l : List (Option Insert)) (h : Option Insert) (last : Listed) (row : Insert)
    → listed_of r l h ≡ first → h ≡ None → last ≡ listed_of r l (Some row) → last ≡ with_one first row
one_more first r l h last row was none is =
    is ∙ ap (λ (k : Option Insert). with_one (listed_of r l k) row) (sym none) ∙ ap (λ (f : Listed). with_one f row) was
