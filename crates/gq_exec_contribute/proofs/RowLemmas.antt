-- RowLemmas: rows of INTs, with one more and with several more.
use Rattle.std.proofs.Common.{◌≡◌, ℕ, suc, ◌+◌, ◌<◌, ◌≤◌, Bool, true, List, [], ◌∷◌, ◌++◌, take, length, get_or, refl, sym, ap, subst, ◌∙◌, append-nil, append_assoc}
use Rattle.std.specs.Prelude.{ℤ}
use Rattle.std.specs.Int.{w64}
use Rattle.std.specs.Int.RustNames.{FitsSigned}
use Rattle.std.specs.List.{All}
use Rattle.std.proofs.lemmas.List.{take_more, take_all}
use Rattle.std.proofs.lemmas.List.Elements.{All-nil, All-cons}
use Rattle.gq_tree.specs.Tree.{Tree}
use Rattle.gq_plan_ir.specs.declared.block.Feed.{Feed}
use Rattle.gq_plan_ir.specs.declared.block.Feed.TheVariants as feed
use Rattle.gq_plan_ir.specs.declared.expr.Expr.{Expr}
use Rattle.gq_plan_ir.specs.BlockView.{view_feed}
use Rattle.gq_plan_ir.specs.ExprView.{view}
use Rattle.gq_plan_ir.specs.Reference.{Reference}
use Rattle.gq_plan_ir.proofs.ViewLaws.{view_feed-One}
use Rattle.gq_rules_meaning.specs.Expressions.{Look}
use Rattle.gq_exec_contribute.specs.declared.rows.Ints.{Ints}
use Rattle.gq_exec_contribute.specs.Scalars.{ints_of}
use Rattle.gq_exec_contribute.specs.Prepared.{IsInt, AllPairs, AddsInts, AddsOne, AddsKey, AddsPart}

take_none : {A : Type 0} (xs : List A) → take 0 xs ≡ []
take_none [] = refl
take_none (x ∷ xs) = refl

-- ---- pairs of items

pub pairs_long : {A B : Type 0} (R : A → B → Type 0) (xs : List A) (ys : List B) → AllPairs R xs ys → length xs ≡ length ys
pairs_long R [] [] h = refl
pairs_long R [] (y ∷ ys) h = absurd h
pairs_long R (x ∷ xs) [] h = absurd h
pairs_long R (x ∷ xs) (y ∷ ys) h = ap suc (pairs_long R xs ys h.1)

pairs_one_more : {A B : Type 0} (R : A → B → Type 0) (xs : List A) (ys : List B) (x : A) (y : B) → AllPairs R xs ys → R x y → AllPairs R (xs ++ x ∷ []) (ys ++ y ∷ [])
pairs_one_more R [] [] x y h r = (r, tt)
pairs_one_more R [] (z ∷ ys) x y h r = absurd h
pairs_one_more R (w ∷ xs) [] x y h r = absurd h
pairs_one_more R (w ∷ xs) (z ∷ ys) x y h r = (h.0, pairs_one_more R xs ys x y h.1 r)

pub pairs_each : {A B : Type 0} (R : A → B → Type 0) (P : B → Type 0) → ((x : A) (y : B) → R x y → P y) → (xs : List A) (ys : List B) → AllPairs R xs ys → All P ys
pairs_each R P f [] [] h = All-nil P
pairs_each R P f [] (y ∷ ys) h = absurd h
pairs_each R P f (x ∷ xs) [] h = absurd h
pairs_each R P f (x ∷ xs) (y ∷ ys) h = All-cons P y ys (f x y h.0) (pairs_each R P f xs ys h.1)

-- ---- several INTs

pub adds_none : {A : Type 0} (R : A → ℤ → Type 0) (xs : List A) (row : Ints) → AddsInts R (take 0 xs) row row
adds_none R xs row = record { ints = []; added = sym (append-nil (ints_of row)); are = subst (λ l. AllPairs R l []) (sym (take_none xs)) tt }

pub adds_more : {A : Type 0} (R : A → ℤ → Type 0) (xs : List A) (i : ℕ) (x d : A) (old was now : Ints) → i < length xs → x ≡ get_or xs i d → AddsOne (R x) was now → AddsInts R (take i xs) old was → AddsInts R (take (i + 1) xs) old now
adds_more R xs i x d old was now l is one so = record {
  ints = so.ints ++ one.x ∷ [];
  added = one.added ∙ ap (λ l. l ++ one.x ∷ []) so.added ∙ append_assoc (ints_of old) so.ints (one.x ∷ []);
  are = subst (λ l. AllPairs R l (so.ints ++ one.x ∷ [])) (ap (λ z. take i xs ++ z ∷ []) is ∙ sym (take_more xs i d l)) (pairs_one_more R (take i xs) so.ints x one.x so.are one.is);
}

pub adds_all : {A : Type 0} (R : A → ℤ → Type 0) (xs : List A) (i : ℕ) (old now : Ints) → length xs ≤ i → AddsInts R (take i xs) old now → AddsInts R xs old now
adds_all R xs i old now l so = subst (λ l. AddsInts R l old now) (take_all i xs l) so

pub ruleset adds_laws = (adds_none, adds_all)

-- ---- one INT

pub key_added : (look : Look Reference) (t : Tree Reference) (x : ℤ) (old new : Ints) (b : Bool) → FitsSigned w64 x → IsInt look t x → (b ≡ true → ints_of new ≡ ints_of old ++ x ∷ []) → b ≡ true → AddsKey look t old new
key_added look t x old new b fits is added e = record { x = x; is = record { is = is; fits = fits }; added = added e }

pub ruleset key_laws = (key_added)

pub part_added : (look : Look Reference) (f : Feed) (e : Expr) (old new : Ints) → f ≡ feed.One e → AddsKey look (view e) old new → AddsPart look f old new
part_added look f e old new is added = record { x = added.x; is = record { tree = view e; one = ap view_feed is ∙ view_feed-One e; number = added.is }; added = added.added }

pub ruleset part_laws = (part_added)
