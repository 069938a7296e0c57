-- BatchLemmas: a batch of INTs is fed in order.
use Rattle.std.proofs.Common.{◌≡◌, ℕ, zero, suc, ◌+◌, ◌<◌, ◌≤◌, ℤ, List, [], ◌∷◌, length, get_or, refl, sym, ap, ◌∙◌, subst, arith, FitsSigned, w64, to_z, of_z}
use Rattle.std.proofs.lemmas.Int.{to_z-of_z}
use Rattle.gq_value.specs.declared.kind.Input.TheVariants as input
use Rattle.gq_value.specs.declared.value.Value.TheVariants as value
use Rattle.gq_value.specs.Val.{Int}
use Rattle.gq_value.specs.Accums.{One}
use Rattle.gq_value.specs.AccumViews.{given}
use Rattle.gq_value.specs.ViewLaws.{val-Int}
use Rattle.gq_value.proofs.AccumLemmas.{given-One}
use Rattle.gq_nest.specs.declared.content.Content.{Content}
use Rattle.gq_nest.proofs.ShowSteps.{takes_input}
use Rattle.gq_frame.specs.declared.accums.Accums.{Accums}
use Rattle.gq_frame.specs.Pages.{ChangesAt, TakesInt}
use Rattle.gq_exec_feed.specs.Feeding.{TakesBatch}
use Rattle.gq_exec_feed.specs.Steps.{TakesOne}
use Rattle.gq_exec_feed.proofs.FeedLemmas.{SoFar, so_far_first, so_far_more, so_far_all}
use Rattle.gq_exec_feed.specs.Ints.{as_input, as_inputs}

-- the content at a target takes one more INT
pub target_takes : (old : Accums) (cs : List Content) (target : ℕ) (x : ℤ) → target < length old.contents → ChangesAt (TakesInt x) target old.contents cs → TakesOne old (record { slots = old.slots; contents = cs }) target (One (Int x))
target_takes old cs target x l h = record {
  takes = λ m. record { middle = h.middle; same = h.same; was = h.was; now = h.now; stood = h.stood; becomes = takes_input h.was h.now (One (Int x)) h.becomes; contents = h.contents };
  stays = λ m. absurd (omega (arith, l, m));
  slots = refl;
}

-- an INT as an input
pub given_int : (x : ℤ) → given (input.One (value.Int x)) ≡ One (Int x)
given_int x = given-One (value.Int x) ∙ ap One (val-Int x)

-- the input at an index is the INT at that index
input_at : (xs : List (ℕ × ℤ)) (i : ℕ) (d : ℕ × ℤ) → i < length xs → as_input (get_or xs i d) ≡ get_or (as_inputs xs) i (as_input (get_or xs i d))
input_at [] i d l = absurd (omega (arith, l))
input_at (x ∷ xs) zero d l = refl
input_at (x ∷ xs) (suc i) d l = input_at xs i d (omega (arith, l))

as_many : (xs : List (ℕ × ℤ)) → length (as_inputs xs) ≡ length xs
as_many [] = refl
as_many (x ∷ xs) = ap suc (as_many xs)

-- the inputs so far, followed by any others
pub record FedSoFar (old : Accums) (xs : List (ℕ × ℤ)) (i : ℕ) (now : Accums) : Type 0 where
  pub chain : SoFar old (as_inputs xs) i now

pub ints_first : (old : Accums) (xs : List (ℕ × ℤ)) → FedSoFar old xs 0 old
ints_first old xs = record { chain = so_far_first old (as_inputs xs) }

pub ints_more : (old : Accums) (xs : List (ℕ × ℤ)) (i : ℕ) (d : ℕ × ℤ) (was now : Accums) → i < length xs → FitsSigned w64 (get_or xs i d).1
    → TakesOne was now (get_or xs i d).0 (One (Int (to_z w64 (of_z w64 (get_or xs i d).1)))) → FedSoFar old xs i was → FedSoFar old xs (i + 1) now
ints_more old xs i d was now l f takes so = record {
  chain = let p = get_or xs i d in so_far_more old (as_inputs xs) i (as_input p) was now (let n = as_many xs in omega (arith, l, n)) (input_at xs i d l)
      (subst (TakesOne was now p.0) (ap (λ x. One (Int x)) (to_z-of_z w64 p.1 f) ∙ sym (given_int p.1)) takes) so.chain;
}

pub ints_all : (old : Accums) (xs : List (ℕ × ℤ)) (i : ℕ) (now : Accums) → length xs ≤ i → FedSoFar old xs i now → TakesBatch old now (as_inputs xs)
ints_all old xs i now l so = so_far_all old (as_inputs xs) i now (let n = as_many xs in omega (arith, l, n)) so.chain

pub ruleset ints_laws = (ints_first, ints_all)
