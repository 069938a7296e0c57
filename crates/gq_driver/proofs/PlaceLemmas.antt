-- The places of statements, and of the fault of a script, are within its bytes.
use Rattle.std.proofs.Common.{◌≡◌, ℕ, zero, suc, ◌<◌, ◌≤◌, List, [], ◌∷◌, ◌++◌, length, get_or, All, Some, refl, ap, sym, ◌∙◌, subst, arith}
use Rattle.std.specs.Prelude.{slice_get}
use Rattle.std.proofs.lemmas.Option.{get_or_from_slice_get, slice_get_within}
use Rattle.gq_token.specs.declared.token.Token.{Token}
use Rattle.gq_token.specs.Cut.{IsSpelledIn}
use Rattle.gq_token.specs.Nesting.{IsTooDeepAt}
use Rattle.gq_tree.specs.declared.statement.Placed.{Placed}
use Rattle.gq_grammar.specs.Cutting.{BeginsAt, Cuts, IsScript, FailsAt}

module _ (bytes : List ℕ) (tokens : List Token) (spelled : All (IsSpelledIn bytes) tokens) where
  token_within : (t : Token) → IsSpelledIn bytes t → t.from ≤ length bytes
  token_within t is = omega (arith, is.ordered, is.within)

  -- a token of the script
  at_within : (i : ℕ) (t : Token) → slice_get tokens i ≡ Some t → t.from ≤ length bytes
  at_within i t is =
      token_within t (subst (IsSpelledIn bytes) (get_or_from_slice_get tokens i t t is) (spelled i t (slice_get_within tokens i t is)))

  begins_within : (i at : ℕ) → BeginsAt bytes tokens i at → at ≤ length bytes
  begins_within i at (t, is, from) = subst (λ n. n ≤ length bytes) (sym from) (at_within i t is)

  cuts_within : (at : ℕ) (statements : List Placed) (to : ℕ) → Cuts bytes tokens at statements to → (k : ℕ) (d : Placed) → k < length statements → (get_or statements k d).from ≤ length bytes
  cuts_within at [] to cuts k d low = absurd (omega arith)
  cuts_within at (s ∷ others) to (next, is, cuts) zero d low = begins_within is.start s.from is.place
  cuts_within at (s ∷ others) to (next, is, cuts) (suc k) d low = cuts_within next others to cuts k d (omega arith)

  pub script_within : (statements : List Placed) → IsScript bytes tokens statements → All (λ p. p.from ≤ length bytes) statements
  script_within statements script = cuts_within 0 statements script.end script.cuts

  pub fails_within : (number at : ℕ) → FailsAt bytes tokens number at → at ≤ length bytes
  fails_within number at fails = subst (λ n. n ≤ length bytes) (sym fails.place) (at_within fails.start fails.token fails.stands)

  stands : (before : List Token) (token : Token) (behind : List Token) → slice_get (before ++ token ∷ behind) (length before) ≡ Some token
  stands [] token behind = refl
  stands (b ∷ before) token behind = stands before token behind

  pub deep_within : (at : ℕ) → IsTooDeepAt bytes tokens at → at ≤ length bytes
  deep_within at deep =
      subst (λ n. n ≤ length bytes) (sym deep.is_place)
      (at_within (length deep.before) deep.token (ap (λ ts. slice_get ts (length deep.before)) deep.whole ∙ stands deep.before deep.token deep.behind))
