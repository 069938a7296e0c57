-- SomeNesting: the tokens of a script stay shallow, or one of them is too deep.
use Rattle.std.proofs.Common.{ℕ, zero, suc, ◌+◌, ◌-◌, ◌<◌, ◌≤◌, ◌⊎◌, inl, inr, Bool, false, List, length, get_or, refl, arith}
use Rattle.std.specs.Prelude.{codes}
use Rattle.std.proofs.lemmas.Bool.{cases_lt}
use Rattle.gq_token.specs.declared.token.Token.{Token}
use Rattle.gq_token.specs.declared.token.TokenKind.TheVariants.{Word}
use Rattle.gq_token.specs.Kinds.{is_keyword}
use Rattle.gq_token.specs.Nesting.{depth_with, IsTooDeepAt, IsShallow}
use Rattle.gq_token.proofs.NestingLemmas.{IsNested, nested_start, nested_more, nested_deep, nested_end}

module _ (bytes : List ℕ) (tokens : List Token) where
  -- the nesting of the tokens
  abbrev Nests : Type 0
  Nests = ((at : ℕ) × IsTooDeepAt bytes tokens at) ⊎ IsShallow bytes tokens

  -- the default for a token that doesn't exist
  abbrev no_token : Token
  no_token = record { shape = Word; from = 0; to = 0 }

  -- one more token, if the nesting of the rest after it is known
  module _ (left count depth : ℕ) (behind_else : Bool) (low : length tokens - count ≤ suc left) (nested : IsNested bytes tokens count depth behind_else)
      (next : (deeper : ℕ) (behind : Bool) → length tokens - (count + 1) ≤ left → IsNested bytes tokens (count + 1) deeper behind → Nests) where
    abbrev here : Token
    here = get_or tokens count no_token

    abbrev deeper : ℕ
    deeper = depth_with bytes behind_else depth here

    past : count < length tokens → (64 < deeper) ⊎ (deeper ≤ 64) → Nests
    past below (inl deep) = inl (here.from, nested_deep bytes tokens count depth behind_else nested here no_token below refl deeper refl deep)
    past below (inr small) =
        next deeper (is_keyword bytes (codes "ELSE") here) (omega arith)
        (nested_more bytes tokens count depth behind_else nested here no_token below refl deeper refl small)

    one_more : (count < length tokens) ⊎ (length tokens ≤ count) → Nests
    one_more (inr over) = inr (nested_end bytes tokens count depth behind_else nested over)
    one_more (inl below) = past below (cases_lt 64 deeper)

  -- from a token on, with at most `left` tokens left
  nests_from : (left count depth : ℕ) (behind_else : Bool) → length tokens - count ≤ left → IsNested bytes tokens count depth behind_else → Nests
  nests_from zero count depth behind_else low nested = inr (nested_end bytes tokens count depth behind_else nested (omega arith))
  nests_from (suc left) count depth behind_else low nested =
      one_more left count depth behind_else low nested (λ deeper behind less more. nests_from left (count + 1) deeper behind less more) (cases_lt count (length tokens))

  pub shallow_or_deep : Nests
  shallow_or_deep = nests_from (length tokens) 0 0 false (omega arith) (nested_start bytes tokens)
