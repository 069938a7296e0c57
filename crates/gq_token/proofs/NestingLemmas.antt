-- NestingLemmas: the depth after the first tokens, one token after another.
use Rattle.std.proofs.Common.{◌≡◌, ℕ, ◌+◌, ◌-◌, ◌<◌, ◌≤◌, Bool, true, false, List, [], ◌∷◌, ◌++◌, length, take, drop, get_or, refl, ap, sym, subst, ◌∙◌, arith, length-take, take-append-drop, inl, inr, ◌⊎◌}
use Rattle.std.specs.Prelude.{if◌then◌else◌, codes}
use Rattle.std.proofs.lemmas.Bool.{cases_lt}
use Rattle.std.proofs.lemmas.List.{take_more, take_all, take-take, drop_more}
use Rattle.std.proofs.lemmas.List.Sums.{fold_more}
use Rattle.gq_token.specs.declared.token.Token.{Token}
use Rattle.gq_token.specs.Kinds.{is_keyword}
use Rattle.gq_token.specs.Nesting.{opens, shuts, is_behind_else, depth_with, level_with, level_of, depth_of, IsTooDeepAt, IsShallow}

-- the depth after the first tokens, and whether the last of them is ELSE
pub record IsNested (bytes : List ℕ) (tokens : List Token) (count depth : ℕ) (behind_else : Bool) : Type 0 where
  pub depth_is : depth ≡ (level_of bytes (take count tokens)).depth
  pub behind_is : behind_else ≡ is_behind_else bytes (level_of bytes (take count tokens)).last
  pub shallow : (n : ℕ) → n ≤ count → depth_of bytes (take n tokens) ≤ 64

-- before all tokens
pub nested_start : (bytes : List ℕ) (tokens : List Token) → IsNested bytes tokens 0 0 false
nested_start bytes tokens = record { depth_is = refl; behind_is = refl; shallow = none }
  where
    none : (n : ℕ) → n ≤ 0 → depth_of bytes (take n tokens) ≤ 64
    none n below = subst (λ k. depth_of bytes (take k tokens) ≤ 64) {x = 0} {y = n} (omega arith) (omega arith)

-- a step changes the depth by at most one level
step_small : (bytes : List ℕ) (behind_else : Bool) (depth : ℕ) (token : Token) → depth_with bytes behind_else depth token ≤ depth + 1
step_small bytes behind_else depth token = by (opens bytes behind_else token) (shuts bytes token)
  where
    by : (o s : Bool) → (if o then depth + 1 else (if s then depth - 1 else depth)) ≤ depth + 1
    by true s = omega arith
    by false true = omega arith
    by false false = omega arith

module _ (bytes : List ℕ) (tokens : List Token) (count depth : ℕ) (behind_else : Bool) (nested : IsNested bytes tokens count depth behind_else)
    (token default : Token) (below : count < length tokens) (is : token ≡ get_or tokens count default) where
  -- the level after the next token
  level_next : level_of bytes (take (count + 1) tokens) ≡ level_with bytes (level_of bytes (take count tokens)) token
  level_next = fold_more (level_with bytes) _ tokens count default below ∙ ap (level_with bytes (level_of bytes (take count tokens))) (sym is)

  -- and its depth
  depth_next : (level_of bytes (take (count + 1) tokens)).depth ≡ depth_with bytes behind_else depth token
  depth_next = ap (λ level. level.depth) level_next ∙ ap (λ b. depth_with bytes b (level_of bytes (take count tokens)).depth token) (sym nested.behind_is)
      ∙ ap (λ d. depth_with bytes behind_else d token) (sym nested.depth_is)

  -- the next token isn't too deep
  pub nested_more : (next : ℕ) → next ≡ depth_with bytes behind_else depth token → next ≤ 64
      → IsNested bytes tokens (count + 1) next (is_keyword bytes (codes "ELSE") token)
  nested_more next step small = record {
    depth_is = step ∙ sym depth_next;
    behind_is = ap (λ level. is_behind_else bytes level.last) (sym level_next);
    shallow = λ n within. by n within (cases_lt n (count + 1));
  }
    where
      last : depth_of bytes (take (count + 1) tokens) ≤ 64
      last = omega (arith, depth_next, step)

      by : (n : ℕ) → n ≤ count + 1 → (n < count + 1) ⊎ (count + 1 ≤ n) → depth_of bytes (take n tokens) ≤ 64
      by n within (inl early) = nested.shallow n (omega arith)
      by n within (inr late) = subst (λ k. depth_of bytes (take k tokens) ≤ 64) {x = count + 1} {y = n} (omega arith) last

  -- it is too deep
  pub nested_deep : (next : ℕ) → next ≡ depth_with bytes behind_else depth token → 64 < next → IsTooDeepAt bytes tokens token.from
  nested_deep next step deep = record {
    before = take count tokens;
    token = token;
    behind = drop (count + 1) tokens;
    whole = sym (take-append-drop count tokens)
        ∙ ap (λ l. take count tokens ++ l) (drop_more tokens count default below ∙ ap (λ t. t ∷ drop (count + 1) tokens) (sym is));
    is_place = refl;
    raises = ap (depth_of bytes) (sym taken) ∙ raised;
    first =
        λ n within. subst (λ l. depth_of bytes l ≤ 64) (sym (take-take n count tokens (omega (arith, length-take count tokens))))
        (nested.shallow n (omega (arith, length-take count tokens)));
  }
    where
      taken : take (count + 1) tokens ≡ take count tokens ++ token ∷ []
      taken = take_more tokens count default below ∙ ap (λ t. take count tokens ++ t ∷ []) (sym is)

      before : depth_of bytes (take count tokens) ≤ 64
      before = nested.shallow count (omega arith)

      raised : depth_of bytes (take (count + 1) tokens) ≡ 65
      raised = omega (arith, depth_next, step, before, nested.depth_is, step_small bytes behind_else depth token)

-- no token was too deep
pub nested_end : (bytes : List ℕ) (tokens : List Token) (count depth : ℕ) (behind_else : Bool) → IsNested bytes tokens count depth behind_else
    → length tokens ≤ count → IsShallow bytes tokens
nested_end bytes tokens count depth behind_else nested over n = by (cases_lt n count)
  where
    by : (n < count) ⊎ (count ≤ n) → depth_of bytes (take n tokens) ≤ 64
    by (inl early) = nested.shallow n (omega arith)
    by (inr late) = subst (λ l. depth_of bytes l ≤ 64) (take_all count tokens over ∙ sym (take_all n tokens (omega arith))) (nested.shallow count (omega arith))
