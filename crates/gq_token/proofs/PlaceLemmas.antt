-- PlaceLemmas: the places of faults are within the script, and at most one place is too deep.
use Rattle.std.proofs.Common.{◌≡◌, ◌≢◌, ℕ, zero, suc, ◌+◌, ◌-◌, ◌<◌, ◌≤◌, Bool, true, false, All, List, [], ◌∷◌, ◌++◌, length, take, drop, get_or, Option, Some, None, inl, inr, refl, ap, sym, subst, ◌∙◌, arith, length-take, length-drop, length-append}
use Rattle.std.specs.Prelude.{if◌then◌else◌, option_map, ◌==◌, unwrap_or}
use Rattle.std.proofs.lemmas.Str.{utf8_valid_len_le}
use Rattle.std.proofs.lemmas.List.{take-append-le, get_or-append-add}
use Rattle.gq_token.specs.declared.token.Token.{Token}
use Rattle.gq_token.specs.declared.fault.LexFault.{LexFault}
use Rattle.gq_token.specs.declared.fault.LexFault.TheVariants.{NotUtf8, BadToken, OpenComment, OpenText, TooBig, OutOfMemory}
use Rattle.gq_token.specs.Texts.{escape_of, at_escape, bad_escape}
use Rattle.gq_token.specs.Cut.{IsSpelledIn}
use Rattle.gq_token.specs.Faults.{HasFault, HasFaultAt, BeginsNothing, BeginsBadEscape, BeginsBadToken, place_of}
use Rattle.gq_token.specs.Nesting.{depth_of, IsTooDeepAt, IsShallow}

-- ---- faults

-- a place that is shifted
further : (later : Option ℕ) (more n size : ℕ) → option_map (λ x. x + more) later ≡ Some n → ((x : ℕ) → later ≡ Some x → x < size) → n < size + more
further None more n size is small = cc is
further (Some x) more n size is small = let same : x + more ≡ n = ap (λ o. unwrap_or o 0) is in omega (arith, same, small x refl)

escape_further : (escape later : Option ℕ) (n size : ℕ) → at_escape escape later ≡ Some n → ((x : ℕ) → later ≡ Some x → x < size) → n < size + 2
escape_further None later n size is small = let same : 0 ≡ n = ap (λ o. unwrap_or o 0) is in omega (arith, same)
escape_further (Some byte) later n size is small = further later 2 n size is small

either_further : (b : Bool) (escape behind after : Option ℕ) (n size : ℕ) → (if b then at_escape escape behind else option_map (λ x. x + 1) after) ≡ Some n → ((x : ℕ) → behind ≡ Some x → x < size) → ((x : ℕ) → after ≡ Some x → x < suc size) → n < suc (suc size)
either_further true escape behind after n size is small large = let less = escape_further escape behind n size is small in omega (arith, less)
either_further false escape behind after n size is small large = let less = further after 1 n (suc size) is large in omega (arith, less)

-- a bad escape is within its text
bad_escape_within : (cs : List ℕ) (n : ℕ) → bad_escape cs ≡ Some n → n < length cs
bad_escape_within [] n is = cc is
bad_escape_within (c ∷ []) n is = cc is
bad_escape_within (c ∷ d ∷ cs) n is = either_further (c == 92) (escape_of d) (bad_escape cs) (bad_escape (d ∷ cs)) n (length cs) is (bad_escape_within cs) (bad_escape_within (d ∷ cs))

bad_token_within : (rest : List ℕ) (place : ℕ) → 0 < length rest → BeginsBadToken rest place → place < length rest
bad_token_within rest place some (inl nothing) = omega (arith, nothing.1)
bad_token_within rest place some (inr bad) =
    let text = take bad.size (drop 1 rest) in
    let below = bad_escape_within text bad.bad.0 bad.bad.1 in
    omega (arith, bad.bad.2, below, length-take bad.size (drop 1 rest), length-drop 1 rest)

-- the place of a fault
pub place_within : (bytes : List ℕ) (fault : LexFault) → (fault ≢ OutOfMemory → HasFault bytes fault) → place_of fault ≤ length bytes
place_within bytes (NotUtf8 at) has = let fault = has (λ is. cc is) in omega (arith, fault.1, utf8_valid_len_le bytes)
place_within bytes (BadToken at) has =
    let fault = has (λ is. cc is) in
    let below = fault.2.below in
    let within = bad_token_within (drop fault.0 bytes) fault.1 (omega (arith, below, length-drop fault.0 bytes)) fault.2.fault in
    omega (arith, fault.3, below, within, length-drop fault.0 bytes)
place_within bytes (OpenComment at) has = omega (arith, (has (λ is. cc is)).below)
place_within bytes (OpenText at) has = omega (arith, (has (λ is. cc is)).below)
place_within bytes (TooBig at) has = omega (arith, (has (λ is. cc is)).below)
place_within bytes OutOfMemory has = omega arith

-- ---- the one place at which a script is too deep

-- a list of tokens that is split at one begins with the part before and that one
front_of : (tokens before behind : List Token) (token : Token) → tokens ≡ before ++ token ∷ behind → take (length before + 1) tokens ≡ before ++ token ∷ []
front_of tokens before behind token whole = ap (take (length before + 1)) whole ∙ cut before
  where
    cut : (front : List Token) → take (length front + 1) (front ++ token ∷ behind) ≡ front ++ token ∷ []
    cut [] = refl
    cut (t ∷ front) = let more : suc (length front) + 1 ≡ suc (length front + 1) = omega arith in rw more (ap (λ l. t ∷ l) (cut front))

module _ (bytes : List ℕ) (tokens : List Token) where
  -- the depth of the tokens up to the place is 65
  raised : (a : ℕ) (deep : IsTooDeepAt bytes tokens a) → depth_of bytes (take (length deep.before + 1) tokens) ≡ 65
  raised a deep = ap (depth_of bytes) (front_of tokens deep.before deep.behind deep.token deep.whole) ∙ deep.raises

  -- the depth of a prefix of the tokens before the place is at most 64
  shallow_before : (a : ℕ) (deep : IsTooDeepAt bytes tokens a) (n : ℕ) → n ≤ length deep.before → depth_of bytes (take n tokens) ≤ 64
  shallow_before a deep n le = subst (λ l. depth_of bytes l ≤ 64) (sym (ap (take n) deep.whole ∙ take-append-le n deep.before (deep.token ∷ deep.behind) le)) (deep.first n le)

  not_before : (a b : ℕ) (p : IsTooDeepAt bytes tokens a) (q : IsTooDeepAt bytes tokens b) → length p.before < length q.before → ⊥
  not_before a b p q less = omega (arith, raised a p, shallow_before b q (length p.before + 1) (omega arith))

  token_at : (a : ℕ) (deep : IsTooDeepAt bytes tokens a) (d : Token) → get_or tokens (length deep.before) d ≡ deep.token
  token_at a deep d =
      let here : length deep.before + 0 ≡ length deep.before = omega arith in
      ap (λ l. get_or l (length deep.before) d) deep.whole ∙ ap (λ n. get_or (deep.before ++ deep.token ∷ deep.behind) n d) (sym here) ∙ get_or-append-add deep.before (deep.token ∷ deep.behind) 0 d

  pub too_deep_unique : (a b : ℕ) → IsTooDeepAt bytes tokens a → IsTooDeepAt bytes tokens b → a ≡ b
  too_deep_unique a b p q =
      let same : length p.before ≡ length q.before = omega (arith, not_before a b p q, not_before b a q p) in
      p.is_place ∙ ap (λ (t : Token). t.from) (sym (token_at a p p.token) ∙ ap (λ n. get_or tokens n p.token) same ∙ token_at b q p.token) ∙ sym q.is_place

  deep_below : (a : ℕ) (deep : IsTooDeepAt bytes tokens a) → length deep.before < length tokens
  deep_below a deep = omega (arith, ap length deep.whole, length-append deep.before (deep.token ∷ deep.behind))

  -- if no prefix is too deep there is no such place
  pub never_deep : (i : ℕ) → length tokens ≤ i → ((n : ℕ) → n ≤ i → depth_of bytes (take n tokens) ≤ 64) → (a : ℕ) → IsTooDeepAt bytes tokens a → ⊥
  never_deep i all shallow a deep = omega (arith, raised a deep, shallow (length deep.before + 1) (omega (arith, all, deep_below a deep)))

  -- the place is within the script
  pub too_deep_within : (a : ℕ) → All (IsSpelledIn bytes) tokens → IsTooDeepAt bytes tokens a → a ≤ length bytes
  too_deep_within a spelled deep =
      let within = deep_below a deep in
      let stands : IsSpelledIn bytes deep.token = subst (IsSpelledIn bytes) (token_at a deep deep.token) (spelled (length deep.before) deep.token within) in
      omega (arith, deep.is_place, stands.ordered, stands.within)
