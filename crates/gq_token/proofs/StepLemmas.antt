-- StepLemmas: one step of the cut, and what stops it.
use Rattle.std.proofs.Common.{◌≡◌, ℕ, ◌+◌, ◌-◌, ◌<◌, ◌≤◌, List, [], ◌++◌, length, take, drop, get_or, Some, ◌≢◌, ap, sym, subst, ◌∙◌, arith, length-take}
use Rattle.std.specs.Str.{IsUtf8}
use Rattle.std.proofs.lemmas.List.{take_rest, get_or-drop}
use Rattle.std.proofs.lemmas.Str.{IsUtf8-drop, IsCharBoundary-before_ascii}
use Rattle.gq_token.specs.declared.token.TokenKind.{TokenKind}
use Rattle.gq_token.specs.declared.token.Token.{Token}
use Rattle.gq_token.specs.declared.fault.LexFault.{LexFault}
use Rattle.gq_token.specs.declared.fault.LexFault.TheVariants.{OutOfMemory}
use Rattle.gq_token.specs.Spelling.{Item, TokenOf, spelled}
use Rattle.gq_token.specs.Cut.{placed, HasTokens, IsSpelledIn}
use Rattle.gq_token.specs.Faults.{HasFault}
use Rattle.gq_token.specs.Items.{IsItem, FaultHere}
use Rattle.gq_token.proofs.CutLemmas.{CutBefore, cut_more}
use Rattle.gq_token.proofs.LawLemmas.{has_fault, no_fault_beside}

module _ (bytes : List ℕ) (at : ℕ) where
  -- the slice that the code passes on: all remaining bytes
  abbrev pub remains : List ℕ
  remains = take (length bytes - at) (drop at bytes)

  -- if they begin with a quote, the remaining bytes are UTF-8
  pub remains_utf8 : IsUtf8 bytes → at < length bytes → get_or remains 0 0 ≡ 34 → IsUtf8 remains
  remains_utf8 utf8 below quote =
      let same : remains ≡ drop at bytes = take_rest bytes at in
      let first : get_or bytes at 0 ≡ 34 = ap (λ n. get_or bytes n 0) {x = at} {y = at + 0} (omega arith) ∙ sym (get_or-drop at bytes 0 0)
      ∙ ap (λ l. get_or l 0 0) (sym same) ∙ quote in
      subst IsUtf8 (sym same) (IsUtf8-drop bytes at utf8 (IsCharBoundary-before_ascii bytes at below (omega (arith, first))))

  -- an item there ends within the bytes
  pub step_within : (size : ℕ) (item : Item) → at ≤ length bytes → IsItem remains size item → at + size ≤ length bytes
  step_within size item within is = omega (arith, is.within, length-take (length bytes - at) (drop at bytes))

  -- a token there is spelled
  pub step_spelled : (size : ℕ) (shape : TokenKind) → at ≤ length bytes → IsItem remains size (TokenOf shape)
      → IsSpelledIn bytes (record { shape = shape; from = at; to = at + size })
  step_spelled size shape within is = record {
    ordered = omega (arith, is.some);
    within = step_within size (TokenOf shape) within is;
    spells = ap (λ n. spelled (take n (drop at bytes))) {x = at + size - at} {y = size} (omega arith) ∙ ap (λ l. spelled (take size l)) (sym (take_rest bytes at))
        ∙ is.spells;
  }

  -- all bytes before the place are cut
  module _ (found : List Token) (had : CutBefore bytes at found) where
    -- an item there is cut too
    pub step_cut : (size : ℕ) (item : Item) (longer : List Token) → IsItem remains size item → longer ≡ found ++ placed (Some item) at (at + size) []
        → CutBefore bytes (at + size) longer
    step_cut size item longer is wrote =
        let real : IsItem (drop at bytes) size item = subst (λ l. IsItem l size item) (take_rest bytes at) is in
        let total : at + size ≡ at + length (take size (drop at bytes)) = omega (arith, real.within, length-take size (drop at bytes)) in
        let tokens : longer ≡ found ++ placed (spelled (take size (drop at bytes))) at (at + size) [] = wrote
        ∙ ap (λ o. found ++ placed o at (at + size) []) (sym real.spells) in
        cut_more bytes at (at + size) found longer (take size (drop at bytes)) had real.is_next total tokens

    -- a fault there is the fault of the bytes
    pub step_fault : (fault : LexFault) → IsUtf8 bytes → at < length bytes → FaultHere remains at fault → fault ≢ OutOfMemory → HasFault bytes fault
    step_fault fault utf8 below is other =
        has_fault bytes fault record
        { utf8 = utf8; at = at; below = below; texts = had.texts; cuts = had.cuts; here = subst (λ l. FaultHere l at fault) (take_rest bytes at) is; found = other }

    -- and then they have no tokens
    pub step_apart : (fault : LexFault) → IsUtf8 bytes → at < length bytes → FaultHere remains at fault → fault ≢ OutOfMemory → (tokens : List Token)
        → HasTokens bytes tokens → ⊥
    step_apart fault utf8 below is other tokens has = no_fault_beside bytes fault tokens (step_fault fault utf8 below is other) has
