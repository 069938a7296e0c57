-- LawLemmas: a script has at most one fault, and no tokens if it has one.
use Rattle.std.proofs.Common.{◌≡◌, ℕ, ◌<◌, List, [], ◌∷◌, length, drop, refl, ap, sym, subst, ◌∙◌, arith, length-drop, inl, inr, ◌⊎◌}
use Rattle.std.specs.Str.{IsUtf8}
use Rattle.std.specs.Str.Lossy.{utf8_valid_len}
use Rattle.gq_token.specs.declared.token.Token.{Token}
use Rattle.gq_token.specs.declared.fault.LexFault.{LexFault}
use Rattle.gq_token.specs.declared.fault.LexFault.TheVariants.{NotUtf8, BadToken, OpenComment, OpenText, TooBig, OutOfMemory}
use Rattle.gq_token.specs.Cut.{IsNext, Cuts, HasTokens}
use Rattle.gq_token.specs.Faults.{HasFaultAt, HasFault}
use Rattle.gq_token.specs.Items.{FaultHere}
use Rattle.gq_token.proofs.CutLemmas.{longest_unique, rest_cut}
use Rattle.gq_token.proofs.FaultLemmas.{HasNoNext, IsFound, fault_stops, fault_unique}

-- if the cut is stuck before the end, the bytes have no tokens
no_tokens_where_stuck : (bytes : List ℕ) (at : ℕ) (texts : List (List ℕ)) → Cuts bytes texts (drop at bytes) → at < length bytes → HasNoNext (drop at bytes)
    → (tokens : List Token) → HasTokens bytes tokens → ⊥
no_tokens_where_stuck bytes at texts cuts below none tokens has = stuck (rest_cut bytes texts (drop at bytes) has.texts cuts has.cuts)
  where
    stuck : (more : List (List ℕ)) × Cuts (drop at bytes) more [] → ⊥
    stuck ([], over) = let empty : length (drop at bytes) ≡ 0 = ap length over in omega (arith, length-drop at bytes)
    stuck (text ∷ more, cut) = none text cut.0

-- two cuts that are stuck leave the same rest
stuck_unique : (bytes : List ℕ) (xs ys : List (List ℕ)) (a b : List ℕ) → Cuts bytes xs a → Cuts bytes ys b → HasNoNext a → HasNoNext b → a ≡ b
stuck_unique bytes [] [] a b p q none_a none_b = sym p ∙ q
stuck_unique bytes [] (y ∷ ys) a b p q none_a none_b = absurd (none_a y (subst (λ rest. IsNext rest y) p q.0))
stuck_unique bytes (x ∷ xs) [] a b p q none_a none_b = absurd (none_b x (subst (λ rest. IsNext rest x) q p.0))
stuck_unique bytes (x ∷ xs) (y ∷ ys) a b p q none_a none_b =
    let same : x ≡ y = longest_unique bytes x y p.0.is_longest q.0.is_longest in
    stuck_unique (drop (length x) bytes) xs ys a b p.1 (subst (λ z. Cuts (drop (length z) bytes) ys b) (sym same) q.1) none_a none_b

-- the bytes are UTF-8, those before a place are cut, and this fault begins there
pub record FaultIn (bytes : List ℕ) (fault : LexFault) : Type 0 where
  pub utf8 : IsUtf8 bytes
  pub at : ℕ
  pub below : at < length bytes
  pub texts : List (List ℕ)
  pub cuts : Cuts bytes texts (drop at bytes)
  pub here : FaultHere (drop at bytes) at fault
  pub found : IsFound fault

-- a fault of bytes that are UTF-8 is one of an item
fault_in : (bytes : List ℕ) (fault : LexFault) → IsUtf8 bytes → HasFault bytes fault → FaultIn bytes fault
fault_in bytes (NotUtf8 at) utf8 is = absurd (is.0 utf8)
fault_in bytes (BadToken at) utf8 is =
    record { utf8 = utf8; at = is.0; below = is.2.below; texts = is.2.texts; cuts = is.2.cuts; here = (is.1, is.2.fault, is.3); found = λ e. cc }
fault_in bytes (OpenComment at) utf8 is =
    record { utf8 = utf8; at = at; below = is.below; texts = is.texts; cuts = is.cuts; here = (is.fault, refl); found = λ e. cc }
fault_in bytes (OpenText at) utf8 is = record { utf8 = utf8; at = at; below = is.below; texts = is.texts; cuts = is.cuts; here = (is.fault, refl); found = λ e. cc }
fault_in bytes (TooBig at) utf8 is = record { utf8 = utf8; at = at; below = is.below; texts = is.texts; cuts = is.cuts; here = (is.fault, refl); found = λ e. cc }
fault_in bytes OutOfMemory utf8 is = absurd is

-- and the converse
pub has_fault : (bytes : List ℕ) (fault : LexFault) → FaultIn bytes fault → HasFault bytes fault
has_fault bytes (NotUtf8 place) is = absurd is.here
has_fault bytes (BadToken place) is = (is.at, is.here.0, record { utf8 = is.utf8; below = is.below; texts = is.texts; cuts = is.cuts; fault = is.here.1 }, is.here.2)
has_fault bytes (OpenComment place) is =
    subst (HasFaultAt _ bytes) (sym is.here.1) record { utf8 = is.utf8; below = is.below; texts = is.texts; cuts = is.cuts; fault = is.here.0 }
has_fault bytes (OpenText place) is =
    subst (HasFaultAt _ bytes) (sym is.here.1) record { utf8 = is.utf8; below = is.below; texts = is.texts; cuts = is.cuts; fault = is.here.0 }
has_fault bytes (TooBig place) is =
    subst (HasFaultAt _ bytes) (sym is.here.1) record { utf8 = is.utf8; below = is.below; texts = is.texts; cuts = is.cuts; fault = is.here.0 }
has_fault bytes OutOfMemory is = absurd (is.found refl)

-- the cut is stuck at a fault
stops : (bytes : List ℕ) (fault : LexFault) (is : FaultIn bytes fault) → HasNoNext (drop is.at bytes)
stops bytes fault is = fault_stops (drop is.at bytes) is.at fault is.here is.found

-- bytes that are UTF-8 have one fault
one_in : (bytes : List ℕ) (e f : LexFault) → FaultIn bytes e → FaultIn bytes f → e ≡ f
one_in bytes e f p q =
    let rest : drop p.at bytes ≡ drop q.at bytes =
    stuck_unique bytes p.texts q.texts (drop p.at bytes) (drop q.at bytes) p.cuts q.cuts (stops bytes e p) (stops bytes f q) in
    let place : p.at ≡ q.at = omega (arith, ap length rest, length-drop p.at bytes, length-drop q.at bytes, p.below, q.below) in
    fault_unique (drop q.at bytes) q.at e f (subst (λ n. FaultHere (drop n bytes) n e) place p.here) q.here p.found q.found

-- faulty bytes are UTF-8, or their fault is that they aren't
kind : (bytes : List ℕ) (fault : LexFault) → HasFault bytes fault → IsUtf8 bytes ⊎ ((¬ IsUtf8 bytes) × (fault ≡ NotUtf8 (utf8_valid_len bytes)))
kind bytes (NotUtf8 at) is = inr (is.0, ap NotUtf8 is.1)
kind bytes (BadToken at) is = inl is.2.utf8
kind bytes (OpenComment at) is = inl is.utf8
kind bytes (OpenText at) is = inl is.utf8
kind bytes (TooBig at) is = inl is.utf8
kind bytes OutOfMemory is = absurd is

-- the bytes have at most one fault
pub one_fault_at_most : (bytes : List ℕ) (e f : LexFault) → HasFault bytes e → HasFault bytes f → e ≡ f
one_fault_at_most bytes e f p q = by (kind bytes e p) (kind bytes f q)
  where
    by : IsUtf8 bytes ⊎ ((¬ IsUtf8 bytes) × (e ≡ NotUtf8 (utf8_valid_len bytes))) → IsUtf8 bytes ⊎ ((¬ IsUtf8 bytes) × (f ≡ NotUtf8 (utf8_valid_len bytes))) → e ≡ f
    by (inl utf8) (inl same) = one_in bytes e f (fault_in bytes e utf8 p) (fault_in bytes f utf8 q)
    by (inl utf8) (inr not_utf8) = absurd (not_utf8.0 utf8)
    by (inr not_utf8) (inl utf8) = absurd (not_utf8.0 utf8)
    by (inr a) (inr b) = a.1 ∙ sym b.1

-- and none if they have tokens
pub no_fault_beside : (bytes : List ℕ) (e : LexFault) (tokens : List Token) → HasFault bytes e → HasTokens bytes tokens → ⊥
no_fault_beside bytes e tokens fault has =
    let in_cut = fault_in bytes e has.utf8 fault in
    no_tokens_where_stuck bytes in_cut.at in_cut.texts in_cut.cuts in_cut.below (stops bytes e in_cut) tokens has
