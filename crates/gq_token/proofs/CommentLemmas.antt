-- CommentLemmas: a comment between `/*` and `*/`.
use Rattle.std.proofs.Common.{◌≡◌, ℕ, zero, suc, ◌+◌, ◌<◌, ◌≤◌, Bool, true, false, List, [], ◌∷◌, length, take, drop, get_or, Some, refl, ap, sym, subst, ◌∙◌, arith}
use Rattle.std.specs.Prelude.{if◌then◌else◌, nat_eq, ◌&&◌}
use Rattle.std.specs.List.{list_all}
use Rattle.gq_token.specs.declared.class.Class.TheVariants as class
use Rattle.gq_token.specs.Spelling.{Gap, spelled, ends_at_close, is_block_comment}
use Rattle.gq_token.specs.Faults.{BeginsOpenComment}
use Rattle.gq_token.specs.Class.{class_of}
use Rattle.gq_token.specs.Items.{IsItem, EndsAt, NeverEnds}
use Rattle.gq_token.proofs.ClassLemmas.{class_block, spelled_block}
use Rattle.gq_token.proofs.ItemLemmas.{NoLonger, item_from}

-- more bytes don't close a closed comment again
ends_once : (bytes : List ℕ) (m n : ℕ) → ends_at_close (take m bytes) ≡ true → m < n → n ≤ length bytes → ends_at_close (take n bytes) ≡ false
ends_once [] m n ends more below = absurd (omega arith)
ends_once (c ∷ cs) zero n ends more below = cc
ends_once (c ∷ cs) (suc m) zero ends more below = absurd (omega arith)
ends_once (c ∷ []) (suc m) (suc n) ends more below = absurd (omega arith)
ends_once (c ∷ d ∷ cs) (suc zero) n ends more below = cc
ends_once (c ∷ d ∷ cs) (suc (suc m)) (suc zero) ends more below = absurd (omega arith)
ends_once (c ∷ d ∷ cs) (suc (suc m)) (suc (suc n)) ends more below =
    by (nat_eq c 42 && nat_eq d 47) refl ends (λ is. ends_once (d ∷ cs) (suc m) (suc n) is (omega arith) (omega arith))
  where
    filled : (es : List ℕ) (k : ℕ) → 0 < k → k ≤ length es → list_all (λ c. false) (take k es) ≡ false
    filled [] k some below = absurd (omega arith)
    filled (e ∷ es) zero some below = absurd (omega arith)
    filled (e ∷ es) (suc k) some below = refl

    by : (b : Bool) → (nat_eq c 42 && nat_eq d 47) ≡ b → (if b then list_all (λ c. false) (take m cs) else ends_at_close (d ∷ take m cs)) ≡ true
        → (ends_at_close (d ∷ take m cs) ≡ true → ends_at_close (d ∷ take n cs) ≡ false) → ends_at_close (c ∷ d ∷ take n cs) ≡ false
    by true star is later = rw star (filled cs n (omega arith) (omega arith))
    by false star is later = rw star (later is)

-- bytes of the class of block comments begin with `/*`
two_bytes : (rest : List ℕ) → 0 < length rest → class_of (get_or rest 0 0) (get_or rest 1 0) ≡ class.BlockComment → (cs : List ℕ) × (rest ≡ 47 ∷ 42 ∷ cs)
two_bytes [] some is = absurd (omega arith)
two_bytes (c ∷ []) some is = absurd (omega (arith, (class_block c 0 is).1))
two_bytes (c ∷ d ∷ cs) some is = let both = class_block c d is in (cs, rw (both.0, both.1) refl)

-- so it has two bytes
pub block_two : (rest : List ℕ) → 0 < length rest → class_of (get_or rest 0 0) (get_or rest 1 0) ≡ class.BlockComment → 2 ≤ length rest
block_two rest some is = let two = two_bytes rest some is in omega (arith, ap length two.1)

-- a comment up to its first `*/` is the next item
pub block_item : (rest : List ℕ) (size total : ℕ) → 0 < length rest → class_of (get_or rest 0 0) (get_or rest 1 0) ≡ class.BlockComment
    → EndsAt ends_at_close (drop 2 rest) size → total ≡ 2 + size → IsItem rest total Gap
block_item rest size total some is ends total_is =
    let two = two_bytes rest some is in
    subst (λ l. IsItem l total Gap) (sym two.1) (item two.0 (subst (λ l. EndsAt ends_at_close (drop 2 l) size) two.1 ends))
  where
    item : (cs : List ℕ) → EndsAt ends_at_close cs size → IsItem (47 ∷ 42 ∷ cs) total Gap
    item cs ends = item_from (47 ∷ 42 ∷ cs) total Gap (omega arith) (omega (arith, ends.within)) spells longer tt (λ opens. refl)
      where
        spells : spelled (take total (47 ∷ 42 ∷ cs)) ≡ Some Gap
        spells = ap (λ n. spelled (take n (47 ∷ 42 ∷ cs))) {x = total} {y = suc (suc size)} (omega arith) ∙ spelled_block (take size cs) ∙ rw ends.ends refl

        longer : NoLonger (47 ∷ 42 ∷ cs) total
        longer zero more below = absurd (omega arith)
        longer (suc zero) more below = absurd (omega arith)
        longer (suc (suc m)) more below = spelled_block (take m cs) ∙ rw (ends_once cs size m ends.ends (omega arith) (omega arith)) refl

-- a comment without an end
pub block_open : (rest : List ℕ) → 0 < length rest → class_of (get_or rest 0 0) (get_or rest 1 0) ≡ class.BlockComment → NeverEnds ends_at_close (drop 2 rest)
    → BeginsOpenComment rest
block_open rest some is never =
    let two = two_bytes rest some is in
    subst BeginsOpenComment (sym two.1) (open_at two.0 (subst (λ l. NeverEnds ends_at_close (drop 2 l)) two.1 never))
  where
    open_at : (cs : List ℕ) → NeverEnds ends_at_close cs → BeginsOpenComment (47 ∷ 42 ∷ cs)
    open_at cs never = record { opens = refl; unclosed = by }
      where
        by : (n : ℕ) → is_block_comment (take n (47 ∷ 42 ∷ cs)) ≡ false
        by zero = refl
        by (suc zero) = refl
        by (suc (suc n)) = never n
