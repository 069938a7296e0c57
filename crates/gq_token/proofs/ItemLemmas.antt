-- ItemLemmas: the next item, given what its prefixes spell.
use Rattle.std.proofs.Common.{◌≡◌, ℕ, zero, suc, ◌+◌, ◌-◌, ◌<◌, ◌≤◌, Bool, true, false, List, [], ◌∷◌, ◌++◌, length, take, get_or, Some, None, IsSome, refl, ap, sym, subst, ◌∙◌, arith, length-take, length-append}
use Rattle.std.specs.Prelude.{if◌then◌else◌, nat_eq, codes}
use Rattle.std.specs.List.{list_all, starts_with}
use Rattle.std.proofs.lemmas.List.{get_or-take}
use Rattle.std.proofs.lemmas.List.Folds.{list_all_at}
use Rattle.gq_token.specs.Spelling.{Item, Gap, spelled, Fits}
use Rattle.gq_token.specs.Cut.{IsLongest}
use Rattle.gq_token.specs.Class.{IsRun}
use Rattle.gq_token.specs.Items.{IsItem}

-- no prefix longer than this size spells an item
abbrev pub NoLonger : List ℕ → ℕ → Type 0
NoLonger rest size = (m : ℕ) → size < m → m ≤ length rest → spelled (take m rest) ≡ None

-- a prefix that spells an item, and is the longest, is that item
pub longest_from : (rest : List ℕ) (size : ℕ) (item : Item) → size ≤ length rest → spelled (take size rest) ≡ Some item → NoLonger rest size
    → IsLongest rest (take size rest)
longest_from rest size item within spells longest =
    let same : length (take size rest) ≡ size = omega (arith, length-take size rest) in
    record {
      prefix = ap (λ n. take n rest) same;
      is_item = subst IsSome (sym spells) refl;
      longest = λ m more below. longest m (omega (arith, same, more)) below;
    }

-- so it is the next item
pub item_from :
    (rest : List ℕ) (size : ℕ) (item : Item) → 0 < size → size ≤ length rest → spelled (take size rest) ≡ Some item → NoLonger rest size
    → Fits item → (starts_with nat_eq rest (codes "/*") ≡ true → item ≡ Gap) → IsItem rest size item
item_from rest size item some within spells longest fits comment = record {
  some = some;
  within = within;
  spells = spells;
  is_next = record {
    is_longest = longest_from rest size item within spells longest;
    fits = fitting;
    comment = λ opens. spells ∙ ap Some (comment opens);
  };
}
  where
    fitting : (other : Item) → spelled (take size rest) ≡ Some other → Fits other
    fitting other says = let same : item ≡ other = cc (sym spells ∙ says) in subst Fits same fits

-- a prefix that is longer than `pre`
take_behind : (n : ℕ) (pre tail : List ℕ) (m : ℕ) → n ≡ length pre + m → take n (pre ++ tail) ≡ pre ++ take m tail
take_behind n [] tail m is = ap (λ k. take k tail) {x = n} {y = m} (omega arith)
take_behind zero (c ∷ pre) tail m is = absurd (omega arith)
take_behind (suc n) (c ∷ pre) tail m is = ap (λ l. c ∷ l) (take_behind n pre tail m (omega arith))

-- a run after some first bytes, where the run alone decides whether a long enough prefix spells an item
module _ (pre tail : List ℕ) (low size total : ℕ) (goes : ℕ → Bool) (item : List ℕ → Item) where
  -- what the prefixes spell
  abbrev pub SpelledByRun : Type 0
  SpelledByRun = (m : ℕ) → low ≤ m → spelled (pre ++ take m tail) ≡ (if list_all goes (take m tail) then Some (item (pre ++ take m tail)) else None)

  module _ (run : IsRun goes tail size) (by_run : SpelledByRun) (enough : low ≤ size) (is : total ≡ length pre + size) where
    -- the run spells the item
    pub run_spelled : spelled (take total (pre ++ tail)) ≡ Some (item (pre ++ take size tail))
    run_spelled = ap spelled (take_behind total pre tail size is) ∙ by_run size enough ∙ rw run.inside refl

    -- with more bytes it spells nothing
    longer_spelled : (m : ℕ) → size < m → m ≤ length tail → spelled (pre ++ take m tail) ≡ None
    longer_spelled m more below =
        let here : get_or (take m tail) size 0 ≡ get_or tail size 0 = get_or-take m tail size 0 more in
        let stops : list_all goes (take m tail) ≡ false =
        list_all_at goes (take m tail) size 0 (omega (arith, length-take m tail)) (ap goes here ∙ run.behind (omega arith)) in
        by_run m (omega arith) ∙ rw stops refl

    pub run_longest : NoLonger (pre ++ tail) total
    run_longest m more below =
        let same : m ≡ length pre + (m - length pre) = omega arith in
        ap spelled (take_behind m pre tail (m - length pre) same) ∙ longer_spelled (m - length pre) (omega arith) (omega (arith, length-append pre tail))

    -- the run ends within the bytes
    pub run_within : total ≤ length (pre ++ tail)
    run_within = omega (arith, run.within, length-append pre tail)

    -- so it is the next item
    pub run_item : 0 < total → Fits (item (pre ++ take size tail)) → (starts_with nat_eq (pre ++ tail) (codes "/*") ≡ true → item (pre ++ take size tail) ≡ Gap)
        → IsItem (pre ++ tail) total (item (pre ++ take size tail))
    run_item some fits comment = item_from (pre ++ tail) total (item (pre ++ take size tail)) some run_within run_spelled run_longest fits comment

-- a run whose first byte passes isn't empty
pub run_some : (goes : ℕ → Bool) (c : ℕ) (cs : List ℕ) (size : ℕ) → IsRun goes (c ∷ cs) size → goes c ≡ true → 1 ≤ size
run_some goes c cs zero run go = let stop : goes c ≡ false = run.behind (omega arith) in cc
run_some goes c cs (suc n) run go = omega arith
