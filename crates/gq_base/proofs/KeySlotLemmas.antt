-- KeySlotLemmas: rows found by their keys in slots, with one row added or removed.
use Rattle.std.proofs.Common.{ℕ, zero, suc, ◌+◌, ◌-◌, ◌<◌, ◌≤◌, ◌≡◌, ◌≢◌, true, false, cond, leb, List, [], ◌∷◌, ◌++◌, Option, Some, None, length, get_or, set, take, replicate, ap, sym, refl, ◌∙◌, subst, arith, length-set, below_more, inl, inr}
use Rattle.std.specs.Prelude.{MatchOption}
use Rattle.std.specs.List.{slice_get}
use Rattle.std.proofs.lemmas.Bool.{cases_lt}
use Rattle.std.proofs.lemmas.Bool.Decides.{eqb_tells, nat_tests}
use Rattle.std.proofs.lemmas.List.{get_or-set_same, get_or-set_other, get_or_append_left, get_or_push, get_or-take, length-take-le, length_push, length-map, get_or-map, map-set, map-append, take-map}
use Rattle.std.proofs.lemmas.Option.{get_or_from_slice_get}
use Rattle.gq_base.specs.Keys.{number_in, numbers_of, links_of, bucket_of}
use Rattle.gq_base.specs.KeySlots.{home_of, IsLatest, IsPlaced, IsHeld, Holds, IsTable, IsPassed, IsEnd}
use Rattle.gq_base.specs.Last.{IsLast}
use Rattle.gq_base.specs.declared.key_chains.Entry.{Entry}
use Rattle.gq_base.proofs.KeyChainLemmas.{same_numbers, no_entry}

-- a search that ends at a free slot, or after the last one, shows that no row has the key
pub none_has : (n slots : ℕ) (keys numbers places : List ℕ) (key p : ℕ) → IsHeld n slots keys numbers places → IsPassed slots key p numbers places
    → (p < slots → (home_of key slots ≤ p) × (get_or places p 0 ≡ 0)) → (k : ℕ) → k < n → get_or keys k 0 ≢ key
none_has n slots keys numbers places key p held passed free k low at =
    let there = held.placed k low in let q = there.0 in let is = there.1 in
    let from : home_of key slots ≤ q = subst (λ x. home_of x slots ≤ q) at is.from in
    elim (cases_lt q p) [
      | inl before ↦ passed.other q from before (is.same ∙ at)
      | inr after ↦ let none = free (omega (arith, is.within, after)) in elim (eqb_tells q p) [
        | inl h ↦ let taken : 0 < get_or places p 0 = subst (λ x. 0 < get_or places x 0) h.1 is.taken in absurd (omega (arith, taken, none.1))
        | inr h ↦
            let taken = (is.way p (subst (λ x. home_of x slots ≤ p) (sym at) none.0) (omega (arith, after, h.1))).0 in absurd (omega (arith, taken, none.1))
      ]
    ]

-- where a search ends is the last row of the key
pub end_is : (n slots : ℕ) (keys numbers places : List ℕ) (key p : ℕ) → IsHeld n slots keys numbers places → IsEnd slots key p numbers places
    → IsLatest keys key n (get_or places p 0)
end_is n slots keys numbers places key p held end = elim (cases_lt 0 (get_or places p 0)) [
  | inl taken ↦ subst (λ x. IsLatest keys x n (get_or places p 0)) (end.found taken) (held.latest p end.within taken)
  | inr free ↦ let is : get_or places p 0 ≡ 0 = omega (arith, free) in
      record {
        low = omega (arith, is);
        same = λ some. absurd (omega (arith, is, some));
        past = λ k over low. none_has n slots keys numbers places key p held end.passed (λ _. (end.from, is)) k low;
      }
]

pub end_none : (n slots : ℕ) (keys numbers places : List ℕ) (key : ℕ) → IsHeld n slots keys numbers places → IsPassed slots key slots numbers places
    → IsLatest keys key n 0
end_none n slots keys numbers places key held passed = record {
  low = omega arith;
  same = λ some. absurd (omega (arith, some));
  past = λ k over low. none_has n slots keys numbers places key slots held passed (λ less. absurd (omega (arith, less))) k low;
}

-- a place read as a row
pub last_of : (keys : List ℕ) (key bound place : ℕ) (row : Option ℕ) → MatchOption row (place ≡ 0) (λ n. place ≡ n + 1) → IsLatest keys key bound place
    → IsLast keys key bound row
last_of keys key bound place None is latest = λ k low. latest.past k (omega (arith, is)) low
last_of keys key bound place (Some n) is latest =
    let here : place - 1 ≡ n = omega (arith, is) in
    (omega (arith, is, latest.low), subst (λ j. get_or keys j 0 ≡ key) here (latest.same (omega (arith, is))), λ k over low. latest.past k (omega (arith, is, over)) low)

-- one slot is written
pub record Writes (p key row : ℕ) (numbers places numbers2 places2 : List ℕ) : Type 0 where
  pub number : get_or numbers2 p 0 ≡ key
  pub place : get_or places2 p 0 ≡ row
  pub other_numbers : (q : ℕ) → q ≢ p → get_or numbers2 q 0 ≡ get_or numbers q 0
  pub other_places : (q : ℕ) → q ≢ p → get_or places2 q 0 ≡ get_or places q 0

-- no other slot has the key for which a search ended
apart : (n slots : ℕ) (keys numbers places : List ℕ) (key p : ℕ) → IsHeld n slots keys numbers places → IsEnd slots key p numbers places
    → (q : ℕ) → q ≢ p → q < slots → 0 < get_or places q 0 → get_or numbers q 0 ≢ key
apart n slots keys numbers places key p held end q not low some at = elim (cases_lt 0 (get_or places p 0)) [
  | inl taken ↦ not (held.alone q p low end.within some taken (at ∙ sym (end.found taken)))
  | inr free ↦
      let is : get_or places p 0 ≡ 0 = omega (arith, free) in let latest = held.latest q low some in
      none_has n slots keys numbers places key p held end.passed (λ _. (end.from, is)) (get_or places q 0 - 1) (omega (arith, some, latest.low)) (latest.same some ∙ at)
]

-- a taken slot stays taken, with its number
stays : (n slots : ℕ) (numbers places numbers2 places2 : List ℕ) (key p : ℕ) → IsEnd slots key p numbers places
    → Writes p key (n + 1) numbers places numbers2 places2
    → (q : ℕ) → 0 < get_or places q 0 → (0 < get_or places2 q 0) × (get_or numbers2 q 0 ≡ get_or numbers q 0)
stays n slots numbers places numbers2 places2 key p end wrote q some = elim (eqb_tells q p) [
  | inl h ↦
      let place : get_or places2 q 0 ≡ n + 1 = ap (λ x. get_or places2 x 0) h.1 ∙ wrote.place in
      let found : get_or numbers p 0 ≡ key = end.found (subst (λ x. 0 < get_or places x 0) h.1 some) in
      (omega (arith, place), ap (λ x. get_or numbers2 x 0) h.1 ∙ wrote.number ∙ sym found ∙ sym (ap (λ x. get_or numbers x 0) h.1))
  | inr h ↦ (subst (λ x. 0 < x) (sym (wrote.other_places q h.1)) some, wrote.other_numbers q h.1)
]

moved : (keys : List ℕ) (bound number number2 place place2 : ℕ) → number ≡ number2 → place ≡ place2 → IsLatest keys number bound place
    → IsLatest keys number2 bound place2
moved keys bound number number2 place place2 one other latest =
    subst (λ x. IsLatest keys number2 bound x) other (subst (λ x. IsLatest keys x bound place) one latest)

-- one more row, at the end of its search
pub one_more : (n slots : ℕ) (keys numbers places numbers2 places2 : List ℕ) (p : ℕ) → IsHeld n slots keys numbers places
    → IsEnd slots (get_or keys n 0) p numbers places → Writes p (get_or keys n 0) (n + 1) numbers places numbers2 places2
    → IsHeld (n + 1) slots keys numbers2 places2
one_more n slots keys numbers places numbers2 places2 p held end wrote =
    let key = get_or keys n 0 in
    let taken = stays n slots numbers places numbers2 places2 key p end wrote in
    let other = apart n slots keys numbers places key p held end in
    let before : (q : ℕ) → q ≢ p → 0 < get_or places2 q 0 → 0 < get_or places q 0 = λ q not some. subst (λ x. 0 < x) (wrote.other_places q not) some in
    let newest : IsLatest keys key (n + 1) (n + 1) = record {
      low = omega arith;
      same = λ some. ap (λ j. get_or keys j 0) (let e : n + 1 - 1 ≡ n = omega arith in e);
      past = λ k over low. absurd (omega (arith, over, low));
    } in
    record {
      placed = below_more (λ i. (q : ℕ) × IsPlaced slots keys numbers2 places2 i q) n
          (λ i low. let there = held.placed i low in let is = there.1 in let t = taken there.0 is.taken in (
            there.0,
            record {
              within = is.within;
              from = is.from;
              taken = t.0;
              same = t.1 ∙ is.same;
              way = λ q from under. let w = is.way q from under in let s = taken q w.0 in (s.0, (w.1.0, w.1.1, w.1.2 ∙ sym s.1));
            },
          )) (
            p,
            record {
              within = end.within;
              from = end.from;
              taken = omega (arith, wrote.place);
              same = wrote.number;
              way = λ q from under.
                  let some = end.passed.taken q from under in let latest = held.latest q (omega (arith, under, end.within)) some in let s = taken q some in
                  (s.0, (get_or places q 0 - 1, omega (arith, some, latest.low), latest.same some ∙ sym s.1));
            },
          );
      latest = λ q low some. elim (eqb_tells q p) [
        | inl h ↦ moved keys (n + 1) key (get_or numbers2 q 0) (n + 1) (get_or places2 q 0) (sym (ap (λ x. get_or numbers2 x 0) h.1 ∙ wrote.number))
            (sym (ap (λ x. get_or places2 x 0) h.1 ∙ wrote.place)) newest
        | inr h ↦ let was = before q h.1 some in let latest = held.latest q low was in
            moved keys (n + 1) (get_or numbers q 0) (get_or numbers2 q 0) (get_or places q 0) (get_or places2 q 0) (sym (wrote.other_numbers q h.1)) (sym (wrote.other_places q h.1))
            (record {
              low = omega (arith, latest.low);
              same = latest.same;
              past = λ k over under. elim (cases_lt k n) [
                | inl less ↦ latest.past k over less
                | inr more ↦ λ at. other q h.1 low was (sym at ∙ ap (λ j. get_or keys j 0) (let e : k ≡ n = omega (arith, more, under) in e))
              ];
            })
      ];
      alone = λ a b first second one two same. elim (eqb_tells a p) [
        | inl h ↦ elim (eqb_tells b p) [
          | inl g ↦ h.1 ∙ sym g.1
          | inr g ↦ absurd (other b g.1 second (before b g.1 two) (sym (wrote.other_numbers b g.1) ∙ sym same ∙ ap (λ x. get_or numbers2 x 0) h.1 ∙ wrote.number))
        ]
        | inr h ↦ elim (eqb_tells b p) [
          | inl g ↦ absurd (other a h.1 first (before a h.1 one) (sym (wrote.other_numbers a h.1) ∙ same ∙ ap (λ x. get_or numbers2 x 0) g.1 ∙ wrote.number))
          | inr g ↦ held.alone a b first second (before a h.1 one) (before b g.1 two) (sym (wrote.other_numbers a h.1) ∙ same ∙ wrote.other_numbers b g.1)
        ]
      ];
    }

-- without the last row, whose slot goes to the row before it of the same key, or is free again
pub one_less : (n slots : ℕ) (keys numbers places places2 : List ℕ) (p b : ℕ) → IsHeld (n + 1) slots keys numbers places → p < slots → 0 < get_or places p 0
    → get_or numbers p 0 ≡ get_or keys n 0 → IsLatest keys (get_or keys n 0) n b → get_or places2 p 0 ≡ b
    → ((q : ℕ) → q ≢ p → get_or places2 q 0 ≡ get_or places q 0) → IsHeld n slots keys numbers places2
one_less n slots keys numbers places places2 p b held within taken same latest here others =
    let stay : (q : ℕ) → 0 < get_or places q 0 → (j : ℕ) → j < n → get_or keys j 0 ≡ get_or numbers q 0 → 0 < get_or places2 q 0 =
    λ q some j less at. elim (eqb_tells q p) [
      | inl h ↦ let place : get_or places2 q 0 ≡ b = ap (λ x. get_or places2 x 0) h.1 ∙ here in elim (cases_lt 0 b) [
        | inl more ↦ omega (arith, more, place)
        | inr none ↦ absurd (latest.past j (omega (arith, none)) less (at ∙ ap (λ x. get_or numbers x 0) h.1 ∙ same))
      ]
      | inr h ↦ subst (λ x. 0 < x) (sym (others q h.1)) some
    ] in
    let was : (q : ℕ) → 0 < get_or places2 q 0 → 0 < get_or places q 0 = λ q some. elim (eqb_tells q p) [
      | inl h ↦ subst (λ x. 0 < get_or places x 0) (sym h.1) taken
      | inr h ↦ subst (λ x. 0 < x) (others q h.1) some
    ] in
    record {
      placed = λ i low. let there = held.placed i (omega (arith, low)) in let is = there.1 in (
        there.0,
        record {
          within = is.within;
          from = is.from;
          taken = stay there.0 is.taken i low (sym is.same);
          same = is.same;
          way = λ q from under. let w = is.way q from under in (stay q w.0 w.1.0 (omega (arith, w.1.1, low)) w.1.2, w.1);
        },
      );
      latest = λ q low some. elim (eqb_tells q p) [
        | inl h ↦ moved keys n (get_or keys n 0) (get_or numbers q 0) b (get_or places2 q 0) (sym (ap (λ x. get_or numbers x 0) h.1 ∙ same))
            (sym (ap (λ x. get_or places2 x 0) h.1 ∙ here)) latest
        | inr h ↦ let old = held.latest q low (was q some) in
            moved keys n (get_or numbers q 0) (get_or numbers q 0) (get_or places q 0) (get_or places2 q 0) refl (sym (others q h.1))
            (record {
              low = elim (cases_lt n (get_or places q 0)) [
                | inl full ↦ absurd (h.1 (held.alone q p low within (was q some) taken
                    (sym (old.same (was q some)) ∙ ap (λ j. get_or keys j 0) (let e : get_or places q 0 - 1 ≡ n = omega (arith, full, old.low) in e) ∙ sym same)))
                | inr few ↦ few
              ];
              same = old.same;
              past = λ k over under. old.past k over (omega (arith, under));
            })
      ];
      alone = λ x y first second one two at. held.alone x y first second (was x one) (was y two) at;
    }

-- only the keys below the bound count
pub latest_agree : (keys other : List ℕ) (key bound place : ℕ) → ((i : ℕ) → i < bound → get_or keys i 0 ≡ get_or other i 0)
    → IsLatest keys key bound place → IsLatest other key bound place
latest_agree keys other key bound place agree latest = record {
  low = latest.low;
  same = λ some. sym (agree (place - 1) (omega (arith, some, latest.low))) ∙ latest.same some;
  past = λ k over low at. latest.past k over low (agree k low ∙ at);
}

pub held_agree : (n slots : ℕ) (keys other numbers places : List ℕ) → ((i : ℕ) → i < n → get_or keys i 0 ≡ get_or other i 0)
    → IsHeld n slots keys numbers places → IsHeld n slots other numbers places
held_agree n slots keys other numbers places agree held = record {
  placed = λ i low. let there = held.placed i low in let is = there.1 in (
    there.0,
    record {
      within = is.within;
      from = subst (λ x. home_of x slots ≤ there.0) (agree i low) is.from;
      taken = is.taken;
      same = is.same ∙ agree i low;
      way = λ q from under. let w = is.way q (subst (λ x. home_of x slots ≤ q) (sym (agree i low)) from) under in
          (w.0, (w.1.0, w.1.1, sym (agree w.1.0 (omega (arith, w.1.1, low))) ∙ w.1.2));
    },
  );
  latest = λ q low some. latest_agree keys other (get_or numbers q 0) n (get_or places q 0) agree (held.latest q low some);
  alone = held.alone;
}

-- no rows
pub none_held : (slots : ℕ) (keys numbers places : List ℕ) → ((q : ℕ) → get_or places q 0 ≡ 0) → IsHeld 0 slots keys numbers places
none_held slots keys numbers places free = record {
  placed = λ i low. absurd (omega (arith, low));
  latest = λ q low some. absurd (omega (arith, some, free q));
  alone = λ x y first second one two at. absurd (omega (arith, one, free x));
}

-- slots without rows
pub free_slots : (n q : ℕ) → get_or (links_of (replicate n no_entry)) q 0 ≡ 0
free_slots zero q = refl
free_slots (suc n) zero = refl
free_slots (suc n) (suc q) = free_slots n q

-- one slot more is passed
pub passed_more : (slots key place : ℕ) (numbers places : List ℕ) → IsPassed slots key place numbers places → 0 < get_or places place 0
    → get_or numbers place 0 ≢ key → IsPassed slots key (place + 1) numbers places
passed_more slots key place numbers places passed taken other = record {
  taken = λ q from low. below_more (λ j. home_of key slots ≤ j → 0 < get_or places j 0) place (λ j under start. passed.taken j start under) (λ start. taken) q low from;
  other = λ q from low. below_more (λ j. home_of key slots ≤ j → get_or numbers j 0 ≢ key) place (λ j under start. passed.other j start under) (λ start. other) q low from;
}

-- the same over slots and entries: an entry is written into a slot
written : (slots : List Entry) (p : ℕ) (e : Entry) (key place : ℕ) → p < length slots → number_in e ≡ key → e.before ≡ place
    → Writes p key place (numbers_of slots) (links_of slots) (numbers_of (set slots p e)) (links_of (set slots p e))
written slots p e key place low one other = record {
  number = ap (λ l. get_or l p 0) (map-set number_in slots p e)
      ∙ get_or-set_same (numbers_of slots) p (number_in e) 0 (omega (arith, low, length-map slots number_in)) ∙ one;
  place = ap (λ l. get_or l p 0) (map-set (λ (x : Entry). x.before) slots p e)
      ∙ get_or-set_same (links_of slots) p e.before 0 (omega (arith, low, length-map slots (λ (x : Entry). x.before))) ∙ other;
  other_numbers = λ q not. ap (λ l. get_or l q 0) (map-set number_in slots p e) ∙ get_or-set_other (numbers_of slots) p q (number_in e) 0 not;
  other_places = λ q not. ap (λ l. get_or l q 0) (map-set (λ (x : Entry). x.before) slots p e) ∙ get_or-set_other (links_of slots) p q e.before 0 not;
}

-- a row is put where its search ends
pub put_row : (slots : List Entry) (n : ℕ) (keys : List ℕ) (p : ℕ) (e : Entry) → Holds slots n keys
    → IsEnd (length slots) (get_or keys n 0) p (numbers_of slots) (links_of slots) → number_in e ≡ get_or keys n 0 → e.before ≡ n + 1 → Holds (set slots p e) (n + 1) keys
put_row slots n keys p e held end one other =
    rw length-set (one_more n (length slots) keys (numbers_of slots) (links_of slots) (numbers_of (set slots p e)) (links_of (set slots p e)) p held end
    (written slots p e (get_or keys n 0) (n + 1) end.within one other))

-- one more entry: the keys and the places of the others stay
pub table_more : (slots entries : List Entry) (p : ℕ) (e s : Entry) (key : ℕ) → IsTable slots entries
    → IsEnd (length slots) key p (numbers_of slots) (links_of slots) → number_in e ≡ key → e.before ≡ get_or (links_of slots) p 0
    → number_in s ≡ key → s.before ≡ length entries + 1 → IsTable (set slots p s) (entries ++ e ∷ [])
table_more slots entries p e s key old end one before other row =
    let n = length entries in let keys = numbers_of entries in let links = links_of entries in
    let more = numbers_of (entries ++ e ∷ []) in let after = links_of (entries ++ e ∷ []) in
    let agree : (i : ℕ) → i < n → get_or keys i 0 ≡ get_or more i 0 = λ i low.
    sym (ap (λ l. get_or l i 0) (map-append number_in entries (e ∷ [])) ∙ get_or_append_left keys (number_in e ∷ []) 0 i (omega (arith, low, length-map entries number_in))) in
    let linked : (i : ℕ) → i < n → get_or links i 0 ≡ get_or after i 0 = λ i low.
    sym (ap (λ l. get_or l i 0) (map-append (λ (x : Entry). x.before) entries (e ∷ []))
    ∙ get_or_append_left links (e.before ∷ []) 0 i (omega (arith, low, length-map entries (λ (x : Entry). x.before)))) in
    let here : get_or more n 0 ≡ key =
    ap (λ l. get_or l n 0) (map-append number_in entries (e ∷ [])) ∙ get_or_push keys (number_in e) 0 n (length-map entries number_in) ∙ one in
    let link : get_or after n 0 ≡ get_or (links_of slots) p 0 =
    ap (λ l. get_or l n 0) (map-append (λ (x : Entry). x.before) entries (e ∷ []))
    ∙ get_or_push links e.before 0 n (length-map entries (λ (x : Entry). x.before)) ∙ before in
    let count : length (entries ++ e ∷ []) ≡ n + 1 = length_push entries e in
    record {
      short = omega (arith, length-set slots p s, old.short);
      held = subst (λ m. Holds (set slots p s) m more) (sym count)
          (put_row slots n more p s (held_agree n (length slots) keys more (numbers_of slots) (links_of slots) agree old.held)
          (subst (λ k. IsEnd (length slots) k p (numbers_of slots) (links_of slots)) (sym here) end) (other ∙ sym here) row);
      linked = λ i low. below_more (λ j. IsLatest more (get_or more j 0) j (get_or after j 0)) n
          (λ j under. moved more j (get_or keys j 0) (get_or more j 0) (get_or links j 0) (get_or after j 0) (agree j under) (linked j under)
          (latest_agree keys more (get_or keys j 0) j (get_or links j 0) (λ k less. agree k (omega (arith, less, under))) (old.linked j under)))
          (moved more n key (get_or more n 0) (get_or (links_of slots) p 0) (get_or after n 0) (sym here) (sym link)
          (latest_agree keys more key n (get_or (links_of slots) p 0) agree (end_is n (length slots) keys (numbers_of slots) (links_of slots) key p old.held end)))
          i (omega (arith, low, count));
    }

-- a search for the key of a row ends at a taken slot
row_taken : (n slots : ℕ) (keys numbers places : List ℕ) (key p : ℕ) → IsHeld (n + 1) slots keys numbers places → IsEnd slots key p numbers places
    → get_or keys n 0 ≡ key → 0 < get_or places p 0
row_taken n slots keys numbers places key p held end at = elim (cases_lt 0 (get_or places p 0)) [
  | inl taken ↦ taken
  | inr free ↦ let is : get_or places p 0 ≡ 0 = omega (arith, free) in
      absurd (none_has (n + 1) slots keys numbers places key p held end.passed (λ _. (end.from, is)) n (omega arith) at)
]

-- one entry less: its slot goes to the row before it of the same key
pub table_less : (slots entries : List Entry) (n p : ℕ) (e s : Entry) → length entries ≡ n + 1 → slice_get entries n ≡ Some e → IsTable slots entries
    → IsEnd (length slots) (number_in e) p (numbers_of slots) (links_of slots) → number_in s ≡ number_in (get_or slots p no_entry) → s.before ≡ e.before
    → IsTable (set slots p s) (take n entries)
table_less slots entries n p e s long is old end same before =
    let keys = numbers_of entries in let links = links_of entries in let numbers = numbers_of slots in let places = links_of slots in
    let fewer = numbers_of (take n entries) in let after = links_of (take n entries) in
    let under : n < length entries = omega (arith, long) in
    let number : get_or keys n 0 ≡ number_in e = get_or-map number_in entries n e 0 under ∙ ap number_in (get_or_from_slice_get entries n e e is) in
    let link : get_or links n 0 ≡ e.before = get_or-map (λ (x : Entry). x.before) entries n e 0 under ∙ ap (λ (x : Entry). x.before) (get_or_from_slice_get entries n e e is) in
    let all : Holds slots (n + 1) keys = subst (λ m. Holds slots m keys) long old.held in
    let taken = row_taken n (length slots) keys numbers places (number_in e) p all end number in
    let wrote = written slots p s (number_in s) e.before end.within refl before in
    let less = one_less n (length slots) keys numbers places (links_of (set slots p s)) p e.before all end.within taken (end.found taken ∙ sym number)
    (moved keys n (get_or keys n 0) (get_or keys n 0) (get_or links n 0) e.before refl link (old.linked n under)) wrote.place wrote.other_places in
    let agree : (i : ℕ) → i < n → get_or keys i 0 ≡ get_or fewer i 0 = λ i low.
    sym (ap (λ l. get_or l i 0) (sym (take-map number_in n entries)) ∙ get_or-take n keys i 0 low) in
    let linked : (i : ℕ) → i < n → get_or links i 0 ≡ get_or after i 0 = λ i low.
    sym (ap (λ l. get_or l i 0) (sym (take-map (λ (x : Entry). x.before) n entries)) ∙ get_or-take n links i 0 low) in
    let count : length (take n entries) ≡ n = length-take-le n entries (omega (arith, long)) in
    record {
      short = omega (arith, length-set slots p s, old.short);
      held = rw (length-set, count, same_numbers slots p s same)
          (held_agree n (length slots) keys fewer numbers (links_of (set slots p s)) agree less);
      linked = λ i low. let low : i < n = omega (arith, low, count) in
          moved fewer i (get_or keys i 0) (get_or fewer i 0) (get_or links i 0) (get_or after i 0) (agree i low) (linked i low)
          (latest_agree keys fewer (get_or keys i 0) i (get_or links i 0) (λ k less. agree k (omega (arith, less, low))) (old.linked i (omega (arith, low, long))));
    }

-- a search for the key of a row doesn't pass all slots
pub row_there : (slots entries : List Entry) (n : ℕ) (e : Entry) → length entries ≡ n + 1 → slice_get entries n ≡ Some e → IsTable slots entries
    → IsPassed (length slots) (number_in e) (length slots) (numbers_of slots) (links_of slots) → ⊥
row_there slots entries n e long is old passed =
    let under : n < length entries = omega (arith, long) in
    let number : get_or (numbers_of entries) n 0 ≡ number_in e = get_or-map number_in entries n e 0 under ∙ ap number_in (get_or_from_slice_get entries n e e is) in
    (end_none (length entries) (length slots) (numbers_of entries) (numbers_of slots) (links_of slots) (number_in e) old.held passed).past n (omega arith) under number

-- the home of a key
pub home_low : (key slots : ℕ) → slots ≤ 512 → home_of key slots ≡ 0
unfolding home_of
home_low key slots low = ap (λ t. cond t 0 (bucket_of key (slots - 512))) (let is : leb slots 512 ≡ true = grind (arith, nat_tests) in is)

pub home_high : (key slots : ℕ) → 512 < slots → home_of key slots ≡ bucket_of key (slots - 512)
unfolding home_of
home_high key slots high = ap (λ t. cond t 0 (bucket_of key (slots - 512))) (let is : leb slots 512 ≡ false = grind (arith, nat_tests) in is)
