-- FaultLemmas: at a faulty item no next item can be cut, and it has no other fault.
use Rattle.std.proofs.Common.{◌≡◌, ℕ, zero, suc, ◌^◌, ◌<◌, ◌≤◌, Bool, true, false, List, [], ◌∷◌, length, take, drop, Option, Some, None, ◌≢◌, IsSome, refl, ap, sym, subst, ◌∙◌, arith, inl, inr, ◌⊎◌}
use Rattle.std.specs.Prelude.{if◌then◌else◌, nat_eq, codes, option_map, ◌&&◌}
use Rattle.std.specs.List.{starts_with}
use Rattle.std.proofs.lemmas.Bool.{and_parts, eqb-true, cases_lt}
use Rattle.std.proofs.lemmas.List.{take_all}
use Rattle.gq_token.specs.declared.token.TokenKind.TheVariants.{Number, Text}
use Rattle.gq_token.specs.declared.fault.LexFault.{LexFault}
use Rattle.gq_token.specs.declared.fault.LexFault.TheVariants.{NotUtf8, BadToken, OpenComment, OpenText, TooBig, OutOfMemory}
use Rattle.gq_token.specs.Texts.{closes, said, bad_escape}
use Rattle.gq_token.specs.Spelling.{Item, Gap, TokenOf, spelled, ends_at_close, is_block_comment}
use Rattle.gq_token.specs.Cut.{IsLongest, IsNext}
use Rattle.gq_token.specs.Faults.{BeginsOpenComment, BeginsOpenText, BeginsNothing, BeginsBadEscape, BeginsBadToken, BeginsTooBig}
use Rattle.gq_token.specs.Items.{FaultHere}
use Rattle.gq_token.proofs.ClassLemmas.{spelled_nothing, spelled_slash, spelled_block, spelled_text}
use Rattle.gq_token.proofs.CutLemmas.{prefix_within, longest_unique}
use Rattle.gq_token.proofs.TextLemmas.{said_closes, said_good, closes_once}

-- no next item can be cut from the bytes
abbrev pub HasNoNext : List ℕ → Type 0
HasNoNext bytes = (text : List ℕ) → IsNext bytes text → ⊥

-- bytes that begin with `/*`
starts_comment : (bytes : List ℕ) → starts_with nat_eq bytes (codes "/*") ≡ true → (cs : List ℕ) × (bytes ≡ 47 ∷ 42 ∷ cs)
starts_comment [] opens = cc
starts_comment (c ∷ []) opens = let parts = and_parts (nat_eq 47 c) false opens in cc (parts.1)
starts_comment (c ∷ d ∷ cs) opens =
    let parts = and_parts (nat_eq 47 c) (nat_eq 42 d && true) opens in
    let more = and_parts (nat_eq 42 d) true parts.1 in
    let first : 47 ≡ c = eqb-true 47 c parts.0 in
    let second : 42 ≡ d = eqb-true 42 d more.0 in
    (cs, cc (first, second))

-- bytes that begin with a quote
starts_text : (bytes : List ℕ) → starts_with nat_eq bytes (codes "\"") ≡ true → (cs : List ℕ) × (bytes ≡ 34 ∷ cs)
starts_text [] opens = cc
starts_text (c ∷ cs) opens =
    let parts = and_parts (nat_eq 34 c) true opens in
    let first : 34 ≡ c = eqb-true 34 c parts.0 in
    (cs, cc first)

-- a longest item is the prefix of its length
longest_spells : (bytes text : List ℕ) → IsLongest bytes text → IsSome (spelled (take (length text) bytes))
longest_spells bytes text longest = subst (λ t. IsSome (spelled t)) (sym longest.prefix) longest.is_item

-- an option isn't both None and Some
not_both : (o : Option Item) → o ≡ None → IsSome o → ⊥
not_both o none some = let no : IsSome {T = Item} None = subst IsSome none some in cc

-- what begins with `/*` spells a gap or a symbol, and a gap only if it is a closed comment
comment_gap : (cs : List ℕ) (n : ℕ) → spelled (take n (47 ∷ 42 ∷ cs)) ≡ Some Gap → is_block_comment (take n (47 ∷ 42 ∷ cs)) ≡ true
comment_gap cs zero is = cc (sym spelled_nothing ∙ is)
comment_gap cs (suc zero) is = cc (sym spelled_slash ∙ is)
comment_gap cs (suc (suc m)) is = by (ends_at_close (take m cs)) refl (sym (spelled_block (take m cs)) ∙ is)
  where
    by : (b : Bool) → ends_at_close (take m cs) ≡ b → (if b then Some Gap else None) ≡ Some Gap → ends_at_close (take m cs) ≡ true
    by true ends same = ends
    by false ends same = cc

-- what begins with a quote spells an item only if it is a closed text
text_says : (cs : List ℕ) (n : ℕ) → IsSome (spelled (take n (34 ∷ cs))) → (m : ℕ) × (ys : List ℕ) × (said (take m cs) ≡ Some ys)
text_says cs zero some = absurd (not_both (spelled []) spelled_nothing some)
text_says cs (suc m) some = by (said (take m cs)) refl (subst IsSome (spelled_text (take m cs)) some)
  where
    by : (o : Option (List ℕ)) → said (take m cs) ≡ o → IsSome (option_map (λ bytes. TokenOf (Text bytes)) o)
        → (m : ℕ) × (ys : List ℕ) × (said (take m cs) ≡ Some ys)
    by None is some = cc
    by (Some ys) is some = (m, ys, is)

-- two prefixes that are closed texts are equal
one_text : (cs : List ℕ) (m n : ℕ) → closes (take m cs) ≡ true → closes (take n cs) ≡ true → take m cs ≡ take n cs
one_text cs m n p q = by (cases_lt m n) (cases_lt n m) (cases_lt (length cs) n) (cases_lt (length cs) m)
  where
    shorter : (a b : ℕ) → closes (take a cs) ≡ true → closes (take b cs) ≡ true → a < b → (length cs < b) ⊎ (b ≤ length cs) → (length cs ≤ a) ⊎ (a < length cs)
        → take a cs ≡ take b cs
    shorter a b p q less (inr within) far = let no : closes (take b cs) ≡ false = closes_once cs a b p less within in cc
    shorter a b p q less (inl over) (inl past) = take_all a cs past ∙ sym (take_all b cs (omega arith))
    shorter a b p q less (inl over) (inr near) =
        let all : take (length cs) cs ≡ take b cs = take_all (length cs) cs (omega arith) ∙ sym (take_all b cs (omega arith)) in
        let no : closes (take (length cs) cs) ≡ false = closes_once cs a (length cs) p near (omega arith) in cc

    other : (a : ℕ) → (length cs < a) ⊎ (a ≤ length cs) → (length cs ≤ a) ⊎ (a < length cs)
    other a o = cases_le (length cs) a
      where
        cases_le : (x y : ℕ) → (x ≤ y) ⊎ (y < x)
        cases_le x y = flip (cases_lt y x)
          where
            flip : (y < x) ⊎ (x ≤ y) → (x ≤ y) ⊎ (y < x)
            flip (inl l) = inr l
            flip (inr l) = inl l

    by : (m < n) ⊎ (n ≤ m) → (n < m) ⊎ (m ≤ n) → (length cs < n) ⊎ (n ≤ length cs) → (length cs < m) ⊎ (m ≤ length cs) → take m cs ≡ take n cs
    by (inl less) _ over_n over_m = shorter m n p q less over_n (other m over_m)
    by (inr _) (inl less) over_n over_m = sym (shorter n m q p less over_m (other n over_n))
    by (inr a) (inr b) over_n over_m = ap (λ k. take k cs) {x = m} {y = n} (omega arith)

-- at an open comment
open_comment_stops : (rest : List ℕ) → BeginsOpenComment rest → HasNoNext rest
open_comment_stops rest fault text next =
    let starts = starts_comment rest fault.opens in
    let gap : spelled (take (length text) rest) ≡ Some Gap = ap spelled next.is_longest.prefix ∙ next.comment fault.opens in
    let closed : is_block_comment (take (length text) (47 ∷ 42 ∷ starts.0)) ≡ true =
    comment_gap starts.0 (length text) (subst (λ b. spelled (take (length text) b) ≡ Some Gap) starts.1 gap) in
    let none : is_block_comment (take (length text) (47 ∷ 42 ∷ starts.0)) ≡ false =
    subst (λ b. is_block_comment (take (length text) b) ≡ false) starts.1 (fault.unclosed (length text)) in
    cc

-- the value of the bytes after the quote, if they are a text
said_behind : (rest text : List ℕ) → starts_with nat_eq rest (codes "\"") ≡ true → IsLongest rest text
    → (m : ℕ) × (ys : List ℕ) × (said (take m (drop 1 rest)) ≡ Some ys)
said_behind rest text opens longest =
    let starts = starts_text rest opens in
    let found = text_says starts.0 (length text) (subst (λ b. IsSome (spelled (take (length text) b))) starts.1 (longest_spells rest text longest)) in
    (found.0, found.1, subst (λ b. said (take found.0 (drop 1 b)) ≡ Some found.1) (sym starts.1) found.2)

-- at an open text
open_text_stops : (rest : List ℕ) → BeginsOpenText rest → HasNoNext rest
open_text_stops rest fault text next =
    let found = said_behind rest text fault.opens next.is_longest in
    let closed : closes (take found.0 (drop 1 rest)) ≡ true = said_closes (take found.0 (drop 1 rest)) found.1 found.2 in
    let none : closes (take found.0 (drop 1 rest)) ≡ false = fault.unclosed found.0 in
    cc

-- if nothing begins
nothing_stops : (rest : List ℕ) → BeginsNothing rest → HasNoNext rest
nothing_stops rest fault text next =
    not_both (spelled (take (length text) rest)) (fault.no_item (length text) (prefix_within rest text next.is_longest.prefix)) (longest_spells rest text next.is_longest)

-- at a text with a bad escape
bad_escape_stops : (rest : List ℕ) (n : ℕ) → BeginsBadEscape rest n → HasNoNext rest
bad_escape_stops rest n fault text next =
    let found = said_behind rest text fault.opens next.is_longest in
    let closed : closes (take found.0 (drop 1 rest)) ≡ true = said_closes (take found.0 (drop 1 rest)) found.1 found.2 in
    let same : take found.0 (drop 1 rest) ≡ take fault.size (drop 1 rest) = one_text (drop 1 rest) found.0 fault.size closed fault.closed in
    let good : bad_escape (take fault.size (drop 1 rest)) ≡ None =
    said_good (take fault.size (drop 1 rest)) found.1 (subst (λ t. said t ≡ Some found.1) same found.2) in
    let bad = fault.bad.1 in
    cc

-- at a number that is too big
too_big_stops : (rest : List ℕ) → BeginsTooBig rest → HasNoNext rest
too_big_stops rest big text next =
    let same : text ≡ big.text = longest_unique rest text big.text next.is_longest big.is_longest in
    let fits : big.number < 2 ^ 64 = next.fits (TokenOf (Number big.number)) (ap spelled same ∙ big.is_number) in
    omega (arith, fits, big.too_big)

-- a fault that was found, not OutOfMemory
abbrev pub IsFound : LexFault → Type 0
IsFound fault = fault ≢ OutOfMemory

-- so it is at each fault
pub fault_stops : (rest : List ℕ) (at : ℕ) (fault : LexFault) → FaultHere rest at fault → IsFound fault → HasNoNext rest
fault_stops rest at (NotUtf8 place) is found = absurd is
fault_stops rest at (BadToken place) is found = by is.0 is.1
  where
    by : (n : ℕ) → BeginsBadToken rest n → HasNoNext rest
    by n (inl nothing) = nothing_stops rest nothing.0
    by n (inr bad) = bad_escape_stops rest n bad
fault_stops rest at (OpenComment place) is found = open_comment_stops rest is.0
fault_stops rest at (OpenText place) is found = open_text_stops rest is.0
fault_stops rest at (TooBig place) is found = too_big_stops rest is.0
fault_stops rest at OutOfMemory is found = absurd (found refl)

-- bytes that begin with `/*` don't begin with a quote
comment_no_text : (rest : List ℕ) → starts_with nat_eq rest (codes "/*") ≡ true → starts_with nat_eq rest (codes "\"") ≡ true → ⊥
comment_no_text rest comment text =
    let a = starts_comment rest comment in
    let b = starts_text rest text in
    let same : 47 ∷ 42 ∷ a.0 ≡ 34 ∷ b.0 = sym a.1 ∙ b.1 in
    cc

-- what begins with `/*` isn't a number
comment_no_number : (cs : List ℕ) (k n : ℕ) → spelled (take k (47 ∷ 42 ∷ cs)) ≡ Some (TokenOf (Number n)) → ⊥
comment_no_number cs zero n is = cc (sym spelled_nothing ∙ is)
comment_no_number cs (suc zero) n is = cc (sym spelled_slash ∙ is)
comment_no_number cs (suc (suc m)) n is = by (ends_at_close (take m cs)) (sym (spelled_block (take m cs)) ∙ is)
  where
    by : (b : Bool) → (if b then Some Gap else None) ≡ Some (TokenOf (Number n)) → ⊥
    by true same = cc
    by false same = cc

-- what begins with a quote isn't a number
text_no_number : (cs : List ℕ) (k n : ℕ) → spelled (take k (34 ∷ cs)) ≡ Some (TokenOf (Number n)) → ⊥
text_no_number cs zero n is = cc (sym spelled_nothing ∙ is)
text_no_number cs (suc m) n is = by (said (take m cs)) (sym (spelled_text (take m cs)) ∙ is)
  where
    by : (o : Option (List ℕ)) → option_map (λ bytes. TokenOf (Text bytes)) o ≡ Some (TokenOf (Number n)) → ⊥
    by None same = cc
    by (Some ys) same = cc

-- the digits of a number that is too big are a prefix
big_prefix : (rest : List ℕ) (big : BeginsTooBig rest) → spelled (take (length big.text) rest) ≡ Some (TokenOf (Number big.number))
big_prefix rest big = ap spelled big.is_longest.prefix ∙ big.is_number

-- an item that begins with `/*` isn't a number that is too big
comment_not_big : (rest : List ℕ) → starts_with nat_eq rest (codes "/*") ≡ true → BeginsTooBig rest → ⊥
comment_not_big rest opens big =
    let starts = starts_comment rest opens in
    comment_no_number starts.0 (length big.text) big.number (subst (λ b. spelled (take (length big.text) b) ≡ Some (TokenOf (Number big.number))) starts.1 (big_prefix rest big))

-- nor is a text
text_not_big : (rest : List ℕ) → starts_with nat_eq rest (codes "\"") ≡ true → BeginsTooBig rest → ⊥
text_not_big rest opens big =
    let starts = starts_text rest opens in
    text_no_number starts.0 (length big.text) big.number (subst (λ b. spelled (take (length big.text) b) ≡ Some (TokenOf (Number big.number))) starts.1 (big_prefix rest big))

-- if nothing begins, no number does
nothing_not_big : (rest : List ℕ) → BeginsNothing rest → BeginsTooBig rest → ⊥
nothing_not_big rest nothing big =
    not_both (spelled (take (length big.text) rest)) (nothing.no_item (length big.text) (prefix_within rest big.text big.is_longest.prefix))
    (longest_spells rest big.text big.is_longest)

-- two bad tokens are at one place
bad_unique : (rest : List ℕ) (m n : ℕ) → BeginsBadToken rest m → BeginsBadToken rest n → m ≡ n
bad_unique rest m n (inl a) (inl b) = a.1 ∙ sym b.1
bad_unique rest m n (inl a) (inr b) = let yes = b.opens in let no = a.0.no_text in cc
bad_unique rest m n (inr a) (inl b) = let yes = a.opens in let no = b.0.no_text in cc
bad_unique rest m n (inr a) (inr b) =
    let same : take a.size (drop 1 rest) ≡ take b.size (drop 1 rest) = one_text (drop 1 rest) a.size b.size a.closed b.closed in
    let places : Some a.bad.0 ≡ Some b.bad.0 = sym a.bad.1 ∙ ap bad_escape same ∙ b.bad.1 in
    let place : a.bad.0 ≡ b.bad.0 = cc in
    omega (arith, place, a.bad.2, b.bad.2)

-- a bad token isn't an open comment
bad_not_comment : (rest : List ℕ) (n : ℕ) → BeginsBadToken rest n → BeginsOpenComment rest → ⊥
bad_not_comment rest n (inl a) b = let yes = b.opens in let no = a.0.no_comment in cc
bad_not_comment rest n (inr a) b = comment_no_text rest b.opens a.opens

-- nor an open text
bad_not_text : (rest : List ℕ) (n : ℕ) → BeginsBadToken rest n → BeginsOpenText rest → ⊥
bad_not_text rest n (inl a) b = let yes = b.opens in let no = a.0.no_text in cc
bad_not_text rest n (inr a) b = let yes = a.closed in let no = b.unclosed a.size in cc

-- nor a number that is too big
bad_not_big : (rest : List ℕ) (n : ℕ) → BeginsBadToken rest n → BeginsTooBig rest → ⊥
bad_not_big rest n (inl a) b = nothing_not_big rest a.0 b
bad_not_big rest n (inr a) b = text_not_big rest a.opens b

-- an item has only one fault
pub fault_unique : (rest : List ℕ) (at : ℕ) (e f : LexFault) → FaultHere rest at e → FaultHere rest at f → IsFound e → IsFound f → e ≡ f
fault_unique rest at (NotUtf8 a) f p q found_e found_f = absurd p
fault_unique rest at (BadToken a) (NotUtf8 b) p q found_e found_f = absurd q
fault_unique rest at (BadToken a) (BadToken b) p q found_e found_f =
    let same = bad_unique rest p.0 q.0 p.1 q.1 in ap BadToken {x = a} {y = b} (omega (arith, same, p.2, q.2))
fault_unique rest at (BadToken a) (OpenComment b) p q found_e found_f = absurd (bad_not_comment rest p.0 p.1 q.0)
fault_unique rest at (BadToken a) (OpenText b) p q found_e found_f = absurd (bad_not_text rest p.0 p.1 q.0)
fault_unique rest at (BadToken a) (TooBig b) p q found_e found_f = absurd (bad_not_big rest p.0 p.1 q.0)
fault_unique rest at (BadToken a) OutOfMemory p q found_e found_f = absurd (found_f refl)
fault_unique rest at (OpenComment a) (NotUtf8 b) p q found_e found_f = absurd q
fault_unique rest at (OpenComment a) (BadToken b) p q found_e found_f = absurd (bad_not_comment rest q.0 q.1 p.0)
fault_unique rest at (OpenComment a) (OpenComment b) p q found_e found_f = ap OpenComment (p.1 ∙ sym q.1)
fault_unique rest at (OpenComment a) (OpenText b) p q found_e found_f = absurd (comment_no_text rest p.0.opens q.0.opens)
fault_unique rest at (OpenComment a) (TooBig b) p q found_e found_f = absurd (comment_not_big rest p.0.opens q.0)
fault_unique rest at (OpenComment a) OutOfMemory p q found_e found_f = absurd (found_f refl)
fault_unique rest at (OpenText a) (NotUtf8 b) p q found_e found_f = absurd q
fault_unique rest at (OpenText a) (BadToken b) p q found_e found_f = absurd (bad_not_text rest q.0 q.1 p.0)
fault_unique rest at (OpenText a) (OpenComment b) p q found_e found_f = absurd (comment_no_text rest q.0.opens p.0.opens)
fault_unique rest at (OpenText a) (OpenText b) p q found_e found_f = ap OpenText (p.1 ∙ sym q.1)
fault_unique rest at (OpenText a) (TooBig b) p q found_e found_f = absurd (text_not_big rest p.0.opens q.0)
fault_unique rest at (OpenText a) OutOfMemory p q found_e found_f = absurd (found_f refl)
fault_unique rest at (TooBig a) (NotUtf8 b) p q found_e found_f = absurd q
fault_unique rest at (TooBig a) (BadToken b) p q found_e found_f = absurd (bad_not_big rest q.0 q.1 p.0)
fault_unique rest at (TooBig a) (OpenComment b) p q found_e found_f = absurd (comment_not_big rest q.0.opens p.0)
fault_unique rest at (TooBig a) (OpenText b) p q found_e found_f = absurd (text_not_big rest q.0.opens p.0)
fault_unique rest at (TooBig a) (TooBig b) p q found_e found_f = ap TooBig (p.1 ∙ sym q.1)
fault_unique rest at (TooBig a) OutOfMemory p q found_e found_f = absurd (found_f refl)
fault_unique rest at OutOfMemory f p q found_e found_f = absurd (found_e refl)
