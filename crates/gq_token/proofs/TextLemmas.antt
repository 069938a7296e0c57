-- TextLemmas: the value of a quoted text, and where it is closed.
use Rattle.std.proofs.Common.{◌≡◌, ℕ, zero, suc, ◌+◌, ◌<◌, ◌≤◌, Bool, true, false, List, [], ◌∷◌, ◌++◌, length, take, drop, get_or, Option, Some, None, ◌≢◌, refl, ap, sym, subst, ◌∙◌, arith, length-drop, inr}
use Rattle.std.specs.Prelude.{if◌then◌else◌, nat_eq, option_map}
use Rattle.std.proofs.lemmas.List.{drop_more, append-nil, append_assoc}
use Rattle.std.proofs.lemmas.Bool.{ne_eqb}
use Rattle.gq_token.specs.declared.token.TokenKind.TheVariants.{Text}
use Rattle.gq_token.specs.declared.fault.LexFault.{LexFault}
use Rattle.gq_token.specs.declared.fault.LexFault.TheVariants.{NotUtf8, BadToken, OpenComment, OpenText, TooBig, OutOfMemory}
use Rattle.gq_token.specs.Spelling.{TokenOf, spelled}
use Rattle.gq_token.specs.Faults.{BeginsOpenText, BeginsBadEscape}
use Rattle.gq_token.specs.Items.{IsItem, FaultHere, BodyFault, EndsAt, NeverEnds}
use Rattle.gq_token.proofs.ClassLemmas.{spelled_text}
use Rattle.gq_token.proofs.ItemLemmas.{NoLonger, item_from}
use Rattle.gq_token.specs.Texts.{closes, said, bad_escape, escape_of, byte_then}

-- the parts of a byte and the bytes after it
pub byte_then_parts : (o : Option ℕ) (p : Option (List ℕ)) (ys : List ℕ) → byte_then o p ≡ Some ys
    → (c : ℕ) × (cs : List ℕ) × (o ≡ Some c) × (p ≡ Some cs) × (ys ≡ c ∷ cs)
byte_then_parts None p ys is = cc
byte_then_parts (Some c) None ys is = cc
byte_then_parts (Some c) (Some cs) ys is = (c, cs, refl, refl, cc)

-- a text with a value is closed
pub said_closes : (bytes ys : List ℕ) → said bytes ≡ Some ys → closes bytes ≡ true
said_closes [] ys is = cc
said_closes (c ∷ []) ys is = by (nat_eq c 34) refl is
  where
    by : (b : Bool) → nat_eq c 34 ≡ b → (if b then Some [] else None) ≡ Some ys → nat_eq c 34 ≡ true
    by true quote is = quote
    by false quote is = cc
said_closes (c ∷ d ∷ cs) ys is = by (nat_eq c 34) (nat_eq c 92) refl refl is (λ zs. said_closes cs zs) (λ zs. said_closes (d ∷ cs) zs)
  where
    by : (a b : Bool) → nat_eq c 34 ≡ a → nat_eq c 92 ≡ b
        → (if a then None else (if b then byte_then (escape_of d) (said cs) else byte_then (Some c) (said (d ∷ cs)))) ≡ Some ys
        → ((zs : List ℕ) → said cs ≡ Some zs → closes cs ≡ true) → ((zs : List ℕ) → said (d ∷ cs) ≡ Some zs → closes (d ∷ cs) ≡ true) → closes (c ∷ d ∷ cs) ≡ true
    by true b quote slash is escaped plain = cc
    by false true quote slash is escaped plain = let p = byte_then_parts (escape_of d) (said cs) ys is in rw (quote, slash) (escaped p.1 p.3)
    by false false quote slash is escaped plain = let p = byte_then_parts (Some c) (said (d ∷ cs)) ys is in rw (quote, slash) (plain p.1 p.3)

-- and has no bad escape
pub said_good : (bytes ys : List ℕ) → said bytes ≡ Some ys → bad_escape bytes ≡ None
said_good [] ys is = refl
said_good (c ∷ []) ys is = refl
said_good (c ∷ d ∷ cs) ys is = by (nat_eq c 34) (nat_eq c 92) refl refl is (λ zs. said_good cs zs) (λ zs. said_good (d ∷ cs) zs)
  where
    by : (a b : Bool) → nat_eq c 34 ≡ a → nat_eq c 92 ≡ b
        → (if a then None else (if b then byte_then (escape_of d) (said cs) else byte_then (Some c) (said (d ∷ cs)))) ≡ Some ys
        → ((zs : List ℕ) → said cs ≡ Some zs → bad_escape cs ≡ None) → ((zs : List ℕ) → said (d ∷ cs) ≡ Some zs → bad_escape (d ∷ cs) ≡ None)
        → bad_escape (c ∷ d ∷ cs) ≡ None
    by true b quote slash is escaped plain = cc
    by false true quote slash is escaped plain = let p = byte_then_parts (escape_of d) (said cs) ys is in rw (slash, p.2, escaped p.1 p.3) refl
    by false false quote slash is escaped plain = let p = byte_then_parts (Some c) (said (d ∷ cs)) ys is in rw (slash, plain p.1 p.3) refl

-- more bytes don't close a closed text again
pub closes_once : (bytes : List ℕ) (m n : ℕ) → closes (take m bytes) ≡ true → m < n → n ≤ length bytes → closes (take n bytes) ≡ false
closes_once [] m n closed more below = absurd (omega arith)
closes_once (c ∷ cs) zero n closed more below = cc
closes_once (c ∷ cs) (suc m) zero closed more below = absurd (omega arith)
closes_once (c ∷ []) (suc m) (suc n) closed more below = absurd (omega arith)
closes_once (c ∷ d ∷ cs) (suc zero) (suc zero) closed more below = absurd (omega arith)
closes_once (c ∷ d ∷ cs) (suc zero) (suc (suc n)) closed more below = let quote : nat_eq c 34 ≡ true = closed in rw quote refl
closes_once (c ∷ d ∷ cs) (suc (suc m)) (suc zero) closed more below = absurd (omega arith)
closes_once (c ∷ d ∷ cs) (suc (suc m)) (suc (suc n)) closed more below =
    by (nat_eq c 34) (nat_eq c 92) refl refl closed (λ is. closes_once cs m n is (omega arith) (omega arith))
    (λ is. closes_once (d ∷ cs) (suc m) (suc n) is (omega arith) (omega arith))
  where
    by : (a b : Bool) → nat_eq c 34 ≡ a → nat_eq c 92 ≡ b → (if a then false else (if b then closes (take m cs) else closes (d ∷ take m cs))) ≡ true
        → (closes (take m cs) ≡ true → closes (take n cs) ≡ false) → (closes (d ∷ take m cs) ≡ true → closes (d ∷ take n cs) ≡ false)
        → closes (c ∷ d ∷ take n cs) ≡ false
    by true b quote slash is escaped plain = cc
    by false true quote slash is escaped plain = rw (quote, slash) (escaped is)
    by false false quote slash is escaped plain = rw (quote, slash) (plain is)

-- a text after its opening quote is the next item
pub text_item : (rest : List ℕ) (size total : ℕ) (ys : List ℕ) → 0 < length rest → get_or rest 0 0 ≡ 34 → EndsAt closes (drop 1 rest) size → total ≡ 1 + size
    → said (take size (drop 1 rest)) ≡ Some ys → IsItem rest total (TokenOf (Text ys))
text_item [] size total ys some quote ends is says = absurd (omega arith)
text_item (c ∷ cs) size total ys some quote ends is says =
    subst (λ n. IsItem (n ∷ cs) total (TokenOf (Text ys))) (sym quote)
    (item_from (34 ∷ cs) total (TokenOf (Text ys)) (omega arith) (omega (arith, ends.within)) spells longer tt (λ opens. cc))
  where
    one : total ≡ suc size
    one = omega arith

    spells : spelled (take total (34 ∷ cs)) ≡ Some (TokenOf (Text ys))
    spells = ap (λ n. spelled (take n (34 ∷ cs))) one ∙ spelled_text (take size cs) ∙ rw says refl

    unsaid : (m : ℕ) → size < m → m ≤ length cs → (o : Option (List ℕ)) → said (take m cs) ≡ o → o ≡ None
    unsaid m more below None says = refl
    unsaid m more below (Some zs) says =
        let yes : closes (take m cs) ≡ true =
        said_closes (take m cs) zs says in let no : closes (take m cs) ≡ false = closes_once cs size m ends.ends more below in cc

    longer : NoLonger (34 ∷ cs) total
    longer zero more below = absurd (omega arith)
    longer (suc m) more below = spelled_text (take m cs)
        ∙ ap (option_map (λ bytes. TokenOf (Text bytes))) (unsaid m (omega (arith, one)) (omega arith) (said (take m cs)) refl)

-- a text that is never closed
pub text_open : (rest : List ℕ) → 0 < length rest → get_or rest 0 0 ≡ 34 → NeverEnds closes (drop 1 rest) → BeginsOpenText rest
text_open [] some quote never = absurd (omega arith)
text_open (c ∷ cs) some quote never = record { opens = rw quote refl; unclosed = never }

-- a closed text with a bad escape
pub text_bad : (rest : List ℕ) (size n : ℕ) → 0 < length rest → get_or rest 0 0 ≡ 34 → EndsAt closes (drop 1 rest) size
    → bad_escape (take size (drop 1 rest)) ≡ Some n → BeginsBadEscape rest (n + 1)
text_bad [] size n some quote ends bad = absurd (omega arith)
text_bad (c ∷ cs) size n some quote ends bad = record { opens = rw quote refl; size = size; closed = ends.ends; bad = (n, bad, refl) }

-- so far the bytes of a closed text are read, `wrote` is written, and the rest determines what follows
pub record IsReadTo (body : List ℕ) (at : ℕ) (wrote : List ℕ) : Type 0 where
  pub closed : closes (drop at body) ≡ true
  pub says : said body ≡ option_map (λ ys. wrote ++ ys) (said (drop at body))
  pub bad : bad_escape body ≡ option_map (λ n. at + n) (bad_escape (drop at body))

-- nothing is read yet
pub read_start : (body : List ℕ) → closes body ≡ true → IsReadTo body 0 []
read_start body closed = record { closed = closed; says = whole (said body); bad = same (bad_escape body) }
  where
    whole : (o : Option (List ℕ)) → o ≡ option_map (λ ys. [] ++ ys) o
    whole None = refl
    whole (Some ys) = refl

    same : (o : Option ℕ) → o ≡ option_map (λ n. 0 + n) o
    same None = refl
    same (Some n) = ap Some (omega arith)

-- what is written, before more
wrote_more : (wrote : List ℕ) (c : ℕ) (o : Option (List ℕ)) → option_map (λ ys. wrote ++ ys) (byte_then (Some c) o) ≡ option_map (λ ys. (wrote ++ c ∷ []) ++ ys) o
wrote_more wrote c None = refl
wrote_more wrote c (Some ys) = ap Some (sym (append_assoc wrote (c ∷ []) ys))

-- a place that is counted from one further on
count_more : (at step next : ℕ) → next ≡ at + step → (o : Option ℕ) → option_map (λ n. at + n) (option_map (λ n. n + step) o) ≡ option_map (λ n. next + n) o
count_more at step next is None = refl
count_more at step next is (Some n) = ap Some {x = at + (n + step)} {y = next + n} (omega arith)

-- the rest of the body, where at least two bytes remain
module _ (body : List ℕ) (at : ℕ) (wrote : List ℕ) (read : IsReadTo body at wrote) (more : at + 1 < length body) where
  -- the first of them
  abbrev first : ℕ
  first = get_or body at 0

  -- the second
  abbrev second : ℕ
  second = get_or body (at + 1) 0

  -- the rest begins with both
  two : drop at body ≡ first ∷ second ∷ drop (at + 1 + 1) body
  two = drop_more body at 0 (omega arith) ∙ ap (λ l. first ∷ l) (drop_more body (at + 1) 0 more)

  -- the first isn't a quote, since the text continues
  no_quote : nat_eq first 34 ≡ false
  no_quote = by (nat_eq first 34) refl (subst (λ l. closes l ≡ true) two read.closed)
    where
      by : (b : Bool) → nat_eq first 34 ≡ b
          → (if b then false else (if nat_eq first 92 then closes (drop (at + 1 + 1) body) else closes (second ∷ drop (at + 1 + 1) body))) ≡ true
          → nat_eq first 34 ≡ false
      by true quote is = cc
      by false quote is = quote

  -- a byte that is read as itself
  pub read_plain : (next : ℕ) → next ≡ at + 1 → first ≢ 92 → IsReadTo body next (wrote ++ first ∷ [])
  read_plain next is other = record {
    closed = subst (λ l. closes l ≡ true) (sym rest) (rw (no_quote, slash) at (subst (λ l. closes l ≡ true) two read.closed));
    says = read.says ∙ ap (λ l. option_map (λ ys. wrote ++ ys) (said l)) two ∙ rw (no_quote, slash) (wrote_more wrote first (said (second ∷ drop (at + 1 + 1) body)))
        ∙ ap (λ l. option_map (λ ys. (wrote ++ first ∷ []) ++ ys) (said l)) (sym rest);
    bad = read.bad ∙ ap (λ l. option_map (λ n. at + n) (bad_escape l)) two ∙ rw slash (count_more at 1 next is (bad_escape (second ∷ drop (at + 1 + 1) body)))
        ∙ ap (λ l. option_map (λ n. next + n) (bad_escape l)) (sym rest);
  }
    where
      slash : nat_eq first 92 ≡ false
      slash = ne_eqb first 92 other

      rest : drop next body ≡ second ∷ drop (at + 1 + 1) body
      rest = ap (λ n. drop n body) is ∙ drop_more body (at + 1) 0 more

  -- an escape
  pub read_escape : (next meant : ℕ) → next ≡ at + 2 → first ≡ 92 → escape_of second ≡ Some meant → IsReadTo body next (wrote ++ meant ∷ [])
  read_escape next meant is slash means = record {
    closed = subst (λ l. closes l ≡ true) (sym rest) (subst (λ l. closes l ≡ true) escaped read.closed);
    says = read.says ∙ ap (λ l. option_map (λ ys. wrote ++ ys) (said l)) escaped ∙ rw means (wrote_more wrote meant (said (drop (at + 1 + 1) body)))
        ∙ ap (λ l. option_map (λ ys. (wrote ++ meant ∷ []) ++ ys) (said l)) (sym rest);
    bad = read.bad ∙ ap (λ l. option_map (λ n. at + n) (bad_escape l)) escaped ∙ rw means (count_more at 2 next is (bad_escape (drop (at + 1 + 1) body)))
        ∙ ap (λ l. option_map (λ n. next + n) (bad_escape l)) (sym rest);
  }
    where
      escaped : drop at body ≡ 92 ∷ second ∷ drop (at + 1 + 1) body
      escaped = two ∙ ap (λ c. c ∷ second ∷ drop (at + 1 + 1) body) slash

      rest : drop next body ≡ drop (at + 1 + 1) body
      rest = ap (λ n. drop n body) {x = next} {y = at + 1 + 1} (omega arith)

  -- an unknown escape
  pub read_bad : first ≡ 92 → escape_of second ≡ None → bad_escape body ≡ Some at
  read_bad slash none =
      let escaped : drop at body ≡ 92 ∷ second ∷ drop (at + 1 + 1) body = two ∙ ap (λ c. c ∷ second ∷ drop (at + 1 + 1) body) slash in
      read.bad ∙ ap (λ l. option_map (λ n. at + n) (bad_escape l)) escaped ∙ rw none (ap Some {x = at + 0} {y = at} (omega arith))

-- if one byte remains, all is read
pub read_whole : (body : List ℕ) (at : ℕ) (wrote : List ℕ) → IsReadTo body at wrote → length body ≤ at + 1 → said body ≡ Some wrote
read_whole body at wrote read over = by (drop at body) refl
  where
    by : (l : List ℕ) → drop at body ≡ l → said body ≡ Some wrote
    by [] is = let closed : closes [] ≡ true = subst (λ l. closes l ≡ true) is read.closed in cc
    by (c ∷ []) is =
        let quote : nat_eq c 34 ≡ true = subst (λ l. closes l ≡ true) is read.closed in
        read.says ∙ ap (λ l. option_map (λ ys. wrote ++ ys) (said l)) is ∙ rw quote (ap Some (append-nil wrote))
    by (c ∷ d ∷ cs) is = absurd (omega (arith, ap length is, length-drop at body))

-- the fault of the body is that of the text
pub text_fault : (rest : List ℕ) (size at : ℕ) (fault : LexFault) → 0 < length rest → get_or rest 0 0 ≡ 34 → EndsAt closes (drop 1 rest) size
    → BodyFault (take size (drop 1 rest)) (at + 1) fault → FaultHere rest at fault
text_fault rest size at (NotUtf8 place) some quote ends is = is
text_fault rest size at (BadToken place) some quote ends is = (is.0 + 1, inr (text_bad rest size is.0 some quote ends is.1), omega (arith, is.2))
text_fault rest size at (OpenComment place) some quote ends is = absurd is
text_fault rest size at (OpenText place) some quote ends is = absurd is
text_fault rest size at (TooBig place) some quote ends is = absurd is
text_fault rest size at OutOfMemory some quote ends is = tt
