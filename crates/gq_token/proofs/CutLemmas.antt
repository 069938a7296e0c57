-- CutLemmas: a text has at most one next item and at most one cut.
use Rattle.std.proofs.Common.{◌≡◌, ℕ, ◌+◌, ◌<◌, ◌≤◌, List, [], ◌∷◌, ◌++◌, length, take, drop, Some, None, IsSome, Option, refl, ap, sym, subst, ◌∙◌, arith, length-take}
use Rattle.std.specs.Prelude.{sum_by}
use Rattle.std.proofs.lemmas.List.{drop_all, drop-drop}
use Rattle.std.proofs.lemmas.List.Sums.{sum_by-append}
use Rattle.std.specs.Str.{IsUtf8}
use Rattle.gq_token.specs.declared.token.Token.{Token}
use Rattle.gq_token.specs.Spelling.{Item, Gap, TokenOf, spelled}
use Rattle.gq_token.proofs.ClassLemmas.{spelled_nothing}
use Rattle.gq_token.specs.Cut.{IsLongest, IsNext, Cuts, placed, tokens_of, HasTokens}

-- a prefix of the bytes isn't longer than they are
pub prefix_within : (bytes text : List ℕ) → take (length text) bytes ≡ text → length text ≤ length bytes
prefix_within bytes text prefix = omega (arith, ap length prefix, length-take (length text) bytes)

-- of two longest items the first isn't shorter
not_shorter : (bytes a b : List ℕ) → IsLongest bytes a → IsLongest bytes b → length a < length b → ⊥
not_shorter bytes a b p q less =
    let none : spelled b ≡ None = ap spelled (sym q.prefix) ∙ p.longest (length b) less (prefix_within bytes b q.prefix) in
    let some : IsSome {T = Item} None = subst IsSome none q.is_item in cc

-- the bytes have at most one longest item
pub longest_unique : (bytes a b : List ℕ) → IsLongest bytes a → IsLongest bytes b → a ≡ b
longest_unique bytes a b p q =
    let same : length a ≡ length b = omega (arith, not_shorter bytes a b p q, not_shorter bytes b a q p) in
    sym p.prefix ∙ ap (λ n. take n bytes) same ∙ q.prefix

-- if there are no bytes there is no item
nothing_next : (text : List ℕ) → IsLongest [] text → ⊥
nothing_next [] next = let some : IsSome {T = Item} None = subst IsSome spelled_nothing next.is_item in cc
nothing_next (c ∷ cs) next = let within = prefix_within [] (c ∷ cs) next.prefix in omega arith

-- one more item is cut
cuts_more : (bytes : List ℕ) (texts : List (List ℕ)) (rest text : List ℕ) → Cuts bytes texts rest → IsNext rest text
    → Cuts bytes (texts ++ text ∷ []) (drop (length text) rest)
cuts_more bytes [] rest text cuts next = (subst (λ b. IsNext b text) (sym cuts) next, ap (drop (length text)) cuts)
cuts_more bytes (t ∷ ts) rest text cuts next = (cuts.0, cuts_more (drop (length t) bytes) ts rest text cuts.1 next)

-- a complete cut begins with every partial cut, and cuts the rest
pub rest_cut : (bytes : List ℕ) (texts : List (List ℕ)) (rest : List ℕ) (all : List (List ℕ)) → Cuts bytes texts rest → Cuts bytes all []
    → (more : List (List ℕ)) × Cuts rest more []
rest_cut bytes [] rest all part cut = (all, subst (λ b. Cuts b all []) part cut)
rest_cut bytes (t ∷ ts) rest [] part cut = absurd (nothing_next t (subst (λ b. IsLongest b t) cut part.0.is_longest))
rest_cut bytes (t ∷ ts) rest (a ∷ all) part cut =
    let same : a ≡ t = longest_unique bytes a t cut.0.is_longest part.0.is_longest in
    rest_cut (drop (length t) bytes) ts rest all part.1 (subst (λ x. Cuts (drop (length x) bytes) all []) same cut.1)

-- the bytes have at most one complete cut
pub cut_unique : (bytes : List ℕ) (xs ys : List (List ℕ)) → Cuts bytes xs [] → Cuts bytes ys [] → xs ≡ ys
cut_unique bytes [] [] p q = refl
cut_unique bytes [] (y ∷ ys) p q = absurd (nothing_next y (subst (λ b. IsLongest b y) p q.0.is_longest))
cut_unique bytes (x ∷ xs) [] p q = absurd (nothing_next x (subst (λ b. IsLongest b x) q p.0.is_longest))
cut_unique bytes (x ∷ xs) (y ∷ ys) p q =
    let same : x ≡ y = longest_unique bytes x y p.0.is_longest q.0.is_longest in
    let rest : xs ≡ ys = cut_unique (drop (length x) bytes) xs ys p.1 (subst (λ z. Cuts (drop (length z) bytes) ys []) (sym same) q.1) in
    cc

-- the bytes have at most one list of tokens
pub tokens_unique : (bytes : List ℕ) (xs ys : List Token) → HasTokens bytes xs → HasTokens bytes ys → xs ≡ ys
tokens_unique bytes xs ys p q = p.are_tokens ∙ ap (tokens_of 0) (cut_unique bytes p.texts q.texts p.cuts q.cuts) ∙ sym q.are_tokens

-- a token before others, and more appended
placed-append : (item : Option Item) (from to : ℕ) (ts us : List Token) → placed item from to (ts ++ us) ≡ placed item from to ts ++ us
placed-append None from to ts us = refl
placed-append (Some Gap) from to ts us = refl
placed-append (Some (TokenOf shape)) from to ts us = refl

-- the tokens with one more item, which begins at this place
tokens_of_more : (at : ℕ) (texts : List (List ℕ)) (text : List ℕ) (from : ℕ) → from ≡ at + sum_by length texts
    → tokens_of at (texts ++ text ∷ []) ≡ tokens_of at texts ++ placed (spelled text) from (from + length text) []
tokens_of_more at [] text from is = let same : at ≡ from = omega arith in ap (λ n. placed (spelled text) n (n + length text) []) same
tokens_of_more at (t ∷ ts) text from is =
    let next : from ≡ at + length t + sum_by length ts = omega (arith, is, sum_by-append length (t ∷ []) ts) in
    ap (placed (spelled t) at (at + length t)) (tokens_of_more (at + length t) ts text from next)
    ∙ placed-append (spelled t) at (at + length t) (tokens_of (at + length t) ts) (placed (spelled text) from (from + length text) [])

-- the bytes before a place are cut, and `found` are their tokens
pub record CutBefore (bytes : List ℕ) (at : ℕ) (found : List Token) : Type 0 where
  pub texts : List (List ℕ)
  pub cuts : Cuts bytes texts (drop at bytes)
  pub total : at ≡ sum_by length texts
  pub tokens : found ≡ tokens_of 0 texts

-- nothing is cut yet
pub cut_start : (bytes : List ℕ) → CutBefore bytes 0 []
cut_start bytes = record { texts = []; cuts = refl; total = refl; tokens = refl }

-- the next item is cut too
pub cut_more : (bytes : List ℕ) (at to : ℕ) (found longer : List Token) (text : List ℕ) → CutBefore bytes at found → IsNext (drop at bytes) text
    → to ≡ at + length text → longer ≡ found ++ placed (spelled text) at to [] → CutBefore bytes to longer
cut_more bytes at to found longer text had next ends wrote = record {
  texts = had.texts ++ text ∷ [];
  cuts =
      subst (λ rest. Cuts bytes (had.texts ++ text ∷ []) rest) (drop-drop (length text) at bytes ∙ ap (λ n. drop n bytes) (sym ends))
      (cuts_more bytes had.texts (drop at bytes) text had.cuts next);
  total = omega (arith, ends, had.total, sum_by-append length had.texts (text ∷ []));
  tokens = wrote ∙ ap (λ n. found ++ placed (spelled text) at n []) ends ∙ ap (λ ts. ts ++ placed (spelled text) at (at + length text) []) had.tokens
      ∙ sym (tokens_of_more 0 had.texts text at (omega (arith, had.total)));
}

-- all is cut
pub cut_whole : (bytes : List ℕ) (at : ℕ) (found : List Token) → IsUtf8 bytes → CutBefore bytes at found → length bytes ≤ at → HasTokens bytes found
cut_whole bytes at found utf8 had all = record {
  utf8 = utf8;
  texts = had.texts;
  cuts = subst (λ rest. Cuts bytes had.texts rest) (drop_all at bytes all) had.cuts;
  are_tokens = had.tokens;
}
