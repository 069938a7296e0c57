-- Sets: sets of terminals with which a production may begin or continue. Whether two are disjoint is computed.
use Rattle.std.proofs.Common.{◌≡◌, ℕ, ◌<◌, List, [], ◌∷◌, ◌++◌, length, Bool, true, false, ◌==◌, ◌||◌, ◌&&◌, not, ◌⊎◌, inl, inr, ⊎_elim, refl, sym, ap, ◌∙◌, subst, arith, eq-eqb}
use Rattle.std.specs.Str.{bytes_eq, str_eq_ignore_ascii_case}
use Rattle.std.specs.Char.{to_ascii_lowercase}
use Rattle.std.specs.Prelude.{map}
use Rattle.std.proofs.lemmas.Slice.Eq.{bytes_eq-Decides}
use Rattle.gq_token.specs.declared.token.TokenKind.{TokenKind}
use Rattle.gq_token.specs.declared.token.TokenKind.TheVariants as shape
use Rattle.gq_token.specs.Kinds.{is_word_shape, is_symbol_shape}
use Rattle.gq_grammar.specs.Reserved.{is_reserved}
use Rattle.gq_grammar.specs.Lexemes.{Lexeme, Lexemes, Terminal, Sign, Keyword, Name, Number, Text, Global, Attached, is_of, is_global_shape, is_attached_shape, is_number_shape, is_text_shape}

-- ---- on tests

pub or_true : (a b : Bool) → (a || b) ≡ true → (a ≡ true) ⊎ (b ≡ true)
or_true true b h = inl refl
or_true false b h = inr h

pub or_left : (a b : Bool) → a ≡ true → (a || b) ≡ true
or_left true b h = refl
or_left false b h = cc

pub or_right : (a b : Bool) → b ≡ true → (a || b) ≡ true
or_right true b h = refl
or_right false b h = h

and_true : (a b : Bool) → (a && b) ≡ true → (a ≡ true) × (b ≡ true)
and_true true b h = (refl, h)
and_true false b h = cc

not_true : (a : Bool) → not a ≡ true → a ≡ true → ⊥
not_true true h e = cc
not_true false h e = cc

same_texts : (a b : List ℕ) → bytes_eq a b ≡ true → a ≡ b
same_texts a b h = (bytes_eq-Decides a b).0 h

same_text : (a b : List ℕ) → a ≡ b → bytes_eq a b ≡ true
same_text a b h = (bytes_eq-Decides a b).1 h

-- ---- two terminals that can't both match one lexeme

-- the kinds of shapes, numbered
abbrev pub kind_of_shape : TokenKind → ℕ
kind_of_shape shape.Word = 0
kind_of_shape shape.Global = 1
kind_of_shape shape.Attached = 2
kind_of_shape (shape.Number n) = 3
kind_of_shape (shape.Text said) = 4
kind_of_shape shape.Symbol = 5

-- the kind of shape that a terminal has
abbrev pub kind_of : Terminal → ℕ
kind_of (Sign sign) = 5
kind_of (Keyword word) = 0
kind_of Name = 0
kind_of Number = 3
kind_of Text = 4
kind_of Global = 1
kind_of Attached = 2

-- two terminals of one kind that differ
abbrev pub differ : Terminal → Terminal → Bool
differ (Sign a) (Sign b) = not (bytes_eq a b)
differ (Keyword a) (Keyword b) = not (str_eq_ignore_ascii_case a b)
differ (Keyword a) Name = is_reserved a
differ Name (Keyword b) = is_reserved b
differ a b = false

abbrev pub apart : Terminal → Terminal → Bool
apart a b = not (kind_of a == kind_of b) || differ a b

-- ---- a set and its lexemes

-- the lexeme matches a terminal of the set
abbrev pub is_in : List Terminal → Lexeme → Bool
is_in [] t = false
is_in (c ∷ cs) t = is_of c t || is_in cs t

-- the first lexeme matches a terminal of the set
abbrev pub Starts : List Terminal → Lexemes → Type 0
Starts cs [] = ⊥
Starts cs (t ∷ l) = is_in cs t ≡ true

abbrev pub is_apart_from : Terminal → List Terminal → Bool
is_apart_from c [] = true
is_apart_from c (d ∷ ds) = apart c d && is_apart_from c ds

-- no lexeme matches both sets
abbrev pub disjoint : List Terminal → List Terminal → Bool
disjoint [] ds = true
disjoint (c ∷ cs) ds = is_apart_from c ds && disjoint cs ds

-- the same terminal
abbrev pub same : Terminal → Terminal → Bool
same (Sign a) (Sign b) = bytes_eq a b
same (Keyword a) (Keyword b) = bytes_eq a b
same Name Name = true
same Number Number = true
same Text Text = true
same Global Global = true
same Attached Attached = true
same a b = false

abbrev pub has : List Terminal → Terminal → Bool
has [] c = false
has (d ∷ ds) c = same c d || has ds c

abbrev pub subset : List Terminal → List Terminal → Bool
subset [] ds = true
subset (c ∷ cs) ds = has ds c && subset cs ds

-- ---- no lexeme matches both of two terminals that are apart

word_kind : (s : TokenKind) → is_word_shape s ≡ true → kind_of_shape s ≡ 0
word_kind shape.Word h = refl
word_kind shape.Global h = cc
word_kind shape.Attached h = cc
word_kind (shape.Number n) h = cc
word_kind (shape.Text said) h = cc
word_kind shape.Symbol h = cc

symbol_kind : (s : TokenKind) → is_symbol_shape s ≡ true → kind_of_shape s ≡ 5
symbol_kind shape.Word h = cc
symbol_kind shape.Global h = cc
symbol_kind shape.Attached h = cc
symbol_kind (shape.Number n) h = cc
symbol_kind (shape.Text said) h = cc
symbol_kind shape.Symbol h = refl

global_kind : (s : TokenKind) → is_global_shape s ≡ true → kind_of_shape s ≡ 1
global_kind shape.Word h = cc
global_kind shape.Global h = refl
global_kind shape.Attached h = cc
global_kind (shape.Number n) h = cc
global_kind (shape.Text said) h = cc
global_kind shape.Symbol h = cc

attached_kind : (s : TokenKind) → is_attached_shape s ≡ true → kind_of_shape s ≡ 2
attached_kind shape.Word h = cc
attached_kind shape.Global h = cc
attached_kind shape.Attached h = refl
attached_kind (shape.Number n) h = cc
attached_kind (shape.Text said) h = cc
attached_kind shape.Symbol h = cc

number_kind : (s : TokenKind) → is_number_shape s ≡ true → kind_of_shape s ≡ 3
number_kind shape.Word h = cc
number_kind shape.Global h = cc
number_kind shape.Attached h = cc
number_kind (shape.Number n) h = refl
number_kind (shape.Text said) h = cc
number_kind shape.Symbol h = cc

text_kind : (s : TokenKind) → is_text_shape s ≡ true → kind_of_shape s ≡ 4
text_kind shape.Word h = cc
text_kind shape.Global h = cc
text_kind shape.Attached h = cc
text_kind (shape.Number n) h = cc
text_kind (shape.Text said) h = refl
text_kind shape.Symbol h = cc

-- a lexeme that matches a terminal has its kind of shape
kind_is : (c : Terminal) (t : Lexeme) → is_of c t ≡ true → kind_of_shape t.shape ≡ kind_of c
unfolding is_of
kind_is (Sign sign) t h = symbol_kind t.shape (and_true (is_symbol_shape t.shape) (bytes_eq t.text sign) h).0
kind_is (Keyword word) t h = word_kind t.shape (and_true (is_word_shape t.shape) (str_eq_ignore_ascii_case t.text word) h).0
kind_is Name t h = word_kind t.shape (and_true (is_word_shape t.shape) (not (is_reserved t.text)) h).0
kind_is Number t h = number_kind t.shape h
kind_is Text t h = text_kind t.shape h
kind_is Global t h = global_kind t.shape h
kind_is Attached t h = attached_kind t.shape h

-- a word is reserved whatever the case of its letters
reserved_too : (a b : List ℕ) → map to_ascii_lowercase a ≡ map to_ascii_lowercase b → is_reserved b ≡ true → is_reserved a ≡ true
unfolding is_reserved
reserved_too a b e h = rw e h

sign_text : (sign : List ℕ) (t : Lexeme) → is_of (Sign sign) t ≡ true → t.text ≡ sign
unfolding is_of
sign_text sign t h = same_texts t.text sign (and_true (is_symbol_shape t.shape) (bytes_eq t.text sign) h).1

keyword_text : (word : List ℕ) (t : Lexeme) → is_of (Keyword word) t ≡ true → map to_ascii_lowercase t.text ≡ map to_ascii_lowercase word
unfolding is_of
keyword_text word t h = same_texts (map to_ascii_lowercase t.text) (map to_ascii_lowercase word) (and_true (is_word_shape t.shape) (str_eq_ignore_ascii_case t.text word) h).1

name_text : (t : Lexeme) → is_of Name t ≡ true → is_reserved t.text ≡ true → ⊥
unfolding is_of
name_text t h r = not_true (is_reserved t.text) (and_true (is_word_shape t.shape) (not (is_reserved t.text)) h).1 r

differ_clash : (c d : Terminal) (t : Lexeme) → differ c d ≡ true → is_of c t ≡ true → is_of d t ≡ true → ⊥
differ_clash (Sign a) (Sign b) t h x y = not_true (bytes_eq a b) h (same_text a b (sym (sign_text a t x) ∙ sign_text b t y))
differ_clash (Keyword a) (Keyword b) t h x y =
    not_true (str_eq_ignore_ascii_case a b) h (same_text (map to_ascii_lowercase a) (map to_ascii_lowercase b) (sym (keyword_text a t x) ∙ keyword_text b t y))
differ_clash (Keyword a) Name t h x y = name_text t y (reserved_too t.text a (keyword_text a t x) h)
differ_clash Name (Keyword b) t h x y = name_text t x (reserved_too t.text b (keyword_text b t y) h)
differ_clash c d t h x y = cc

apart_clash : (c d : Terminal) (t : Lexeme) → apart c d ≡ true → is_of c t ≡ true → is_of d t ≡ true → ⊥
apart_clash c d t h x y = ⊎_elim
    (λ other. not_true (kind_of c == kind_of d) other (eq-eqb (kind_of c) (kind_of d) (sym (kind_is c t x) ∙ kind_is d t y)))
    (λ differs. differ_clash c d t differs x y)
    (or_true (not (kind_of c == kind_of d)) (differ c d) h)

apart_from_clash : (c : Terminal) (ds : List Terminal) (t : Lexeme) → is_apart_from c ds ≡ true → is_of c t ≡ true → is_in ds t ≡ true → ⊥
apart_from_clash c [] t h x y = cc
apart_from_clash c (d ∷ ds) t h x y =
    let parts = and_true (apart c d) (is_apart_from c ds) h in
    ⊎_elim (λ here. apart_clash c d t parts.0 x here) (λ there. apart_from_clash c ds t parts.1 x there) (or_true (is_of d t) (is_in ds t) y)

disjoint_clash : (cs ds : List Terminal) (t : Lexeme) → disjoint cs ds ≡ true → is_in cs t ≡ true → is_in ds t ≡ true → ⊥
disjoint_clash [] ds t h x y = cc
disjoint_clash (c ∷ cs) ds t h x y =
    let parts = and_true (is_apart_from c ds) (disjoint cs ds) h in
    ⊎_elim (λ here. apart_from_clash c ds t parts.0 here y) (λ there. disjoint_clash cs ds t parts.1 there y) (or_true (is_of c t) (is_in cs t) x)

pub clash : (cs ds : List Terminal) → disjoint cs ds ≡ true → (l : Lexemes) → Starts cs l → Starts ds l → ⊥
clash cs ds h [] a b = a
clash cs ds h (t ∷ l) a b = disjoint_clash cs ds t h a b

-- ---- larger sets

in_left : (cs ds : List Terminal) (t : Lexeme) → is_in cs t ≡ true → is_in (cs ++ ds) t ≡ true
in_left [] ds t h = cc
in_left (c ∷ cs) ds t h =
    ⊎_elim (λ here. or_left (is_of c t) (is_in (cs ++ ds) t) here) (λ there. or_right (is_of c t) (is_in (cs ++ ds) t) (in_left cs ds t there)) (or_true (is_of c t) (is_in cs t) h)

in_right : (cs ds : List Terminal) (t : Lexeme) → is_in ds t ≡ true → is_in (cs ++ ds) t ≡ true
in_right [] ds t h = h
in_right (c ∷ cs) ds t h = or_right (is_of c t) (is_in (cs ++ ds) t) (in_right cs ds t h)

pub starts_left : (cs ds : List Terminal) (l : Lexemes) → Starts cs l → Starts (cs ++ ds) l
starts_left cs ds [] h = h
starts_left cs ds (t ∷ l) h = in_left cs ds t h

pub starts_right : (cs ds : List Terminal) (l : Lexemes) → Starts ds l → Starts (cs ++ ds) l
starts_right cs ds [] h = h
starts_right cs ds (t ∷ l) h = in_right cs ds t h

-- a list that begins with such a lexeme still does after lexemes are appended
pub starts_on : (cs : List Terminal) (l m : Lexemes) → Starts cs l → Starts cs (l ++ m)
starts_on cs [] m h = absurd h
starts_on cs (t ∷ l) m h = h

pub starts_some : (cs : List Terminal) (l : Lexemes) → Starts cs l → 0 < length l
starts_some cs [] h = absurd h
starts_some cs (t ∷ l) h = omega arith

same_is : (c d : Terminal) → same c d ≡ true → c ≡ d
same_is (Sign a) (Sign b) h = ap (λ x. Sign x) (same_texts a b h)
same_is (Keyword a) (Keyword b) h = ap (λ x. Keyword x) (same_texts a b h)
same_is Name Name h = refl
same_is Number Number h = refl
same_is Text Text h = refl
same_is Global Global h = refl
same_is Attached Attached h = refl
same_is c d h = cc

has_in : (ds : List Terminal) (c : Terminal) (t : Lexeme) → has ds c ≡ true → is_of c t ≡ true → is_in ds t ≡ true
has_in [] c t h x = cc
has_in (d ∷ ds) c t h x = ⊎_elim
    (λ here. or_left (is_of d t) (is_in ds t) (subst (λ e. is_of e t ≡ true) (same_is c d here) x))
    (λ there. or_right (is_of d t) (is_in ds t) (has_in ds c t there x))
    (or_true (same c d) (has ds c) h)

subset_in : (cs ds : List Terminal) (t : Lexeme) → subset cs ds ≡ true → is_in cs t ≡ true → is_in ds t ≡ true
subset_in [] ds t h x = cc
subset_in (c ∷ cs) ds t h x =
    let parts = and_true (has ds c) (subset cs ds) h in
    ⊎_elim (λ here. has_in ds c t parts.0 here) (λ there. subset_in cs ds t parts.1 there) (or_true (is_of c t) (is_in cs t) x)

pub starts_wide : (cs ds : List Terminal) → subset cs ds ≡ true → (l : Lexemes) → Starts cs l → Starts ds l
starts_wide cs ds h [] s = s
starts_wide cs ds h (t ∷ l) s = subset_in cs ds t h s
