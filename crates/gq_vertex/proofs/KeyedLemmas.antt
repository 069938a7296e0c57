-- Keys of vertices: ids with the same exact key are equal.
use Rattle.std.proofs.Common.{ℕ, zero, suc, ◌+◌, ◌-◌, ◌*◌, ◌/◌, ◌%◌, ◌^◌, ◌<◌, ◌≤◌, ◌≡◌, Bool, true, false, cond, leb, List, [], ◌∷◌, length, fold, refl, ap, sym, ◌∙◌, arith}
use Rattle.std.proofs.lemmas.Bool.Decides.{nat_tests}
use Rattle.gq_vertex.specs.Keyed.{packed_with, packed, four, mixed, word, vertex_key, IsBytes}

by_test : (t : Bool) (x y : ℕ) (P : ℕ → Type 0) → (t ≡ true → P x) → (t ≡ false → P y) → P (cond t x y)
by_test true x y P one other = one refl
by_test false x y P one other = other refl

is_short : (n : ℕ) → leb n 7 ≡ true → n ≤ 7
is_short n is = grind (arith, nat_tests)

-- that many more digits don't fill seven bytes
abbrev Room : ℕ → ℕ → Type 0
Room m zero = Unit
Room m (suc n) = (m * 256 ≤ 72057594037927936) × Room (m * 256) n

seven : Room 1 7
seven = (omega arith, (omega arith, (omega arith, (omega arith, (omega arith, (omega arith, (omega arith, tt)))))))

digit_same : (m a b x y : ℕ) → m * 256 ≤ 72057594037927936 → a < m → b < m → x < 256 → y < 256 → packed_with a x ≡ packed_with b y → (a ≡ b) × (x ≡ y)
digit_same m a b x y room first second one other is =
    let p : packed_with a x ≡ a * 256 + x = omega arith in let q : packed_with b y ≡ b * 256 + y = omega arith in
    (omega (arith, p, q, is), omega (arith, p, q, is))

digit_low : (m a x : ℕ) → m * 256 ≤ 72057594037927936 → a < m → x < 256 → packed_with a x < m * 256
digit_low m a x room low one = omega arith

same_digits : (xs ys : List ℕ) (n m a b : ℕ) → Room m n → length xs ≤ n → length xs ≡ length ys → a < m → b < m → IsBytes xs → IsBytes ys
    → fold packed_with a xs ≡ fold packed_with b ys → (a ≡ b) × (xs ≡ ys)
same_digits [] [] n m a b room short long first second ones others is = (is, refl)
same_digits [] (y ∷ ys) n m a b room short long first second ones others is = absurd (omega arith)
same_digits (x ∷ xs) [] n m a b room short long first second ones others is = absurd (omega arith)
same_digits (x ∷ xs) (y ∷ ys) zero m a b room short long first second ones others is = absurd (omega arith)
same_digits (x ∷ xs) (y ∷ ys) (suc n) m a b room short long first second ones others is =
    let rest = same_digits xs ys n (m * 256) (packed_with a x) (packed_with b y) room.1 (omega (arith, short)) (omega (arith, long))
    (digit_low m a x room.0 first (ones 0)) (digit_low m b y room.0 second (others 0)) (λ k. ones (suc k)) (λ k. others (suc k)) is in
    let here = digit_same m a b x y room.0 first second (ones 0) (others 0) rest.0 in
    (here.0, ap (λ z. z ∷ xs) here.1 ∙ ap (λ zs. y ∷ zs) rest.1)

pub packed_low : (xs : List ℕ) (a : ℕ) → a < 72057594037927936 → fold packed_with a xs < 72057594037927936
packed_low [] a low = low
packed_low (x ∷ xs) a low = packed_low xs (packed_with a x) (omega arith)

-- an exact word belongs to a short id
short_is : (id : List ℕ) → word id < 9223372036854775808 → (length id ≤ 7) × (word id ≡ packed id * 8 + length id)
short_is id = by_test (leb (length id) 7) (packed id * 8 + length id) (9223372036854775808 + mixed id % 9223372036854775808)
    (λ w. w < 9223372036854775808 → (length id ≤ 7) × (w ≡ packed id * 8 + length id))
    (λ is low. (is_short (length id) is, refl)) (λ is low. absurd (omega (arith, low)))

word_low : (id : List ℕ) → word id < 18446744073709551616
word_low id = by_test (leb (length id) 7) (packed id * 8 + length id) (9223372036854775808 + mixed id % 9223372036854775808)
    (λ w. w < 18446744073709551616)
    (λ is. omega (arith, packed_low id 0 (omega arith), is_short (length id) is)) (λ is. omega arith)

parts_same : (k m u v : ℕ) → u < 18446744073709551616 → v < 18446744073709551616 → k * 18446744073709551616 + u ≡ m * 18446744073709551616 + v → (k ≡ m) × (u ≡ v)
parts_same k m u v first second is = (omega arith, omega arith)

length_same : (p q m n : ℕ) → m ≤ 7 → n ≤ 7 → p * 8 + m ≡ q * 8 + n → (p ≡ q) × (m ≡ n)
length_same p q m n first second is = (omega arith, omega arith)

-- an exact key determines the type and the id
pub exact_same : (kind type : ℕ) (i j : List ℕ) → IsBytes i → IsBytes j → word j < 9223372036854775808 → vertex_key kind i ≡ vertex_key type j → (kind ≡ type) × (i ≡ j)
exact_same kind type i j ones others low is =
    let parts = parts_same kind type (word i) (word j) (word_low i) (word_low j) is in
    let one = short_is i (omega (arith, low, parts.1)) in let other = short_is j low in
    let same = length_same (packed i) (packed j) (length i) (length j) one.0 other.0 (sym one.1 ∙ parts.1 ∙ other.1) in
    (parts.0, (same_digits i j 7 1 0 0 seven one.0 same.1 (omega arith) (omega arith) ones others same.0).1)

more : (w v x : ℕ) → w ≡ v → v * 256 + x < 72057594037927936 → packed_with w x ≡ v * 256 + x
more w v x is low = ap (λ n. packed_with n x) is ∙ kept v x low
  where
    kept : (v x : ℕ) → v * 256 + x < 72057594037927936 → packed_with v x ≡ v * 256 + x
    kept v x low = omega (arith, low)

three : (a b c : ℕ) → a < 256 → b < 256 → c < 256 → packed_with (packed_with (packed_with 0 a) b) c ≡ (a * 256 + b) * 256 + c
three a b c one two last =
    let first : packed_with 0 a ≡ a = omega (arith, one) in
    let second : packed_with (packed_with 0 a) b ≡ a * 256 + b = more (packed_with 0 a) a b first (omega (arith, one, two)) in
    more (packed_with (packed_with 0 a) b) (a * 256 + b) c second (omega (arith, one, two, last))

-- the first four bytes and the last four, some of which may be the same
pub two_reads : (id : List ℕ) → IsBytes id → 4 ≤ length id → length id ≤ 7
    → four id 0 / 2 ^ (64 - 8 * length id) * 4294967296 + four id (length id - 4) ≡ packed id
two_reads [] bytes long short = absurd (omega (arith, long))
two_reads (a ∷ []) bytes long short = absurd (omega (arith, long))
two_reads (a ∷ b ∷ []) bytes long short = absurd (omega (arith, long))
two_reads (a ∷ b ∷ c ∷ []) bytes long short = absurd (omega (arith, long))
two_reads (a ∷ b ∷ c ∷ d ∷ []) bytes long short =
    let p = three a b c (bytes 0) (bytes 1) (bytes 2) in
    let q = more _ ((a * 256 + b) * 256 + c) d p (omega (arith, bytes 0, bytes 1, bytes 2, bytes 3)) in
    let same : ((a * 256 + b) * 256 + c) * 256 + d ≡ packed (a ∷ b ∷ c ∷ d ∷ []) = sym q in
    omega (arith, bytes 0, bytes 1, bytes 2, bytes 3, same)
two_reads (a ∷ b ∷ c ∷ d ∷ e ∷ []) bytes long short =
    let p = three a b c (bytes 0) (bytes 1) (bytes 2) in
    let q = more _ ((a * 256 + b) * 256 + c) d p (omega (arith, bytes 0, bytes 1, bytes 2, bytes 3)) in
    let r = more _ (((a * 256 + b) * 256 + c) * 256 + d) e q (omega (arith, bytes 0, bytes 1, bytes 2, bytes 3, bytes 4)) in
    let same : (((a * 256 + b) * 256 + c) * 256 + d) * 256 + e ≡ packed (a ∷ b ∷ c ∷ d ∷ e ∷ []) = sym r in
    omega (arith, bytes 0, bytes 1, bytes 2, bytes 3, bytes 4, same)
two_reads (a ∷ b ∷ c ∷ d ∷ e ∷ f ∷ []) bytes long short =
    let p = three a b c (bytes 0) (bytes 1) (bytes 2) in
    let q = more _ ((a * 256 + b) * 256 + c) d p (omega (arith, bytes 0, bytes 1, bytes 2, bytes 3)) in
    let r = more _ (((a * 256 + b) * 256 + c) * 256 + d) e q (omega (arith, bytes 0, bytes 1, bytes 2, bytes 3, bytes 4)) in
    let s = more _ ((((a * 256 + b) * 256 + c) * 256 + d) * 256 + e) f r (omega (arith, bytes 0, bytes 1, bytes 2, bytes 3, bytes 4, bytes 5)) in
    let same : ((((a * 256 + b) * 256 + c) * 256 + d) * 256 + e) * 256 + f ≡ packed (a ∷ b ∷ c ∷ d ∷ e ∷ f ∷ []) = sym s in
    omega (arith, bytes 0, bytes 1, bytes 2, bytes 3, bytes 4, bytes 5, same)
two_reads (a ∷ b ∷ c ∷ d ∷ e ∷ f ∷ g ∷ []) bytes long short =
    let p = three a b c (bytes 0) (bytes 1) (bytes 2) in
    let q = more _ ((a * 256 + b) * 256 + c) d p (omega (arith, bytes 0, bytes 1, bytes 2, bytes 3)) in
    let r = more _ (((a * 256 + b) * 256 + c) * 256 + d) e q (omega (arith, bytes 0, bytes 1, bytes 2, bytes 3, bytes 4)) in
    let s = more _ ((((a * 256 + b) * 256 + c) * 256 + d) * 256 + e) f r (omega (arith, bytes 0, bytes 1, bytes 2, bytes 3, bytes 4, bytes 5)) in
    let t = more _ (((((a * 256 + b) * 256 + c) * 256 + d) * 256 + e) * 256 + f) g s (omega (arith, bytes 0, bytes 1, bytes 2, bytes 3, bytes 4, bytes 5, bytes 6)) in
    let same : (((((a * 256 + b) * 256 + c) * 256 + d) * 256 + e) * 256 + f) * 256 + g ≡ packed (a ∷ b ∷ c ∷ d ∷ e ∷ f ∷ g ∷ []) = sym t in
    omega (arith, bytes 0, bytes 1, bytes 2, bytes 3, bytes 4, bytes 5, bytes 6, same)
two_reads (a ∷ b ∷ c ∷ d ∷ e ∷ f ∷ g ∷ h ∷ rest) bytes long short = absurd (omega (arith, short))
