-- Faults: where and why bytes can't be cut into gaps and tokens.
use Rattle.std.specs.Prelude.{◌≡◌, ◌⊎◌, ℕ, ◌+◌, ◌^◌, ◌<◌, ◌≤◌, true, false, List, length, take, drop, Some, None, codes, nat_eq}
use Rattle.std.specs.List.{starts_with}
use Rattle.std.specs.Str.{IsUtf8}
use Rattle.std.specs.Str.Lossy.{utf8_valid_len}
use Rattle.gq_token.specs.declared.token.TokenKind.TheVariants.{Number}
use Rattle.gq_token.specs.declared.fault.LexFault.{LexFault}
use Rattle.gq_token.specs.declared.fault.LexFault.TheVariants.{NotUtf8, BadToken, OpenComment, OpenText, TooBig, OutOfMemory}
use Rattle.gq_token.specs.Texts.{closes, bad_escape}
use Rattle.gq_token.specs.Spelling.{TokenOf, spelled, is_block_comment}
use Rattle.gq_token.specs.Cut.{IsLongest, Cuts}

-- the bytes aren't UTF-8, and their longest prefix that is has this length
abbrev pub HasNotUtf8At : List ℕ → ℕ → Type 0
HasNotUtf8At bytes at = (¬ IsUtf8 bytes) × (at ≡ utf8_valid_len bytes)

-- a `/*` without a later `*/`
pub record BeginsOpenComment (bytes : List ℕ) : Type 0 where
  pub opens : starts_with nat_eq bytes (codes "/*") ≡ true
  pub unclosed : (n : ℕ) → is_block_comment (take n bytes) ≡ false

-- a `"` whose text isn't closed
pub record BeginsOpenText (bytes : List ℕ) : Type 0 where
  pub opens : starts_with nat_eq bytes (codes "\"") ≡ true
  pub unclosed : (n : ℕ) → closes (take n (drop 1 bytes)) ≡ false

-- a byte that begins neither gap nor token: no prefix spells an item, and no comment or text opens
pub record BeginsNothing (bytes : List ℕ) : Type 0 where
  pub no_item : (n : ℕ) → n ≤ length bytes → spelled (take n bytes) ≡ None
  pub no_comment : starts_with nat_eq bytes (codes "/*") ≡ false
  pub no_text : starts_with nat_eq bytes (codes "\"") ≡ false

-- a text that is closed, with a backslash at this place that doesn't begin an escape
pub record BeginsBadEscape (bytes : List ℕ) (place : ℕ) : Type 0 where
  pub opens : starts_with nat_eq bytes (codes "\"") ≡ true
  pub size : ℕ
  pub closed : closes (take size (drop 1 bytes)) ≡ true
  pub bad : (n : ℕ) × (bad_escape (take size (drop 1 bytes)) ≡ Some n) × (place ≡ n + 1)

-- a byte at this place isn't part of a gap or token
abbrev pub BeginsBadToken : List ℕ → ℕ → Type 0
BeginsBadToken bytes place = (BeginsNothing bytes × (place ≡ 0)) ⊎ BeginsBadEscape bytes place

-- the next item is a number of more than 64 bits
pub record BeginsTooBig (bytes : List ℕ) : Type 0 where
  pub text : List ℕ
  pub number : ℕ
  pub is_longest : IsLongest bytes text
  pub is_number : spelled text ≡ Some (TokenOf (Number number))
  pub too_big : 2 ^ 64 ≤ number

-- the bytes are UTF-8, those before a place are cut into items, and what begins there is faulty
pub record HasFaultAt (Fault : List ℕ → Type 0) (bytes : List ℕ) (at : ℕ) : Type 0 where
  pub utf8 : IsUtf8 bytes
  pub below : at < length bytes
  pub texts : List (List ℕ)
  pub cuts : Cuts bytes texts (drop at bytes)
  pub fault : Fault (drop at bytes)

-- the byte at this place, which may be within a text, is faulty
abbrev pub HasBadTokenAt : List ℕ → ℕ → Type 0
HasBadTokenAt bytes at = (from : ℕ) × (place : ℕ) × HasFaultAt (λ rest. BeginsBadToken rest place) bytes from × (at ≡ from + place)

-- the fault of bytes that can't be cut
abbrev pub HasFault : List ℕ → LexFault → Type 0
HasFault bytes (NotUtf8 at) = HasNotUtf8At bytes at
HasFault bytes (BadToken at) = HasBadTokenAt bytes at
HasFault bytes (OpenComment at) = HasFaultAt BeginsOpenComment bytes at
HasFault bytes (OpenText at) = HasFaultAt BeginsOpenText bytes at
HasFault bytes (TooBig at) = HasFaultAt BeginsTooBig bytes at
HasFault bytes OutOfMemory = ⊥

-- the byte at which a fault occurs
abbrev pub place_of : LexFault → ℕ
place_of (NotUtf8 at) = at
place_of (BadToken at) = at
place_of (OpenComment at) = at
place_of (OpenText at) = at
place_of (TooBig at) = at
place_of OutOfMemory = 0
