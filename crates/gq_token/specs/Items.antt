-- Items: what begins at a place of a script, as the functions for each kind of item find it.
use Rattle.std.specs.Prelude.{◌≡◌, ℕ, ◌+◌, ◌<◌, ◌≤◌, Bool, true, false, List, length, take, Option, Some, None}
use Rattle.gq_token.specs.declared.token.TokenKind.{TokenKind}
use Rattle.gq_token.specs.declared.fault.LexFault.{LexFault}
use Rattle.gq_token.specs.declared.fault.LexFault.TheVariants.{NotUtf8, BadToken, OpenComment, OpenText, TooBig, OutOfMemory}
use Rattle.gq_token.specs.Texts.{bad_escape}
use Rattle.gq_token.specs.Spelling.{Item, Gap, TokenOf, spelled}
use Rattle.gq_token.specs.Cut.{IsNext}
use Rattle.gq_token.specs.Faults.{BeginsOpenComment, BeginsOpenText, BeginsBadToken, BeginsTooBig}

-- a gap, or the token of a shape
abbrev pub item_with : Option TokenKind → Item
item_with None = Gap
item_with (Some shape) = TokenOf shape

-- the next item of the remaining bytes, and its size
pub record IsItem (rest : List ℕ) (size : ℕ) (item : Item) : Type 0 where
  pub some : 0 < size
  pub within : size ≤ length rest
  pub spells : spelled (take size rest) ≡ Some item
  pub is_next : IsNext rest (take size rest)

-- what begins at this place, with the remaining bytes, is faulty
abbrev pub FaultHere : List ℕ → ℕ → LexFault → Type 0
FaultHere rest at (NotUtf8 place) = ⊥
FaultHere rest at (BadToken place) = (n : ℕ) × BeginsBadToken rest n × (place ≡ at + n)
FaultHere rest at (OpenComment place) = BeginsOpenComment rest × (place ≡ at)
FaultHere rest at (OpenText place) = BeginsOpenText rest × (place ≡ at)
FaultHere rest at (TooBig place) = BeginsTooBig rest × (place ≡ at)
FaultHere rest at OutOfMemory = Unit {0}

-- the first `size` bytes pass a test that recognizes their end
pub record EndsAt (test : List ℕ → Bool) (bytes : List ℕ) (size : ℕ) : Type 0 where
  pub within : size ≤ length bytes
  pub ends : test (take size bytes) ≡ true

-- no prefix of the bytes passes the test
abbrev pub NeverEnds : (List ℕ → Bool) → List ℕ → Type 0
NeverEnds test bytes = (n : ℕ) → test (take n bytes) ≡ false

-- the fault of a closed text, whose first byte is at this place
abbrev pub BodyFault : List ℕ → ℕ → LexFault → Type 0
BodyFault body at (NotUtf8 place) = ⊥
BodyFault body at (BadToken place) = (n : ℕ) × (bad_escape body ≡ Some n) × (place ≡ at + n)
BodyFault body at (OpenComment place) = ⊥
BodyFault body at (OpenText place) = ⊥
BodyFault body at (TooBig place) = ⊥
BodyFault body at OutOfMemory = Unit {0}
