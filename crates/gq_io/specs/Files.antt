-- Files: the result of a read, if the files are known.
use Rattle.std.specs.Prelude.{◌≡◌, ℕ, ◌<◌, List, length, Some, None, Result, IfOk, IsErrOf, Vec}
use Rattle.std.specs.declared.alloc.Global.{Global}
use Rattle.gq_io.specs.declared.files.FileFault.{FileFault}
use Rattle.gq_io.specs.declared.files.FileFault.TheVariants.{Missing, TooLarge}
use Rattle.gq_io.specs.Listing.{Listing, named}

-- the maximum size of a file in bytes
abbrev pub most_bytes : ℕ
most_bytes = 1073741824

-- a read of this name returns what these files have, unless it fails or memory runs out
pub record AnswersFrom (pairs : Listing) (name : List ℕ) (result : Result (Vec ℕ Global) FileFault) : Type 0 where
  pub bytes : IfOk result (λ v. named name pairs ≡ Some v.items)
  pub missing : IsErrOf result Missing → named name pairs ≡ None
  pub too_large : IsErrOf result TooLarge → (bytes : List ℕ) × (named name pairs ≡ Some bytes) × (most_bytes < length bytes)
