-- Readers: a function value that reads one item, as it is passed to the readers of lists.
use Rattle.std.specs.Prelude.{ℕ, ◌≤◌, length, Option, Result, IfOk}
use Rattle.std.specs.Borrow.{Bor}
use Rattle.std.specs.declared.alloc.Global.{Global}
use Rattle.gq_base.specs.declared.memory.OutOfMemory.{OutOfMemory}
use Rattle.gq_grammar.specs.Lexemes.{Lexemes}
use Rattle.gq_grammar.specs.Parsers.{Parser, Found}

-- it may be called at any place
abbrev pub Callable : (Global → Bor Lexemes → ℕ → Type 0) → Type 0
Callable pre = (alloc : Global) (source : Bor Lexemes) (at : ℕ) → at ≤ length source.now → pre alloc source at

-- it finds what the parser finds
abbrev pub Finds : {A : Type 0} → Parser A → (Global → Bor Lexemes → ℕ → Result (Option (A × ℕ)) OutOfMemory → Type 0) → Type 0
Finds p post = (alloc : Global) (source : Bor Lexemes) (at : ℕ) (r : Result (Option (_ × ℕ)) OutOfMemory) → at ≤ length source.now → post alloc source at r → IfOk r (Found p source.now at)

-- there is a parser for what it finds
abbrev pub Reads : {A : Type 0} → (Global → Bor Lexemes → ℕ → Result (Option (A × ℕ)) OutOfMemory → Type 0) → Type 0
Reads {A} post = (p : Parser A) × Finds p post
