-- KindNests: a function value that reads kinds one level deeper, as the reader's functions require it.
use Rattle.std.specs.Prelude.{ℕ, ◌≤◌, length, Option, Result, IfOk}
use Rattle.std.specs.Borrow.{Bor}
use Rattle.std.specs.declared.alloc.Global.{Global}
use Rattle.gq_base.specs.declared.memory.OutOfMemory.{OutOfMemory}
use Rattle.gq_tree.specs.declared.kind.KindTree.{KindTree}
use Rattle.gq_grammar.specs.Lexemes.{Lexemes}
use Rattle.gq_grammar.specs.Parsers.{Found}
use Rattle.gq_parse_common.specs.Kinds.{kind_parser}

-- it reads kinds of at most `levels` levels, from any place
pub record Nests (all : Lexemes) (levels : ℕ) (pre : Global → Bor Lexemes → ℕ → ℕ → Type 0)
    (post : Global → Bor Lexemes → ℕ → ℕ → Result (Option (KindTree × ℕ)) OutOfMemory → Type 0) : Type 0 where
  pub callable : (alloc : Global) (source : Bor Lexemes) (at : ℕ) → at ≤ length source.now → pre alloc source levels at
  pub reads : (alloc : Global) (source : Bor Lexemes) (at : ℕ) (r : Result (Option (KindTree × ℕ)) OutOfMemory) → post alloc source levels at r
      → IfOk r (Found (kind_parser levels) source.now at)
