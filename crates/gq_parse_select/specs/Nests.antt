-- Nests: function values that read inputs and acts one level deeper, as the reader's functions require them.
use Rattle.std.specs.Prelude.{ℕ, ◌≤◌, length, Option, Result, IfOk}
use Rattle.std.specs.Borrow.{Bor}
use Rattle.std.specs.declared.alloc.Global.{Global}
use Rattle.gq_base.specs.declared.memory.OutOfMemory.{OutOfMemory}
use Rattle.gq_tree.specs.declared.select.InputTree.{InputTree}
use Rattle.gq_tree.specs.declared.select.ActTree.{ActTree}
use Rattle.gq_grammar.specs.Lexemes.{Lexemes}
use Rattle.gq_grammar.specs.Parsers.{Found}
use Rattle.gq_parse_select.specs.Acts.{nested_input_parser, nested_act_parser}

-- it reads inputs of at most `levels` levels, from any place
pub record InputNests (all : Lexemes) (levels : ℕ) (pre : Global → Bor Lexemes → ℕ → ℕ → Type 0)
    (post : Global → Bor Lexemes → ℕ → ℕ → Result (Option (InputTree × ℕ)) OutOfMemory → Type 0) : Type 0 where
  pub callable : (alloc : Global) (source : Bor Lexemes) (at : ℕ) → at ≤ length source.now → pre alloc source levels at
  pub reads : (alloc : Global) (source : Bor Lexemes) (at : ℕ) (r : Result (Option (InputTree × ℕ)) OutOfMemory) → post alloc source levels at r
      → IfOk r (Found (nested_input_parser levels) source.now at)

-- it reads acts of at most `levels` levels, from any place
pub record ActNests (all : Lexemes) (levels : ℕ) (pre : Global → Bor Lexemes → ℕ → ℕ → Type 0)
    (post : Global → Bor Lexemes → ℕ → ℕ → Result (Option (ActTree × ℕ)) OutOfMemory → Type 0) : Type 0 where
  pub callable : (alloc : Global) (source : Bor Lexemes) (at : ℕ) → at ≤ length source.now → pre alloc source levels at
  pub reads : (alloc : Global) (source : Bor Lexemes) (at : ℕ) (r : Result (Option (ActTree × ℕ)) OutOfMemory) → post alloc source levels at r
      → IfOk r (Found (nested_act_parser levels) source.now at)
