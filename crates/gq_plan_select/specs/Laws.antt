-- Laws: the blocks of a plan are those of the query with references in place of names.
use Rattle.std.specs.Prelude.{◌≡◌, Some}
use Rattle.gq_rules_typing.specs.Statements.{Bytes}
use Rattle.gq_rules_typing.specs.Selecting as plain
use Rattle.gq_plan_ir.specs.declared.block.Change.{Change}
use Rattle.gq_plan_ir.specs.declared.block.Block.{Block}
use Rattle.gq_plan_ir.specs.BlockView.{view_change, view_block}
use Rattle.gq_plan_ir.specs.RenamedBlocks.{renamed_change, renamed_select}
use Rattle.gq_plan_expr.specs.Known.{Known, references}
use Rattle.gq_plan_expr.specs.Globals.{Sees}
use Rattle.gq_plan_select.specs.References.{naming_of}
use Rattle.gq_plan_select.specs.Resolved.{resolved_change, resolved_select}

abbrev pub ChangeLaw : Type 0
ChangeLaw = (k : Known) (c : plain.Change Bytes) (d : Change) → resolved_change k c ≡ Some d → view_change d ≡ renamed_change (references k) c

abbrev pub BlockLaw : Type 0
BlockLaw = (k : Known) (s : Sees) (q : plain.Select Bytes) (b : Block) → resolved_select k s q ≡ Some b → view_block b ≡ renamed_select (naming_of k s) q
