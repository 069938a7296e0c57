-- StatementLaws: if the listing of the files is given, a statement has exactly one effect.
use Rattle.std.proofs.Common.{◌≡◌, sym, ap, ◌∙◌}
use Rattle.gq_io.specs.Listing.{Listing}
use Rattle.gq_tree.specs.declared.job.RunJobTree.{RunJobTree}
use Rattle.gq_tree.specs.declared.statement.Statement.{Statement}
use Rattle.gq_tree.specs.declared.statement.Statement.TheVariants as top
use Rattle.gq_io.specs.Known.{Told}
use Rattle.gq_diagnostics.specs.Effects.{Effect}
use Rattle.gq_load_run.specs.JobLaws.{job_determined}
use Rattle.gq_session.specs.Statements.{State, RunsJob, store_done, Does}

job_does_one : (pairs : Listing) (s : State) (tree : RunJobTree) (e f : Effect State) → RunsJob (Told pairs) s tree e → RunsJob (Told pairs) s tree f → e ≡ f
job_does_one pairs s tree e f (x, does, is) (y, other, as_well) =
    is ∙ ap (store_done s) (job_determined pairs s.schema s.jobs s.store tree x y does other) ∙ sym as_well

pub does_one : (pairs : Listing) (s : State) (statement : Statement) (e f : Effect State) → Does (Told pairs) s statement e → Does (Told pairs) s statement f → e ≡ f
does_one pairs s (top.Vertex tree) e f one other = one ∙ sym other
does_one pairs s (top.Edge tree) e f one other = one ∙ sym other
does_one pairs s (top.Graph tree) e f one other = one ∙ sym other
does_one pairs s (top.Use name) e f one other = one ∙ sym other
does_one pairs s (top.Job tree) e f one other = one ∙ sym other
does_one pairs s (top.RunJob tree) e f one other = job_does_one pairs s tree e f one other
does_one pairs s (top.Query replace name tree) e f one other = one ∙ sym other
does_one pairs s (top.Install which) e f one other = one ∙ sym other
does_one pairs s (top.Run tree) e f one other = one.0 ∙ sym other.0
does_one pairs s (top.Interpret tree) e f one other = one.0 ∙ sym other.0
does_one pairs s (top.Insert tree) e f one other = one ∙ sym other
does_one pairs s top.Begin e f one other = one ∙ sym other
does_one pairs s top.End e f one other = one ∙ sym other
