use Rattle.std.proofs.Common.{◌≡◌, IfOk, List, subst}
use Rattle.gq_plan_ir.specs.declared.block.PathStep.{PathStep}
use Rattle.gq_eval_context.specs.Viewed.{Over}
use Rattle.gq_exec_source.specs.Starts.{AreFrom}
use Rattle.gq_exec_source.proofs.StartLemmas.{from_nowhere, from_hop}
use Rattle.gq_exec_source.proofs.PathLemmas.{bindings_over, from_path}
use Rattle.gq_exec_source.proofs.candidates.candidates_from.Goals as goal

pub returns-in-Ok-clause-found : goal.returns-in-Ok-clause-found
returns-in-Ok-clause-found c =
    subst (λ (o : Over). AreFrom o c.args.block.now c.args.set.now c.in-Ok.all) c.over.view_is
    (from_nowhere _ c.args.block.now c.args.set.now c.in-Ok.all c.in-Nowhere.is c.in-Ok.ensures)

pub returns-in-Ok-along_hop-clause-found : goal.returns-in-Ok-along_hop-clause-found
returns-in-Ok-along_hop-clause-found c =
    from_hop c.args.over.now c.args.block.now c.args.ends.now c.args.set.now c.in-Hop.hop c.in-Ok-along_hop.all c.requires c.in-Hop.is c.in-Ok-along_hop.ensures

pub returns-in-Path-clause-found : goal.returns-in-Path-clause-found
returns-in-Path-clause-found c =
    let o = c.args.over.now in let set = c.args.set.now in
    from_path o c.args.block.now set c.in-Path.steps c.along_path.result c.in-Path.is
    (subst (λ (steps : List PathStep). IfOk c.along_path.result (λ cs. cs ≡ bindings_over o set steps)) c.as_slice.ensures c.along_path.ensures.listed)
    c.along_path.ensures.few
