use Rattle.std.proofs.Common.{IfOk, rules, sym, subst}
use Rattle.std.specs.Prelude.{IfErr}
use Rattle.gq_diagnostics.specs.Messages.{message_of}
use Rattle.gq_diagnostics.specs.Effects.{Becomes, Refused, lines_of}
use Rattle.gq_io.specs.Known.{known_of}
use Rattle.gq_tree.specs.declared.statement.Statement.{Statement}
use Rattle.gq_session.specs.Safe.{IsWritten}
use Rattle.gq_session.specs.Statements.{Does, Leaves, query_interpreted, query_ran}
use Rattle.gq_session.proofs.SessionLemmas.{left_same, silent_left}
use Rattle.gq_session.proofs.QueryLemmas.{prints_done, prints_no_read_fault, prints_refused}
use Rattle.gq_session.proofs.session.Session.run.Goals as goal

pub returns-in-Vertex-clause-done : goal.returns-in-Vertex-clause-done
returns-in-Vertex-clause-done g c = λ before now met.
    let known = known_of (g.F.Files.held c.args.files.now) before now met in
    let P : Statement → Type 0 = λ statement. IfOk c.silent.result (λ line. Does known c.args.self.now statement (Becomes c.make_vertex.new.self (lines_of line))) in
    subst P (sym c.in-Vertex.is) (c.silent.ensures.done _ _ _ c.make_vertex.ensures)

pub returns-in-Edge-clause-done : goal.returns-in-Edge-clause-done
returns-in-Edge-clause-done g c = λ before now met.
    let known = known_of (g.F.Files.held c.args.files.now) before now met in
    let P : Statement → Type 0 = λ statement. IfOk c.silent-in-Edge.result (λ line. Does known c.args.self.now statement (Becomes c.make_edge.new.self (lines_of line))) in
    subst P (sym c.in-Edge.is) (c.silent-in-Edge.ensures.done _ _ _ c.make_edge.ensures)

pub returns-in-Graph-clause-done : goal.returns-in-Graph-clause-done
returns-in-Graph-clause-done g c = λ before now met.
    let known = known_of (g.F.Files.held c.args.files.now) before now met in
    let P : Statement → Type 0 = λ statement. IfOk c.silent-in-Graph.result (λ line. Does known c.args.self.now statement (Becomes c.make_graph.new.self (lines_of line))) in
    subst P (sym c.in-Graph.is) (c.silent-in-Graph.ensures.done _ _ _ c.make_graph.ensures)

pub returns-in-Use-clause-done : goal.returns-in-Use-clause-done
returns-in-Use-clause-done g c = λ before now met.
    let known = known_of (g.F.Files.held c.args.files.now) before now met in
    let P : Statement → Type 0 = λ statement. IfOk c.silent-in-Use.result (λ line. Does known c.args.self.now statement (Becomes c.use_graph.new.self (lines_of line))) in
    subst P (sym c.in-Use.is) (c.silent-in-Use.ensures.done _ _ _ c.use_graph.ensures)

pub returns-in-Job-clause-done : goal.returns-in-Job-clause-done
returns-in-Job-clause-done g c = λ before now met.
    let known = known_of (g.F.Files.held c.args.files.now) before now met in
    let P : Statement → Type 0 = λ statement. IfOk c.silent-in-Job.result (λ line. Does known c.args.self.now statement (Becomes c.make_job.new.self (lines_of line))) in
    subst P (sym c.in-Job.is) (c.silent-in-Job.ensures.done _ _ _ c.make_job.ensures)

pub returns-in-Insert-clause-done : goal.returns-in-Insert-clause-done
returns-in-Insert-clause-done g c = λ before now met.
    let known = known_of (g.F.Files.held c.args.files.now) before now met in
    let P : Statement → Type 0 = λ statement. IfOk c.silent-in-Insert.result (λ line. Does known c.args.self.now statement (Becomes c.insert.new.self (lines_of line))) in
    subst P (sym c.in-Insert.is) (c.silent-in-Insert.ensures.done _ _ _ c.insert.ensures)

pub returns-in-RunJob-clause-done : goal.returns-in-RunJob-clause-done
returns-in-RunJob-clause-done g c = λ before now met.
    let known = known_of (g.F.Files.held c.args.files.now) before now met in
    let P : Statement → Type 0 = λ statement. IfOk c.run_job.result (λ line. Does known c.args.self.now statement (Becomes c.run_job.new.self (lines_of line))) in
    subst P (sym c.in-RunJob.is) (c.run_job.ensures.done before now met)

pub interpret-requires : goal.interpret-requires
interpret-requires g c = (search rules, subst IsWritten c.in-Interpret.is c.requires)

pub returns-in-Interpret-clause-done : goal.returns-in-Interpret-clause-done
returns-in-Interpret-clause-done g c = λ before now met.
    let known = known_of (g.F.Files.held c.args.files.now) before now met in
    let P : Statement → Type 0 = λ statement. IfOk c.interpret.result (λ line. Does known c.args.self.now statement (Becomes c.interpret.new.self (lines_of line))) in
    subst P (sym c.in-Interpret.is) (prints_done c.args.self.now c.interpret.new.self (query_interpreted c.args.self.now c.in-Interpret.tree) c.interpret.result c.interpret.ensures.same c.interpret.ensures.prints)

pub returns-in-Interpret-clause-refused : goal.returns-in-Interpret-clause-refused
returns-in-Interpret-clause-refused g c = λ refusal is before low.
    let known = known_of (g.F.Files.held c.args.files.now) before (g.F.Files.absences c.args.files.now) (g.F.Files.length_met c.args.files.now) in
    let P : Statement → Type 0 = λ statement. Does known c.args.self.now statement (Refused (message_of refusal)) in
    subst P (sym c.in-Interpret.is) (prints_refused c.args.self.now (query_interpreted c.args.self.now c.in-Interpret.tree) c.interpret.result refusal is c.interpret.ensures.prints)

pub returns-in-Interpret-clause-read_fault : goal.returns-in-Interpret-clause-read_fault
returns-in-Interpret-clause-read_fault g c = λ is. prints_no_read_fault c.args.self.now (query_interpreted c.args.self.now c.in-Interpret.tree) c.interpret.result is c.interpret.ensures.prints

pub returns-in-Run-clause-done : goal.returns-in-Run-clause-done
returns-in-Run-clause-done g c = λ before now met.
    let known = known_of (g.F.Files.held c.args.files.now) before now met in
    let P : Statement → Type 0 = λ statement. IfOk c.run_query.result (λ line. Does known c.args.self.now statement (Becomes c.run_query.new.self (lines_of line))) in
    subst P (sym c.in-Run.is) (prints_done c.args.self.now c.run_query.new.self (query_ran c.args.self.now c.in-Run.tree) c.run_query.result c.run_query.ensures.same c.run_query.ensures.prints)

pub returns-in-Run-clause-refused : goal.returns-in-Run-clause-refused
returns-in-Run-clause-refused g c = λ refusal is before low.
    let known = known_of (g.F.Files.held c.args.files.now) before (g.F.Files.absences c.args.files.now) (g.F.Files.length_met c.args.files.now) in
    let P : Statement → Type 0 = λ statement. Does known c.args.self.now statement (Refused (message_of refusal)) in
    subst P (sym c.in-Run.is) (prints_refused c.args.self.now (query_ran c.args.self.now c.in-Run.tree) c.run_query.result refusal is c.run_query.ensures.prints)

pub returns-in-Run-clause-read_fault : goal.returns-in-Run-clause-read_fault
returns-in-Run-clause-read_fault g c = λ is. prints_no_read_fault c.args.self.now (query_ran c.args.self.now c.in-Run.tree) c.run_query.result is c.run_query.ensures.prints

pub returns-in-Query-clause-done : goal.returns-in-Query-clause-done
returns-in-Query-clause-done g c = λ before now met.
    let known = known_of (g.F.Files.held c.args.files.now) before now met in
    let P : Statement → Type 0 = λ statement. IfOk c.silent-in-Query.result (λ line. Does known c.args.self.now statement (Becomes c.make_query.new.self (lines_of line))) in
    subst P (sym c.in-Query.is) (c.silent-in-Query.ensures.done _ _ _ c.make_query.ensures)

pub returns-in-Install-clause-done : goal.returns-in-Install-clause-done
returns-in-Install-clause-done g c = λ before now met.
    let known = known_of (g.F.Files.held c.args.files.now) before now met in
    let P : Statement → Type 0 = λ statement. IfOk c.silent-in-Install.result (λ line. Does known c.args.self.now statement (Becomes c.install.new.self (lines_of line))) in
    subst P (sym c.in-Install.is) (c.silent-in-Install.ensures.done _ _ _ c.install.ensures)

pub returns-in-Vertex-clause-left : goal.returns-in-Vertex-clause-left
returns-in-Vertex-clause-left g c = λ before low.
    let known = known_of (g.F.Files.held c.args.files.now) before (g.F.Files.absences c.args.files.now) (g.F.Files.length_met c.args.files.now) in
    let P : Statement → Type 0 = λ statement. IfErr c.silent.result (λ f. Leaves known c.args.self.now statement f c.make_vertex.new.self) in
    subst P (sym c.in-Vertex.is) (silent_left _ c.args.self.now c.make_vertex.new.self c.make_vertex.result c.silent.result c.make_vertex.ensures c.silent.ensures.same)

pub returns-in-Edge-clause-left : goal.returns-in-Edge-clause-left
returns-in-Edge-clause-left g c = λ before low.
    let known = known_of (g.F.Files.held c.args.files.now) before (g.F.Files.absences c.args.files.now) (g.F.Files.length_met c.args.files.now) in
    let P : Statement → Type 0 = λ statement. IfErr c.silent-in-Edge.result (λ f. Leaves known c.args.self.now statement f c.make_edge.new.self) in
    subst P (sym c.in-Edge.is) (silent_left _ c.args.self.now c.make_edge.new.self c.make_edge.result c.silent-in-Edge.result c.make_edge.ensures c.silent-in-Edge.ensures.same)

pub returns-in-Graph-clause-left : goal.returns-in-Graph-clause-left
returns-in-Graph-clause-left g c = λ before low.
    let known = known_of (g.F.Files.held c.args.files.now) before (g.F.Files.absences c.args.files.now) (g.F.Files.length_met c.args.files.now) in
    let P : Statement → Type 0 = λ statement. IfErr c.silent-in-Graph.result (λ f. Leaves known c.args.self.now statement f c.make_graph.new.self) in
    subst P (sym c.in-Graph.is) (silent_left _ c.args.self.now c.make_graph.new.self c.make_graph.result c.silent-in-Graph.result c.make_graph.ensures c.silent-in-Graph.ensures.same)

pub returns-in-Use-clause-left : goal.returns-in-Use-clause-left
returns-in-Use-clause-left g c = λ before low.
    let known = known_of (g.F.Files.held c.args.files.now) before (g.F.Files.absences c.args.files.now) (g.F.Files.length_met c.args.files.now) in
    let P : Statement → Type 0 = λ statement. IfErr c.silent-in-Use.result (λ f. Leaves known c.args.self.now statement f c.use_graph.new.self) in
    subst P (sym c.in-Use.is) (silent_left _ c.args.self.now c.use_graph.new.self c.use_graph.result c.silent-in-Use.result c.use_graph.ensures c.silent-in-Use.ensures.same)

pub returns-in-Job-clause-left : goal.returns-in-Job-clause-left
returns-in-Job-clause-left g c = λ before low.
    let known = known_of (g.F.Files.held c.args.files.now) before (g.F.Files.absences c.args.files.now) (g.F.Files.length_met c.args.files.now) in
    let P : Statement → Type 0 = λ statement. IfErr c.silent-in-Job.result (λ f. Leaves known c.args.self.now statement f c.make_job.new.self) in
    subst P (sym c.in-Job.is) (silent_left _ c.args.self.now c.make_job.new.self c.make_job.result c.silent-in-Job.result c.make_job.ensures c.silent-in-Job.ensures.same)

pub returns-in-Insert-clause-left : goal.returns-in-Insert-clause-left
returns-in-Insert-clause-left g c = λ before low.
    let known = known_of (g.F.Files.held c.args.files.now) before (g.F.Files.absences c.args.files.now) (g.F.Files.length_met c.args.files.now) in
    let P : Statement → Type 0 = λ statement. IfErr c.silent-in-Insert.result (λ f. Leaves known c.args.self.now statement f c.insert.new.self) in
    subst P (sym c.in-Insert.is) (silent_left _ c.args.self.now c.insert.new.self c.insert.result c.silent-in-Insert.result c.insert.ensures c.silent-in-Insert.ensures.same)

pub returns-in-Query-clause-left : goal.returns-in-Query-clause-left
returns-in-Query-clause-left g c = λ before low.
    let known = known_of (g.F.Files.held c.args.files.now) before (g.F.Files.absences c.args.files.now) (g.F.Files.length_met c.args.files.now) in
    let P : Statement → Type 0 = λ statement. IfErr c.silent-in-Query.result (λ f. Leaves known c.args.self.now statement f c.make_query.new.self) in
    subst P (sym c.in-Query.is) (silent_left _ c.args.self.now c.make_query.new.self c.make_query.result c.silent-in-Query.result c.make_query.ensures c.silent-in-Query.ensures.same)

pub returns-in-Install-clause-left : goal.returns-in-Install-clause-left
returns-in-Install-clause-left g c = λ before low.
    let known = known_of (g.F.Files.held c.args.files.now) before (g.F.Files.absences c.args.files.now) (g.F.Files.length_met c.args.files.now) in
    let P : Statement → Type 0 = λ statement. IfErr c.silent-in-Install.result (λ f. Leaves known c.args.self.now statement f c.install.new.self) in
    subst P (sym c.in-Install.is) (silent_left _ c.args.self.now c.install.new.self c.install.result c.silent-in-Install.result c.install.ensures c.silent-in-Install.ensures.same)

pub returns-in-RunJob-clause-left : goal.returns-in-RunJob-clause-left
returns-in-RunJob-clause-left g c = λ before low.
    let known = known_of (g.F.Files.held c.args.files.now) before (g.F.Files.absences c.run_job.new.files) (g.F.Files.length_met c.run_job.new.files) in
    let P : Statement → Type 0 = λ statement. IfErr c.run_job.result (λ f. Leaves known c.args.self.now statement f c.run_job.new.self) in
    subst P (sym c.in-RunJob.is) (c.run_job.ensures.left before low)

pub returns-in-Interpret-clause-left : goal.returns-in-Interpret-clause-left
returns-in-Interpret-clause-left g c = λ before low.
    let known = known_of (g.F.Files.held c.args.files.now) before (g.F.Files.absences c.args.files.now) (g.F.Files.length_met c.args.files.now) in
    let P : Statement → Type 0 = λ statement. IfErr c.interpret.result (λ f. Leaves known c.args.self.now statement f c.interpret.new.self) in
    subst P (sym c.in-Interpret.is) (left_same c.args.self.now c.interpret.new.self c.interpret.result c.interpret.ensures.same)

pub returns-in-Run-clause-left : goal.returns-in-Run-clause-left
returns-in-Run-clause-left g c = λ before low.
    let known = known_of (g.F.Files.held c.args.files.now) before (g.F.Files.absences c.args.files.now) (g.F.Files.length_met c.args.files.now) in
    let P : Statement → Type 0 = λ statement. IfErr c.run_query.result (λ f. Leaves known c.args.self.now statement f c.run_query.new.self) in
    subst P (sym c.in-Run.is) (left_same c.args.self.now c.run_query.new.self c.run_query.result c.run_query.ensures.same)
