use Rattle.gq_insert.specs.Inserting.{row_inserted}
use Rattle.gq_rules_store.specs.Upserts.{StoreRowsFit}
use Rattle.gq_session.specs.Statements.{State}
use Rattle.gq_session.proofs.SafeLemmas.{row_stored}
use Rattle.gq_session.proofs.SessionLemmas.{answers_keep, session_gains}
use Rattle.gq_session.proofs.session.Session.insert.Goals as goal

pub invariant_of-self : goal.invariant_of-self
invariant_of-self g c =
    let i = c.self.inside in
    let fits = c.self.invariant.fits in
    let v : State = record { schema = i.catalog; in_use = i.in_use; jobs = i.jobs; queries = i.queries; store = i.store; file = i.file; turns = i.runner.now.turns } in
    let new = c.insert_row.new.store in record {
      fits = session_gains v i.index fits new c.insert_row.ensures.fits
          (answers_keep (StoreRowsFit i.catalog) (row_inserted i.catalog i.store c.args.tree.now) i.store new c.insert_row.result fits.safe.rows
          (λ store is. row_stored i.catalog fits.safe.sound i.store store c.args.tree.now fits.safe.rows is) c.insert_row.ensures.inserted)
          c.insert_row.ensures.grown;
      ready = c.self.invariant.ready;
    }
