-- Keeping: the invariant of a session: its state is safe, its store fits its catalog, and its index was built of this
-- catalog and store, or of earlier ones.
use Rattle.gq_index.specs.declared.kept.KeptIndex.{KeptIndex}
use Rattle.gq_index.specs.Kept.{IsKept}
use Rattle.gq_load.specs.Keeping.{StoreFits}
use Rattle.gq_session.specs.Statements.{State}
use Rattle.gq_session.specs.Safe.{IsSafe}

pub record SessionFits (s : State) (index : KeptIndex) : Type 0 where
  pub safe : IsSafe s
  pub kept : StoreFits s.schema s.store
  pub indexed : IsKept index s.schema s.store
