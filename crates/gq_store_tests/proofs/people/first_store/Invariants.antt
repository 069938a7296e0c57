use Rattle.gq_load.specs.Keeping.{StoreFits}
use Rattle.gq_store_tests.proofs.people.first_store.Given as goal

-- the store keeps to its catalog
abbrev pub invariant-loop-number : goal.invariant-loop-number
invariant-loop-number l = StoreFits l.fn.catalog l.store
