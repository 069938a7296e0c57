-- Puts: the effect of upserts on a store, as a function.
use Rattle.std.specs.Prelude.{if◌then◌else◌, List, [], ◌∷◌, Option, Some, None}
use Rattle.gq_index.specs.declared.store.Store.{Store}
use Rattle.gq_index.specs.Steps.{Step, after, is_refused}

-- the store after a list of upserts, or None if one of them is refused
abbrev pub put_all : Store → List Step → Option Store
put_all store [] = Some store
put_all store (step ∷ steps) = if is_refused store step then None else put_all (after store step) steps
