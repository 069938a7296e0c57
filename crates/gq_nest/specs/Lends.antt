-- Lends: what a map ends as, once a `&mut` to a value in it has ended.
use Rattle.std.specs.Prelude.{◌≡◌, Option}
use Rattle.std.specs.Borrow.{Fml, RattleType, MutBor, follows_so}
use Rattle.std.specs.declared.cmp.Ordering.{Ordering}
use Rattle.std.specs.Option.{ghost_name_of}
use Rattle.std.specs.Map.{set_value}
use Rattle.std.specs.BTreeMap.{BTreeMap, is_at}
use Rattle.std_collections.specs.BTreeMap.{WritesThrough}
use Rattle.std_collections.specs.BTreeMap.Lent.{OrdMembers}
use Rattle.gq_nest.specs.declared.form.Form.{Form}
use Rattle.gq_nest.specs.contracts.form.Form as form
use Rattle.gq_nest.specs.contracts.map.SortedMap as map
use Rattle.gq_nest.specs.SortedForms.{entries_in}

module _ (K V : RattleType) (g : OrdMembers K.Denot) where
  abbrev pub form_row : RattleType
  form_row = form.the_row K V (record { cmp = g.cmp }) (record { eq = g.eq }) (record { partial_cmp = g.partial_cmp })

  abbrev pub map_row : RattleType
  map_row = map.the_row K V (record { cmp = g.cmp }) (record { eq = g.eq }) (record { partial_cmp = g.partial_cmp })

  -- at the key that the query finds stands the last value written through r
  abbrev pub follows_form : MutBor (Form K.Denot V.Denot) → (K.Denot → Ordering) → Option (MutBor V.Denot) → Fml
  follows_form m compare r = follows_so form_row V m.ghost_name (ghost_name_of r) (λ w n. entries_in n ≡ set_value (is_at compare) (entries_in m.now) w) (λ n. entries_in n ≡ entries_in m.now)

  abbrev pub follows_get : MutBor (BTreeMap K.Denot V.Denot) → (K.Denot → Ordering) → Option (MutBor V.Denot) → Fml
  follows_get m compare r = follows_so map_row V m.ghost_name (ghost_name_of r) (WritesThrough g.cmp compare m.now) (λ n. n ≡ m.now)
