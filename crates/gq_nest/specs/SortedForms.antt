-- SortedForms: the entries of a map, whether in a vector or in a tree.
use Rattle.std.specs.Prelude.{List}
use mathlib.Core.Logic.{inl}
use Rattle.std_collections.specs.Layout.BTreeMap.{BTreeMap, btree_map}
use Rattle.gq_nest.specs.declared.form.Form.{Form}
use Rattle.gq_nest.specs.declared.form.Form.TheVariants.{Few, Many}

abbrev pub entries_in : {K X : Type 0} → Form K X → List (K × X)
entries_in (Few v) = v.items
entries_in (Many b) = b.value.entries

-- what callers see: the entries alone
abbrev pub seen : {K X : Type 0} → Form K X → BTreeMap K X
seen f = btree_map (entries_in f) (inl tt)
