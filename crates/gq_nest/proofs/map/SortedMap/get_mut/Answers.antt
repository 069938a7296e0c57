use Rattle.std.proofs.Common.{refl, ap}
use mathlib.Core.Logic.{inl}
use Rattle.std_collections.specs.Layout.BTreeMap.{btree_map}
use Rattle.std_collections.proofs.TreeMap.Lookup.{writes_through}
use Rattle.gq_nest.specs.SortedForms.{seen}
use Rattle.gq_nest.proofs.Seeks.{still_sorted, same_sorted}
use Rattle.gq_nest.proofs.map.SortedMap.get_mut.Goals as goal

pub invariant_of-self-lent : goal.invariant_of-self-lent
invariant_of-self-lent g c = λ r. ((λ w. still_sorted _ _ _ _ w (c.get_mut.follows.holds w) c.self.invariant), same_sorted _ _ _ c.get_mut.follows.holds-at-none c.self.invariant)

pub returns : goal.returns
returns g c = rw (← c.self.view_is) (
  (refl, (λ w. writes_through g.met.K.Ord.total (g.Q.Comparable.compare c.args.key) (g.met.Q.Comparable.respects_cmp c.args.key) (seen c.self.inside.form) (seen (c.get_mut.follows.lender w)) c.self.invariant w (c.get_mut.follows.holds w)), ap (λ e. btree_map e (inl tt)) c.get_mut.follows.holds-at-none),
  record { writes_back = tt; value = c.get_mut.ensures.value; ordered = c.self.invariant },
)
