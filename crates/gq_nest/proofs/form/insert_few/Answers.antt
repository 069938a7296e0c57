use Rattle.std.proofs.Common.{◌≡◌, Ok, Err, arith}
use Rattle.std_collections.specs.Layout.BTreeMap.{seek}
use Rattle.gq_nest.proofs.Seeks.{within, replaced, replaced_sorted, before_end, added_ok, added_up}
use Rattle.gq_nest.proofs.form.insert_few.Goals as goal

pub index_mut-requires : goal.index_mut-requires
index_mut-requires g c =
    let s : Ok c.in-Ok.at ≡ seek (g.K.Ord.cmp c.args.key) c.args.entries.now.items = rw c.as_slice.ensures.value at c.in-Ok.ensures in
    let l = within (g.K.Ord.cmp c.args.key) c.args.entries.now.items c.in-Ok.at s in
    let n = c.args.entries.now.ok.0 in
    omega (arith, l, n)

pub insert_at-requires : goal.insert_at-requires
insert_at-requires g c =
    let s : Err c.in-Err.at ≡ seek (g.K.Ord.cmp c.args.key) c.args.entries.now.items = rw c.as_slice.ensures.value at c.in-Err.ensures in
    before_end g.K.Ord.cmp g.met.K.Ord.total c.args.key c.args.value _ _ s

pub returns-in-Ok-clause-entries : goal.returns-in-Ok-clause-entries
returns-in-Ok-clause-entries g c =
    let s : Ok c.in-Ok.at ≡ seek (g.K.Ord.cmp c.args.key) c.args.entries.now.items = rw c.as_slice.ensures.value at c.in-Ok.ensures in
    replaced g.K.Ord.cmp g.met.K.Ord.total c.args.key c.args.value _ _ s _ c.index_mut.ensures.value

pub returns-in-Ok-clause-ordered : goal.returns-in-Ok-clause-ordered
returns-in-Ok-clause-ordered g c =
    let s : Ok c.in-Ok.at ≡ seek (g.K.Ord.cmp c.args.key) c.args.entries.now.items = rw c.as_slice.ensures.value at c.in-Ok.ensures in
    replaced_sorted g.K.Ord.cmp g.met.K.Ord.total c.args.key c.args.value _ _ s _ c.index_mut.ensures.value c.requires

pub returns-in-Err-clause-entries : goal.returns-in-Err-clause-entries
returns-in-Err-clause-entries g c =
    let s : Err c.in-Err.at ≡ seek (g.K.Ord.cmp c.args.key) c.args.entries.now.items = rw c.as_slice.ensures.value at c.in-Err.ensures in
    added_ok g.met.K.Ord.total c.args.key c.args.value _ _ _ s c.insert_at.result c.insert_at.ensures.put

pub returns-in-Err-clause-ordered : goal.returns-in-Err-clause-ordered
returns-in-Err-clause-ordered g c =
    let s : Err c.in-Err.at ≡ seek (g.K.Ord.cmp c.args.key) c.args.entries.now.items = rw c.as_slice.ensures.value at c.in-Err.ensures in
    added_up g.met.K.Ord.total c.args.key c.args.value _ _ _ s c.insert_at.result c.insert_at.ensures.put c.insert_at.ensures.same c.requires
