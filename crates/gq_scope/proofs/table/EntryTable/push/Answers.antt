use Rattle.std.proofs.Common.{◌≡◌, ◌++◌, ◌∷◌, [], ◌<◌, cond, length, subst}
use Rattle.gq_scope.proofs.KeptLemmas.{numbered_push}
use Rattle.gq_scope.proofs.table.EntryTable.push.Goals as goal

pub invariant_of-self-2 : goal.invariant_of-self-2
invariant_of-self-2 c =
    let names = c.self.inside.names in
    let names_are : c.push.new.self ≡ names ++ (c.args.name.now, c.args.what) ∷ [] = c.in_ok-push.ensures.added in
    let few : length (names ++ (c.args.name.now, c.args.what) ∷ []) < 4294967296 = subst (λ l. length l < 4294967296) names_are c.in_ok-push.ensures.few in
    let tuples_are : c.note.new.tuples.items ≡ c.self.inside.tuples.items ++ cond c.is_tuple-tuple.result (c.len-number.result ∷ []) [] = cc (c.note.ensures, c.in_ok-reserve.ensures.items) in
    rw (names_are, tuples_are) (numbered_push names c.self.inside.tuples.items (c.args.name.now, c.args.what) c.is_tuple-tuple.result c.len-number.result c.self.invariant c.len-number.ensures c.is_tuple-tuple.ensures few)
