use Rattle.std.proofs.Common.{◌≡◌, ◌++◌, ◌∷◌, [], ◌+◌, ◌<◌, suc, length, arith}
use Rattle.std.specs.String.{string_bytes}
use Rattle.std.proofs.lemmas.Map.Text.{btree_map_updates_text}
use Rattle.gq_scope.proofs.NameTableLemmas.{kept_push}
use Rattle.gq_scope.proofs.names.NameTable.push.Goals as goal

pub invariant_of-self-2 : goal.invariant_of-self-2
invariant_of-self-2 g c =
    let rows = c.self.inside.rows.items in
    let hidden = c.self.inside.hidden.items in
    let few : length rows + 1 < 4294967296 = omega (arith, c.len.ensures, c.in_ok-within.ensures.ok, c.self.inside.rows.ok.0) in
    let row_is : c.len-2.result + 1 ≡ suc (length rows) = omega (arith, c.len-2.ensures, c.reserve.ensures.len, c.self.inside.rows.ok.0) in
    let rows_are : c.put.new.items.items ≡ rows ++ (c.args.name.now, c.args.what) ∷ [] = cc (c.put.ensures, c.reserve.ensures.items, c.in_ok-copy.ensures) in
    let hidden_are : c.put-2.new.items.items ≡ hidden ++ c.unwrap_or-hidden.result ∷ [] = cc (c.put-2.ensures, c.reserve-2.ensures.items) in
    rw (rows_are, hidden_are)
    (kept_push rows hidden c.self.inside.last (c.args.name.now, c.args.what) c.unwrap_or-hidden.result c.insert.new.self
    (string_bytes c.in_ok-key.key) c.in-Ok.before (c.len-2.result + 1) c.in_ok-key.ensures.ok row_is c.in-Ok.ensures.old c.unwrap_or-hidden.ensures
    (λ name. btree_map_updates_text (string_bytes c.in_ok-key.key) c.self.inside.last c.insert.new.self _ c.in-Ok.ensures.updates name) few c.self.invariant)
