use Rattle.std.proofs.Common.{arith, ◌≡◌, ◌∙◌, ◌++◌, ◌∷◌, [], ap, None, List, ℕ, length}
use Rattle.std.specs.String.{string_bytes}
use Rattle.std.proofs.lemmas.Map.Text.{btree_map_updates_text}
use Rattle.gq_graph.specs.Catalog.{name_place}
use Rattle.gq_schema.specs.Kept.{HavePlaces}
use Rattle.gq_schema.proofs.NameLemmas.{places_added}
use Rattle.gq_schema.proofs.names.NameTable.push.Goals as goal

pub invariant_of-self : goal.invariant_of-self
invariant_of-self c = rw (c.reserve.ensures.items) c.self.invariant

pub invariant_of-self-in-Err : goal.invariant_of-self-in-Err
invariant_of-self-in-Err c = rw (c.reserve.ensures.items, c.in-Err.ensures.err) c.self.invariant

pub invariant_of-self-2 : goal.invariant_of-self-2
invariant_of-self-2 c =
    let names = c.self.inside.names.items in
    let none : name_place names c.args.name.now ≡ None = ap (λ (l : List (List ℕ)). name_place l c.args.name.now) c.self.view_is ∙ c.requires in
    let names_are : c.put.new.names.items ≡ names ++ c.args.name.now ∷ [] = cc (c.put.ensures, c.reserve.ensures.items, c.in_ok-copy.ensures) in
    rw (names_are) (places_added names c.self.inside.places c.insert.new.self c.args.name.now (string_bytes c.in_ok-key.key) c.len-2.result none c.in_ok-key.ensures.ok
    (let n_is : c.len-2.result ≡ length names = omega (arith, c.len-2.ensures, c.reserve.ensures.len, c.self.inside.names.ok.0) in n_is)
    (λ other. btree_map_updates_text (string_bytes c.in_ok-key.key) c.self.inside.places c.insert.new.self _ c.in-Ok.ensures.updates other) c.self.invariant)
