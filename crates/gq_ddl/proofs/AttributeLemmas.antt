-- Attributes from trees have plain types.
use Rattle.std.proofs.Common.{◌≡◌, List, true, All, map, get_or, refl, ℕ}
use Rattle.std.proofs.lemmas.List.Elements.{All-map}
use Rattle.gq_graph.specs.Defaults.{is_plain, is_plain_sort, sort_of}
use Rattle.gq_graph.specs.SortLaws.{sort-Int, sort-UInt, sort-Bool, sort-Text, sort-Time}
use Rattle.gq_tree.specs.declared.schema.AttributeKind.{AttributeKind}
use Rattle.gq_tree.specs.declared.schema.AttributeKind.TheVariants as kind
use Rattle.gq_tree.specs.declared.schema.AttributeTree.{AttributeTree}
use Rattle.gq_ddl.specs.Attributes.{kind_of, attribute_of, discriminator_of}

plain_kind : (k : AttributeKind) → is_plain_sort (sort_of (kind_of k)) ≡ true
plain_kind kind.Int = rw sort-Int refl
plain_kind kind.UInt = rw sort-UInt refl
plain_kind kind.Bool = rw sort-Bool refl
plain_kind kind.Text = rw sort-Text refl
plain_kind kind.Time = rw sort-Time refl

pub plain_attributes : (trees : List AttributeTree) → All (λ a. is_plain a ≡ true) (map attribute_of trees)
plain_attributes trees = All-map (λ a. is_plain a ≡ true) attribute_of trees (λ k d low. plain_kind (get_or trees k d).kind)

pub plain_discriminators : (trees : List (List ℕ × AttributeKind)) → All (λ a. is_plain a ≡ true) (map discriminator_of trees)
plain_discriminators trees = All-map (λ a. is_plain a ≡ true) discriminator_of trees (λ k d low. plain_kind (get_or trees k d).1)
