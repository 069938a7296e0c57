-- MentionLaws: typing is the same if names are barred that aren't mentioned.
use Rattle.std.proofs.Common.{◌≡◌, Bool, true, false, List, [], ◌∷◌, Option, Some, None, Ok, Err, refl, ap, ap₂, ◌∙◌}
use Rattle.std.specs.Prelude.{◌||◌, if◌then◌else◌}
use Rattle.gq_tree.specs.Tree.{Tree, Behind, Trees, Parts, Factors, Terms, Number, Text, Truth, Global, Name, Call, Post, Neg, Mul, Sum, Cmp, Not, And, Or, Field, Method, Attached, Before, no_tree, tree, no_part, part, no_factor, factor, no_term, term}
use Rattle.gq_value.specs.Accums.{Base, Accum}
use Rattle.gq_rules_typing.specs.Selecting.{Input, Plain, Keys, Inputs, no_input, input_and, Change, Adds, Puts}
use Rattle.gq_rules_typing.specs.Judging.{Typed, Judged, ◌>>=◌, ◌>>◌}
use Rattle.gq_rules_typing.specs.Types.{as_base, calculated}
use Rattle.gq_rules_typing.specs.ExpressionTypes.{Names, typing, typing_all, typing_parts, typing_part, typing_factors, typing_terms, typing_bools, before_dot, operated, both_bool, summed, base_type, condition, converting}
use Rattle.gq_rules_typing.specs.Scopes.{Place, Scope, unknown, names_at}
use Rattle.gq_rules_typing.specs.ActTypes.{typing_input, typing_inputs, kinds_of, settable}
use Rattle.gq_rules_typing.specs.Mentions.{in_tree, in_trees, in_parts, in_part, in_factors, in_terms, in_input, in_inputs, in_change}
use Rattle.gq_rules_meaning.specs.Expressions.{World}
use Rattle.gq_rules_safety.specs.Matching.{WordsFit}
use Rattle.gq_rules_safety.proofs.SightLaws.{barring}
use Rattle.gq_rules_safety.proofs.WriteLaws.{typed_change}

pub or_split : (p q : Bool) → (p || q) ≡ false → (p ≡ false) × (q ≡ false)
or_split true q h = absurd (cc h)
or_split false q h = (refl, h)

pub then_same : {A B : Type 0} (r t : Judged A) (f g : A → Judged B) → r ≡ t → ((a : A) → f a ≡ g a) → (r >>= f) ≡ (t >>= g)
then_same {A = A} {B = B} r t f g e h = ap (λ r. r >>= f) e ∙ under t
  where
    under : (t : Judged A) → (t >>= f) ≡ (t >>= g)
    under (Ok a) = h a
    under (Err e) = refl

and_same : {A B : Type 0} (r t : Judged A) (j k : Judged B) → r ≡ t → j ≡ k → (r >> j) ≡ (t >> k)
and_same r t j k e h = ap₂ (λ r j. r >> j) e h

module _ {N : Type 0} (world : World N) (words : WordsFit world) (bars : N → Bool) (s : Scope N) (place : Place N) where
  abbrev barred : Names N
  barred = barring world words bars s place

  abbrev names : Names N
  names = names_at s place

  named_same : (x : N) → bars x ≡ false → barred.named x ≡ names.named x
  named_same x h = ap (λ b. if b then Err (unknown s x) else names.named x) h

  before_same : (t : Tree N) → in_tree bars t ≡ false → typing barred t ≡ typing names t → before_dot barred t (typing barred t) ≡ before_dot names t (typing names t)
  before_same (Name x) h e = named_same x h
  before_same t h e = e

  mutual
    pub tree_same : (t : Tree N) → in_tree bars t ≡ false → typing barred t ≡ typing names t
    tree_same (Number n) h = refl
    tree_same (Text b) h = refl
    tree_same (Truth b) h = refl
    tree_same (Global a) h = refl
    tree_same (Name x) h = then_same (barred.named x) (names.named x) _ _ (named_same x h) (λ y. refl)
    tree_same (Call f ts) h = then_same (typing_all barred ts) (typing_all names ts) _ _ (trees_same ts h) (λ xs. refl)
    tree_same (Post t ps) h = let w = or_split (in_tree bars t) _ h in then_same (before_dot barred t (typing barred t)) (before_dot names t (typing names t)) _ _ (before_same t w.0 (tree_same t w.0)) (λ x. parts_same ps x w.1)
    tree_same (Neg n t) h = then_same (typing barred t >>= as_base) (typing names t >>= as_base) _ _ (then_same (typing barred t) (typing names t) as_base as_base (tree_same t h) (λ x. refl)) (λ b. refl)
    tree_same (Mul t fs) h = let w = or_split (in_tree bars t) _ h in then_same (typing barred t) (typing names t) _ _ (tree_same t w.0) (λ x. factors_same fs x w.1)
    tree_same (Sum t ts) h = let w = or_split (in_tree bars t) _ h in then_same (typing barred t) (typing names t) _ _ (tree_same t w.0) (λ x. terms_same ts x w.1)
    tree_same (Cmp a c b) h = let w = or_split (in_tree bars a) _ h in then_same (typing barred a) (typing names a) _ _ (tree_same a w.0) (λ x. then_same (typing barred b) (typing names b) _ _ (tree_same b w.1) (λ y. refl))
    tree_same (Not n t) h = then_same (typing barred t >>= as_base) (typing names t >>= as_base) _ _ (then_same (typing barred t) (typing names t) as_base as_base (tree_same t h) (λ x. refl)) (λ b. refl)
    tree_same (And t ts) h = let w = or_split (in_tree bars t) _ h in then_same (typing barred t) (typing names t) _ _ (tree_same t w.0) (λ x. bools_same ts x w.1)
    tree_same (Or t ts) h = let w = or_split (in_tree bars t) _ h in then_same (typing barred t) (typing names t) _ _ (tree_same t w.0) (λ x. bools_same ts x w.1)

    trees_same : (ts : Trees N) → in_trees bars ts ≡ false → typing_all barred ts ≡ typing_all names ts
    trees_same no_tree h = refl
    trees_same (tree t ts) h = let w = or_split (in_tree bars t) _ h in then_same (typing barred t) (typing names t) _ _ (tree_same t w.0) (λ x. then_same (typing_all barred ts) (typing_all names ts) _ _ (trees_same ts w.1) (λ xs. refl))

    parts_same : (ps : Parts N) (x : Typed) → in_parts bars ps ≡ false → typing_parts barred x ps ≡ typing_parts names x ps
    parts_same no_part x h = refl
    parts_same (part p ps) x h = let w = or_split (in_part bars p) _ h in then_same (typing_part barred x p) (typing_part names x p) _ _ (part_same p x w.0) (λ y. parts_same ps y w.1)

    part_same : (p : Behind N) (x : Typed) → in_part bars p ≡ false → typing_part barred x p ≡ typing_part names x p
    part_same (Field f) x h = refl
    part_same (Method m ts) x h = then_same (typing_all barred ts) (typing_all names ts) _ _ (trees_same ts h) (λ ys. refl)
    part_same (Attached a) x h = refl
    part_same (Before a) x h = refl

    factors_same : (fs : Factors N) (x : Typed) → in_factors bars fs ≡ false → typing_factors barred x fs ≡ typing_factors names x fs
    factors_same no_factor x h = refl
    factors_same (factor c t rest) x h =
        let w = or_split (in_tree bars t) _ h in
        then_same (typing barred t >>= operated calculated x) (typing names t >>= operated calculated x) _ _ (then_same (typing barred t) (typing names t) _ _ (tree_same t w.0) (λ y. refl)) (λ y. factors_same rest y w.1)

    terms_same : (ts : Terms N) (x : Typed) → in_terms bars ts ≡ false → typing_terms barred x ts ≡ typing_terms names x ts
    terms_same no_term x h = refl
    terms_same (term c t rest) x h =
        let w = or_split (in_tree bars t) _ h in
        then_same (typing barred t >>= operated (summed c) x) (typing names t >>= operated (summed c) x) _ _ (then_same (typing barred t) (typing names t) _ _ (tree_same t w.0) (λ y. refl)) (λ y. terms_same rest y w.1)

    bools_same : (ts : Trees N) (x : Typed) → in_trees bars ts ≡ false → typing_bools barred x ts ≡ typing_bools names x ts
    bools_same no_tree x h = refl
    bools_same (tree t ts) x h =
        let w = or_split (in_tree bars t) _ h in
        then_same (typing barred t >>= operated both_bool x) (typing names t >>= operated both_bool x) _ _ (then_same (typing barred t) (typing names t) _ _ (tree_same t w.0) (λ y. refl)) (λ y. bools_same ts y w.1)

  base_same : (t : Tree N) → in_tree bars t ≡ false → base_type barred t ≡ base_type names t
  base_same t h = then_same (typing barred t) (typing names t) as_base as_base (tree_same t h) (λ x. refl)

  pub condition_same : (t : Tree N) → in_tree bars t ≡ false → condition barred t ≡ condition names t
  condition_same t h = then_same (base_type barred t) (base_type names t) _ _ (base_same t h) (λ b. refl)

  converting_same : (b : Base) (t : Tree N) → in_tree bars t ≡ false → converting barred b t ≡ converting names b t
  converting_same b t h = then_same (base_type barred t) (base_type names t) _ _ (base_same t h) (λ b. refl)

  mutual
    input_same : (k : Option Accum) (x : Input N) → in_input bars x ≡ false → typing_input barred k x ≡ typing_input names k x
    input_same k (Plain t) h = then_same (base_type barred t) (base_type names t) _ _ (base_same t h) (λ b. refl)
    input_same k (Keys ts xs) h =
        let w = or_split (in_trees bars ts) _ h in
        then_same (typing_all barred ts) (typing_all names ts) _ _ (trees_same ts w.0)
        (λ types. then_same (typing_inputs barred (kinds_of k) xs >> _) (typing_inputs names (kinds_of k) xs >> _) _ _ (and_same (typing_inputs barred (kinds_of k) xs) (typing_inputs names (kinds_of k) xs) _ _ (inputs_same (kinds_of k) xs w.1) refl) (λ bs. refl))

    inputs_same : (ks : List Accum) (xs : Inputs N) → in_inputs bars xs ≡ false → typing_inputs barred ks xs ≡ typing_inputs names ks xs
    inputs_same ks no_input h = refl
    inputs_same [] (input_and x xs) h = let w = or_split (in_input bars x) _ h in and_same (typing_input barred None x) (typing_input names None x) _ _ (input_same None x w.0) (inputs_same [] xs w.1)
    inputs_same (k ∷ ks) (input_and x xs) h = let w = or_split (in_input bars x) _ h in and_same (typing_input barred (Some k) x) (typing_input names (Some k) x) _ _ (input_same (Some k) x w.0) (inputs_same ks xs w.1)

  pub change_same : (k : Accum) (c : Change N) → in_change bars c ≡ false → typed_change barred k c ≡ typed_change names k c
  change_same k (Adds x) h = input_same (Some k) x h
  change_same k (Puts t) h = then_same (settable k) (settable k) _ _ refl (λ b. converting_same b t h)
