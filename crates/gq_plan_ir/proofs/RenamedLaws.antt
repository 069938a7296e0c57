-- RenamedLaws: an expression means under new names what it meant under the old ones, if the same is seen.
use Rattle.std.proofs.Common.{◌≡◌, Bool, true, false, List, [], ◌∷◌, Option, refl, ap, ◌∙◌}
use Rattle.gq_rules_meaning.specs.Tree.{Tree, Behind, Trees, Parts, Factors, Terms, Number, Text, Truth, Global, Name, Call, Post, Neg, Mul, Sum, Cmp, Not, And, Or, Field, Method, Attached, Before, no_tree, tree, no_part, part, no_factor, factor, no_term, term}
use Rattle.gq_value.specs.Accums.{Base}
use Rattle.gq_rules_meaning.specs.Answers.{Answer, Gives, Faults, Stuck, ◌>>=◌, found}
use Rattle.gq_rules_meaning.specs.Meanings.{Meant, Outcome, value_of_meant, vertex_of_meant, as_truth, truly}
use Rattle.gq_rules_meaning.specs.Calls.{method_wants, method_of, function_wants, function_of}
use Rattle.gq_rules_meaning.specs.Expressions.{Look, meaning, arguments, meaning_parts, meaning_part, meaning_factors, meaning_terms, meaning_all, meaning_any, product, summed, compared, minus, nots, wanted}
use Rattle.gq_plan_ir.specs.Renamed.{Renaming, renamed, renamed_part, renamed_trees, renamed_parts, renamed_factors, renamed_terms, SeesAlike, RenamedLaw}

-- two continuations that agree on the given values
pub then_same : {F A B : Type 0} (o p : Answer F A) (f g : A → Answer F B) → o ≡ p → ((a : A) → f a ≡ g a) → (o >>= f) ≡ (p >>= g)
then_same {F = F} {A = A} o p f g e h = ap (λ o. o >>= f) e ∙ agree p
  where
    agree : (p : Answer F A) → (p >>= f) ≡ (p >>= g)
    agree (Gives a) = h a
    agree (Faults w) = refl
    agree Stuck = refl

-- as a value
value_same : (o p : Outcome) → o ≡ p → (o >>= value_of_meant) ≡ (p >>= value_of_meant)
value_same o p e = ap (λ o. o >>= value_of_meant) e

-- as a truth
truth_same : (m : Meant) (f g : Bool → Outcome) → ((b : Bool) → f b ≡ g b) → (value_of_meant m >>= as_truth >>= f) ≡ (value_of_meant m >>= as_truth >>= g)
truth_same m f g h = then_same (value_of_meant m >>= as_truth) _ f g refl h

module _ {M N : Type 0} (r : Renaming M N) (old : Look M) (new : Look N) (s : SeesAlike r old new) where
  mutual
    pub meaning-renamed : (t : Tree M) → meaning new (renamed r t) ≡ meaning old t
    meaning-renamed (Number n) = refl
    meaning-renamed (Text t) = refl
    meaning-renamed (Truth b) = refl
    meaning-renamed (Global a) = s.global a
    meaning-renamed (Name x) = s.named x
    meaning-renamed (Call f ts) = then_same _ _ _ _ (ap found (s.function f)) (λ g. then_same _ _ _ _ (arguments-renamed ts (function_wants g)) (λ vs. ap (λ c. function_of c g vs) s.calendar))
    meaning-renamed (Post t ps) = then_same _ _ _ _ (meaning-renamed t) (λ m. parts-renamed m ps)
    meaning-renamed (Neg n t) = ap (λ o. o >>= value_of_meant >>= minus n) (meaning-renamed t)
    meaning-renamed (Mul t fs) = then_same _ _ _ _ (meaning-renamed t) (λ m. factors-renamed m fs)
    meaning-renamed (Sum t ts) = then_same _ _ _ _ (meaning-renamed t) (λ m. terms-renamed m ts)
    meaning-renamed (Cmp t sign u) = then_same _ _ _ _ (value_same _ _ (meaning-renamed t)) (λ v. ap (λ o. o >>= value_of_meant >>= compared sign v) (meaning-renamed u))
    meaning-renamed (Not n t) = ap (λ o. o >>= value_of_meant >>= as_truth >>= λ b. truly (nots n b)) (meaning-renamed t)
    meaning-renamed (And t ts) = then_same _ _ _ _ (meaning-renamed t) (λ m. all-renamed m ts)
    meaning-renamed (Or t ts) = then_same _ _ _ _ (meaning-renamed t) (λ m. any-renamed m ts)

    pub arguments-renamed : (ts : Trees M) (wants : List (Option Base)) → arguments new wants (renamed_trees r ts) ≡ arguments old wants ts
    arguments-renamed no_tree wants = refl
    arguments-renamed (tree t ts) [] = refl
    arguments-renamed (tree t ts) (want ∷ wants) = then_same _ _ _ _ (ap (λ o. o >>= value_of_meant >>= wanted want) (meaning-renamed t)) (λ v. ap (λ o. o >>= λ vs. Gives (v ∷ vs)) (arguments-renamed ts wants))

    pub parts-renamed : (m : Meant) (ps : Parts M) → meaning_parts new m (renamed_parts r ps) ≡ meaning_parts old m ps
    parts-renamed m no_part = refl
    parts-renamed m (part p ps) = then_same _ _ _ _ (part-renamed m p) (λ n. parts-renamed n ps)

    pub part-renamed : (m : Meant) (p : Behind M) → meaning_part new m (renamed_part r p) ≡ meaning_part old m p
    part-renamed m (Field f) = s.field m f
    part-renamed m (Method x ts) = then_same _ _ _ _ (ap found (s.method x)) (λ f. then_same _ _ _ _ (arguments-renamed ts (method_wants f m)) (λ vs. ap (λ g. method_of g f m vs) s.graph))
    part-renamed m (Attached a) = then_same (vertex_of_meant m) _ _ _ refl (λ v. s.attached a v)
    part-renamed m (Before a) = then_same (vertex_of_meant m) _ _ _ refl (λ v. s.before a v)

    pub factors-renamed : (m : Meant) (fs : Factors M) → meaning_factors new m (renamed_factors r fs) ≡ meaning_factors old m fs
    factors-renamed m no_factor = refl
    factors-renamed m (factor sign t fs) = then_same (value_of_meant m) _ _ _ refl (λ v. then_same _ _ _ _ (ap (λ o. o >>= value_of_meant >>= product sign v) (meaning-renamed t)) (λ n. factors-renamed n fs))

    pub terms-renamed : (m : Meant) (ts : Terms M) → meaning_terms new m (renamed_terms r ts) ≡ meaning_terms old m ts
    terms-renamed m no_term = refl
    terms-renamed m (term sign t ts) = then_same (value_of_meant m) _ _ _ refl (λ v. then_same _ _ _ _ (ap (λ o. o >>= value_of_meant >>= summed sign v) (meaning-renamed t)) (λ n. terms-renamed n ts))

    pub all-renamed : (m : Meant) (ts : Trees M) → meaning_all new m (renamed_trees r ts) ≡ meaning_all old m ts
    all-renamed m no_tree = refl
    all-renamed m (tree t ts) = truth_same m _ _ (elim [ true ↦ then_same _ _ _ _ (meaning-renamed t) (λ n. all-renamed n ts) | false ↦ refl ])

    pub any-renamed : (m : Meant) (ts : Trees M) → meaning_any new m (renamed_trees r ts) ≡ meaning_any old m ts
    any-renamed m no_tree = refl
    any-renamed m (tree t ts) = truth_same m _ _ (elim [ true ↦ refl | false ↦ then_same _ _ _ _ (meaning-renamed t) (λ n. any-renamed n ts) ])

pub renamed_law : {M N : Type 0} → RenamedLaw M N
renamed_law r old new s t = meaning-renamed r old new s t
