-- EachLemmas: the results of applying a function to the items of a list, in order.
use Rattle.std.proofs.Common.{◌≡◌, ℕ, ◌+◌, ◌≤◌, List, [], ◌∷◌, ◌++◌, drop, map, length, Some, refl, sym, ap, ◌∙◌}
use Rattle.std.specs.List.{slice_get}
use Rattle.std.proofs.lemmas.List.{append_assoc, append-nil, drop_all}
use Rattle.gq_rules_meaning.specs.Answers.{Answer, Gives, Faults, Stuck, ◌>>=◌, each}
use Rattle.gq_output.proofs.NamedLemmas.{drop_at}

-- the earlier results, followed by these
abbrev pub and_more : {F B : Type 0} → List B → Answer F (List B) → Answer F (List B)
and_more done o = o >>= λ more. Gives (done ++ more)

none_before : {F B : Type 0} (o : Answer F (List B)) → o ≡ and_more [] o
none_before (Gives a) = refl
none_before (Faults w) = refl
none_before Stuck = refl

one_before : {F B : Type 0} (o : Answer F (List B)) (done : List B) (b : B) → and_more done (o >>= λ bs. Gives (b ∷ bs)) ≡ and_more (done ++ b ∷ []) o
one_before (Gives bs) done b = ap Gives (sym (append_assoc done (b ∷ []) bs))
one_before (Faults w) done b = refl
one_before Stuck done b = refl

module _ {F A B : Type 0} (f : A → Answer F B) where
  abbrev pub EachFrom : List A → ℕ → List B → Type 0
  EachFrom xs i done = each f xs ≡ and_more done (each f (drop i xs))

  pub each_first : (xs : List A) → EachFrom xs 0 []
  each_first xs = none_before (each f xs)

  each_here : (xs : List A) (i : ℕ) (x : A) (done : List B) → EachFrom xs i done → slice_get xs i ≡ Some x → each f xs ≡ and_more done (each f (x ∷ drop (i + 1) xs))
  each_here xs i x done h e = h ∙ ap (λ ys. and_more done (each f ys)) (drop_at xs i x e)

  pub each_next : (xs : List A) (i : ℕ) (x : A) (done new : List B) (b : B) → EachFrom xs i done → slice_get xs i ≡ Some x → f x ≡ Gives b → new ≡ done ++ b ∷ [] → EachFrom xs (i + 1) new
  each_next xs i x done new b h e g is =
      each_here xs i x done h e
      ∙ ap (λ o. and_more done (o >>= λ b. each f (drop (i + 1) xs) >>= λ bs. Gives (b ∷ bs))) g
      ∙ one_before (each f (drop (i + 1) xs)) done b
      ∙ ap (λ bs. and_more bs (each f (drop (i + 1) xs))) (sym is)

  -- the results from a place on begin with that of the item at the place
  pub each_begins : (xs : List A) (i : ℕ) (x : A) (done : List B) → EachFrom xs i done → slice_get xs i ≡ Some x
      → each f xs ≡ (f x >>= λ b. and_more done (each f (drop (i + 1) xs) >>= λ bs. Gives (b ∷ bs)))
  each_begins xs i x done h e = each_here xs i x done h e ∙ joined (f x)
    where
      joined : (p : Answer F B) → and_more done (p >>= λ b. each f (drop (i + 1) xs) >>= λ bs. Gives (b ∷ bs)) ≡ (p >>= λ b. and_more done (each f (drop (i + 1) xs) >>= λ bs. Gives (b ∷ bs)))
      joined (Gives b) = refl
      joined (Faults w) = refl
      joined Stuck = refl

  pub each_all : (xs : List A) (i : ℕ) (done : List B) → EachFrom xs i done → length xs ≤ i → each f xs ≡ Gives done
  each_all xs i done h l = h ∙ ap (λ ys. and_more done (each f ys)) (drop_all i xs l) ∙ ap Gives (append-nil done)

-- with a function applied to each result
pub each_made : {F A B C : Type 0} (g : B → C) (f : A → Answer F B) (xs : List A) → each (λ x. f x >>= λ b. Gives (g b)) xs ≡ (each f xs >>= λ bs. Gives (map g bs))
each_made g f [] = refl
each_made {F} {A} {B} {C} g f (x ∷ xs) = ap (λ o. f x >>= (λ b. Gives (g b)) >>= λ c. o >>= λ cs. Gives (c ∷ cs)) (each_made g f xs) ∙ by (f x) (each f xs)
  where
    by : (p : Answer F B) (q : Answer F (List B)) → (p >>= (λ b. Gives (g b)) >>= λ c. q >>= (λ bs. Gives (map g bs)) >>= λ cs. Gives (c ∷ cs)) ≡ (p >>= (λ b. q >>= λ bs. Gives (b ∷ bs)) >>= λ bs. Gives (map g bs))
    by (Gives b) (Gives bs) = refl
    by (Gives b) (Faults w) = refl
    by (Gives b) Stuck = refl
    by (Faults w) q = refl
    by Stuck q = refl
