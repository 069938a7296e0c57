-- PlaceLemmas: jobs by the places of their names.
use Rattle.std.proofs.Common.{ℕ, zero, suc, ◌+◌, ◌<◌, ◌≡◌, Bool, true, false, cond, ◌||◌, List, [], ◌∷◌, ◌++◌, length, Option, Some, None, refl, ap, sym, subst, ◌∙◌, ◌↔◌, IsTrue, arith}
use Rattle.std.specs.Prelude.{String, Result, Ok, Err, OnOk, OnErr, is_some, slice_get, find, position, bytes_eq}
use Rattle.std.specs.List.{list_any, position_from, position_or_len}
use Rattle.std.specs.Map.{update}
use Rattle.std.specs.BTreeMap.{BTreeMap, get_by_text}
use Rattle.std.proofs.lemmas.Iterator.Adapters.{position_from-zero}
use Rattle.std.proofs.lemmas.List.Folds.{find_at}
use Rattle.std.proofs.lemmas.List.{get_or_append_left, length_push}
use Rattle.std.proofs.lemmas.Grind.{common_steps}
use Rattle.std.proofs.lemmas.Slice.Eq.{bytes_eq-Decides}
use Rattle.gq_graph.specs.Catalog.{name_place}
use Rattle.gq_schema.specs.Kept.{name_at, HavePlaces}
use Rattle.gq_schema.proofs.NameLemmas.{places_added}
use Rattle.gq_ddl.specs.declared.named.NamedJob.{NamedJob}
use Rattle.gq_ddl.specs.Jobs.{is_named, has_job}
use Rattle.gq_ddl.specs.Placed.{names_of, ArePlaced}

some_inj : {A : Type 0} {a b : A} → ◌≡◌ {A = Option A} (Some a) (Some b) → a ≡ b
some_inj h = cc

-- ---- the first job with a name, among jobs and among names

same_truth : (a b : Bool) → (a ≡ true → b ≡ true) → (b ≡ true → a ≡ true) → a ≡ b
same_truth true b f g = sym (f refl)
same_truth false true f g = g refl
same_truth false false f g = refl

turned : (a b : List ℕ) → bytes_eq a b ≡ bytes_eq b a
turned a b =
    same_truth (bytes_eq a b) (bytes_eq b a) (λ h. (bytes_eq-Decides b a).1 (sym ((bytes_eq-Decides a b).0 h)))
    (λ h. (bytes_eq-Decides a b).1 (sym ((bytes_eq-Decides b a).0 h)))

place_from : (name : List ℕ) (i : ℕ) (jobs : List NamedJob) → position_from (is_named name) i jobs ≡ position_from (bytes_eq name) i (names_of jobs)
place_from name i [] = refl
place_from name i (job ∷ jobs) =
    ap (λ b. cond b (Some i) (position_from (is_named name) (i + 1) jobs)) (turned job.name name)
    ∙ ap (λ (r : Option ℕ). cond (bytes_eq name job.name) (Some i) r) (place_from name (i + 1) jobs)

pub place_is : (name : List ℕ) (jobs : List NamedJob) → position (is_named name) jobs ≡ name_place (names_of jobs) name
place_is name jobs = position_from-zero (is_named name) jobs ∙ place_from name 0 jobs ∙ sym (position_from-zero (bytes_eq name) (names_of jobs))

-- ---- what is at the first place that passes a test

module _ (p : NamedJob → Bool) where
  pub found_at : (jobs : List NamedJob) (n : ℕ) → position p jobs ≡ Some n → slice_get jobs n ≡ find p jobs
  found_at jobs n e = let at : position_or_len p jobs ≡ n = grind (arith, common_steps) in ap (slice_get jobs) (sym at) ∙ sym (find_at p jobs)

  none_from : (i : ℕ) (jobs : List NamedJob) → position_from p i jobs ≡ None → None ≡ find p jobs
  none_from i [] e = refl
  none_from i (job ∷ jobs) e = go (p job) (position_from p (i + 1) jobs) (find p jobs) e (none_from (i + 1) jobs)
    where
      go : (b : Bool) (r : Option ℕ) (f : Option NamedJob) → cond b (Some i) r ≡ None → (r ≡ None → None ≡ f) → None ≡ cond b (Some job) f
      go true r f e h = absurd (cc)
      go false r f e h = h e

  pub found_nowhere : (jobs : List NamedJob) → position p jobs ≡ None → None ≡ find p jobs
  found_nowhere jobs e = none_from 0 jobs (sym (position_from-zero p jobs) ∙ e)

  any_from : (i : ℕ) (jobs : List NamedJob) → is_some (position_from p i jobs) ≡ list_any p jobs
  any_from i [] = refl
  any_from i (job ∷ jobs) = go (p job) (position_from p (i + 1) jobs) (list_any p jobs) (any_from (i + 1) jobs)
    where
      go : (b : Bool) (r : Option ℕ) (t : Bool) → is_some r ≡ t → is_some (cond b (Some i) r) ≡ (b || t)
      go true r t h = refl
      go false r t h = h

  pub any_is : (jobs : List NamedJob) → is_some (position p jobs) ≡ list_any p jobs
  any_is jobs = ap is_some (position_from-zero p jobs) ∙ any_from 0 jobs

is_none : (o : Option ℕ) → is_some o ≡ false → o ≡ None
is_none None h = refl
is_none (Some n) h = absurd (cc)

-- a new name has no place
pub no_place : (name : List ℕ) (jobs : List NamedJob) → has_job jobs name ≡ false → position (is_named name) jobs ≡ None
no_place name jobs new = is_none (position (is_named name) jobs) (any_is (is_named name) jobs ∙ new)

-- ---- the name at an index

pub stands_there : (jobs : List NamedJob) (n : ℕ) (job : NamedJob) (name : List ℕ) (t : Bool) → slice_get jobs n ≡ Some job → t ≡ bytes_eq job.name name
    → IsTrue t ↔ ((n < length (names_of jobs)) × (name_at (names_of jobs) n ≡ name))
stands_there [] n job name t is same = absurd (cc)
stands_there (x ∷ xs) zero job name t is same =
    let x_is : x ≡ job = some_inj is in
    let name_is : x.name ≡ job.name = ap (λ (j : NamedJob). j.name) x_is in
    (λ h. (omega arith, name_is ∙ (bytes_eq-Decides job.name name).0 (sym same ∙ h)), λ h. same ∙ (bytes_eq-Decides job.name name).1 (sym name_is ∙ h.1))
stands_there (x ∷ xs) (suc n) job name t is same =
    let rest = stands_there xs n job name t is same in
    (λ h. (omega (arith, (rest.0 h).0), (rest.0 h).1), λ h. rest.1 (omega (arith, h.0), h.1))

pub stands_nowhere : (jobs : List NamedJob) (n : ℕ) (name : List ℕ) → slice_get jobs n ≡ None → IsTrue false ↔ ((n < length (names_of jobs)) × (name_at (names_of jobs) n ≡ name))
stands_nowhere [] n name is = (λ h. absurd (cc), λ h. absurd (omega (arith, h.0)))
stands_nowhere (x ∷ xs) zero name is = absurd (cc)
stands_nowhere (x ∷ xs) (suc n) name is = let rest = stands_nowhere xs n name is in (λ h. absurd (cc), λ h. rest.1 (omega (arith, h.0), h.1))

-- ---- one more job, whose name was added to the tree

names_push : (jobs : List NamedJob) (job : NamedJob) → names_of (jobs ++ job ∷ []) ≡ names_of jobs ++ job.name ∷ []
names_push [] job = refl
names_push (x ∷ xs) job = ap (λ (ns : List (List ℕ)). x.name ∷ ns) (names_push xs job)

length_names : (jobs : List NamedJob) → length (names_of jobs) ≡ length jobs
length_names [] = refl
length_names (x ∷ xs) = ap suc (length_names xs)

module _ {Y : Type 0} (jobs : List NamedJob) (places : BTreeMap (String Y) ℕ) (kept : ArePlaced jobs places) (more : BTreeMap (String Y) ℕ) (job : NamedJob) (key : List ℕ) (n : ℕ)
    (new : has_job jobs job.name ≡ false) (key_is : key ≡ job.name) (n_is : n ≡ length jobs)
    (put : (other : List ℕ) → get_by_text more other ≡ update bytes_eq (get_by_text places) key (Some n) other) where
  added : HavePlaces (names_of jobs ++ job.name ∷ []) more
  added = places_added (names_of jobs) places more job.name key n (sym (place_is job.name jobs) ∙ no_place job.name jobs new) key_is (n_is ∙ sym (length_names jobs)) put kept

  appended : ArePlaced (jobs ++ job ∷ []) more
  appended = subst (λ (ns : List (List ℕ)). HavePlaces ns more) (sym (names_push jobs job)) added

  -- the tree has the name, but the list not the job
  not_appended : ArePlaced jobs more
  not_appended = λ i low. ap (get_by_text more) (sym (get_or_append_left (names_of jobs) (job.name ∷ []) [] i low))
      ∙ added i (let longer : i < length (names_of jobs ++ job.name ∷ []) = omega (arith, length_push (names_of jobs) job.name) in longer)

  pub placed_either : {A E : Type 0} (now : List NamedJob) (result : Result A E) → OnOk result (now ≡ jobs ++ job ∷ []) → OnErr result (now ≡ jobs) → ArePlaced now more
  placed_either now (Ok done) is same = subst (λ (l : List NamedJob). ArePlaced l more) (sym is) appended
  placed_either now (Err fault) is same = subst (λ (l : List NamedJob). ArePlaced l more) (sym same) not_appended

pub ruleset place_laws = (found_at, found_nowhere, any_is, stands_there, stands_nowhere)
