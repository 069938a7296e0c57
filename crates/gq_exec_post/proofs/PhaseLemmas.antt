-- PhaseLemmas: runs of statements for one end are the phases of the definitions.
use Rattle.std.proofs.Common.{if◌then◌else◌, ◌≡◌, ℕ, suc, ◌+◌, ◌<◌, ◌≤◌, Bool, true, false, List, [], ◌∷◌, take, drop, map, length, get_or, refl, sym, ap, ◌∙◌, arith}
use Rattle.std.proofs.lemmas.List.{drop_all}
use Rattle.gq_rules_typing.specs.Selecting.{Act, act_and}
use Rattle.gq_rules_typing.specs.SelectViews.{acts_of}
use Rattle.gq_rules_meaning.specs.Posts.{before_phases, phases, same_end}
use Rattle.gq_plan_ir.specs.declared.block.Act as code
use Rattle.gq_plan_ir.specs.BlockView.{view_act}
use Rattle.gq_plan_ir.specs.Reference.{Reference}
use Rattle.gq_exec_post.specs.Phases.{run_length}
use Rattle.gq_exec_post.proofs.Steps.{at_place}

-- ---- the first phase

one_end : (b c : Bool) → same_end b c ≡ true → c ≡ b
one_end true true h = refl
one_end true false h = absurd (cc h)
one_end false true h = absurd (cc h)
one_end false false h = refl

module _ (f : Act Reference → Bool) (b : Bool) (a y : Act Reference) (ys : List (Act Reference))
    (ih : before_phases (f y) y (phases f (acts_of ys)) ≡ (f y, act_and y (acts_of (take (run_length f (f y) ys) ys))) ∷ phases f (acts_of (drop (run_length f (f y) ys) ys))) where
  by_end : (s : Bool) → same_end b (f y) ≡ s → (if s then (b, act_and a (act_and y (acts_of (take (run_length f (f y) ys) ys)))) ∷ phases f (acts_of (drop (run_length f (f y) ys) ys)) else (b, act_and a (acts_of [])) ∷ (f y, act_and y (acts_of (take (run_length f (f y) ys) ys))) ∷ phases f (acts_of (drop (run_length f (f y) ys) ys)))
      ≡ (b, act_and a (acts_of (take (if s then suc (run_length f b ys) else 0) (y ∷ ys)))) ∷ phases f (acts_of (drop (if s then suc (run_length f b ys) else 0) (y ∷ ys)))
  by_end true e = ap (λ c. (b, act_and a (act_and y (acts_of (take (run_length f c ys) ys)))) ∷ phases f (acts_of (drop (run_length f c ys) ys))) (one_end b (f y) e)
  by_end false e = ap (λ ps. (b, act_and a (acts_of [])) ∷ ps) (sym ih)

  phases_step : before_phases b a (phases f (acts_of (y ∷ ys))) ≡ (b, act_and a (acts_of (take (run_length f b (y ∷ ys)) (y ∷ ys)))) ∷ phases f (acts_of (drop (run_length f b (y ∷ ys)) (y ∷ ys)))
  phases_step = ap (before_phases b a) ih ∙ by_end (same_end b (f y)) refl

pub phases_begin : (f : Act Reference → Bool) (b : Bool) (a : Act Reference) (xs : List (Act Reference))
    → before_phases b a (phases f (acts_of xs)) ≡ (b, act_and a (acts_of (take (run_length f b xs) xs))) ∷ phases f (acts_of (drop (run_length f b xs) xs))
phases_begin f b a [] = refl
phases_begin f b a (y ∷ ys) = phases_step f b a y ys (phases_begin f (f y) y ys)

-- ---- how many are for an end

-- none of the first i statements is for the other end
abbrev pub RunTo : (Act Reference → Bool) → Bool → List code.Act → ℕ → Type 0
RunTo f b acts i = run_length f b (map view_act acts) ≡ i + run_length f b (map view_act (drop i acts))

module _ (f : Act Reference → Bool) (b : Bool) (acts : List code.Act) (i : ℕ) (a : code.Act) (inv : RunTo f b acts i) (n : i < length acts) (is : a ≡ get_or acts i a) where
  run_here : run_length f b (map view_act acts) ≡ i + (if same_end b (f (view_act a)) then suc (run_length f b (map view_act (drop (i + 1) acts))) else 0)
  run_here = inv ∙ ap (λ bs. i + run_length f b (map view_act bs)) (at_place acts i a n is)

  -- s is whether the statement is for this end, by the end t that the code has found for it
  pub run_stops : (t s : Bool) → t ≡ f (view_act a) → s ≡ same_end b t → s ≡ false → i ≡ run_length f b (map view_act acts)
  run_stops t s at is_so e = let h = run_here ∙ ap (λ s. i + (if s then suc (run_length f b (map view_act (drop (i + 1) acts))) else 0)) (ap (same_end b) (sym at) ∙ sym is_so ∙ e) in omega (arith, h)

  pub run_next : (t s : Bool) → t ≡ f (view_act a) → s ≡ same_end b t → s ≡ true → RunTo f b acts (i + 1)
  run_next t s at is_so e = let h = run_here ∙ ap (λ s. i + (if s then suc (run_length f b (map view_act (drop (i + 1) acts))) else 0)) (ap (same_end b) (sym at) ∙ sym is_so ∙ e) in omega (arith, h)

pub run_end : (f : Act Reference → Bool) (b : Bool) (acts : List code.Act) (i : ℕ) → RunTo f b acts i → length acts ≤ i → i ≤ length acts → length acts ≡ run_length f b (map view_act acts)
run_end f b acts i inv l m = let h = inv ∙ ap (λ bs. i + run_length f b (map view_act bs)) (drop_all i acts l) in omega (arith, h, l, m)

pub ruleset run_laws = (run_stops, run_next, run_end)
