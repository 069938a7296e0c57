-- ActGrowth: ACCUM and POST-ACCUM that are typed over some types are typed over more of them.
use Rattle.std.proofs.Common.{◌≡◌, ℕ, Bool, true, false, List, Option, Some, Ok, Err, refl}
use Rattle.std.specs.Prelude.{not}
use Rattle.gq_tree.specs.Tree.{Tree}
use Rattle.gq_value.specs.Accums.{Accum}
use Rattle.gq_rules_typing.specs.Selecting.{Input, Change, Adds, Puts, Act, AtAlias, AtGlobal, Choose, Acts, no_act, act_and, Choices, otherwise, when}
use Rattle.gq_rules_typing.specs.Sorts.{Fields, VertexSort, EdgeSort, Sorts}
use Rattle.gq_rules_typing.specs.Words.{Words, Setting}
use Rattle.gq_rules_typing.specs.Judging.{TwoAliases, OrderDependent, Judged, ◌>>=◌, ◌>>◌, unless}
use Rattle.gq_rules_typing.specs.Kinds.{is_list}
use Rattle.gq_rules_typing.specs.ExpressionTypes.{condition, converting}
use Rattle.gq_rules_typing.specs.Scopes.{Entry, Place, InBlock, InPost, Scope, said, declared_kind, names_at}
use Rattle.gq_rules_typing.specs.ActTypes.{typing_input, vertex_alias, settable, typing_given, typing_written, typing_fed, typing_at, typing_global, place_of, one_more, typing_acts, typing_act, typing_choices, names_one, typing_post}
use Rattle.gq_rules_safety.proofs.Leads.{Leads, Keeps, kept, fails, kept_then, kept_on, leads_and}
use Rattle.gq_rules_safety.proofs.ScopeGrowth.{scoped}
use Rattle.gq_rules_safety.proofs.ExpressionGrowth.{SortsGrow, at₁, at₂, condition_kept, converting_kept, input_kept}

module _ {N : Type 0} (words : Words N) (a : Sorts) (vertices : List VertexSort) (edges : List EdgeSort) (h : SortsGrow words a vertices edges) (tuples : List (N × Fields)) (names : List (N × Entry)) (paths : Bool) where
  abbrev s : Scope N
  s = scoped (at₁ words a vertices edges h tuples) names paths

  abbrev t : Scope N
  t = scoped (at₂ words a vertices edges h tuples) names paths

  -- ---- a place of the scope

  pub condition_at : (place : Place N) (e : Tree N) → Keeps (condition (names_at s place) e) (condition (names_at t place) e)
  condition_at place e = condition_kept words a vertices edges h tuples (names_at s place) e

  pub input_at : (place : Place N) (k : Accum) (x : Input N) → Keeps (typing_input (names_at s place) (Some k) x) (typing_input (names_at t place) (Some k) x)
  input_at place k x = input_kept words a vertices edges h tuples (names_at s place) (Some k) x

  pub put_at : (place : Place N) (k : Accum) (e : Tree N) → Keeps (settable k >>= λ b. converting (names_at s place) b e) (settable k >>= λ b. converting (names_at t place) b e)
  put_at place k e = kept_then (settable k) (settable k) _ _ (kept (settable k)) (λ b. converting_kept words a vertices edges h tuples (names_at s place) b e)

  -- ---- changes

  given_kept : (x : N) (k : Accum) (c : Change N) → Keeps (typing_given s x k c) (typing_given t x k c)
  given_kept x k (Adds i) = leads_and (unless (OrderDependent (said s x)) (not (is_list k))) (unless (OrderDependent (said t x)) (not (is_list k))) _ _ (kept (unless (OrderDependent (said s x)) (not (is_list k)))) (input_at InBlock k i)
  given_kept x k (Puts e) = kept (typing_given s x k (Puts e))

  written_kept : (k : Accum) (c : Change N) → Keeps (typing_written s k c) (typing_written t k c)
  written_kept k (Adds i) = input_at InPost k i
  written_kept k (Puts e) = put_at InPost k e

  fed_kept : (k : Accum) (c : Change N) → Keeps (typing_fed s k c) (typing_fed t k c)
  fed_kept k (Adds i) = input_at InPost k i
  fed_kept k (Puts e) = kept (typing_fed s k (Puts e))

  at_kept : (post : Bool) (v x : N) (c : Change N) → Keeps (typing_at s post v x c) (typing_at t post v x c)
  at_kept true v x c = kept_then (vertex_alias s v >> declared_kind s true x) (vertex_alias t v >> declared_kind t true x) _ _ (kept (vertex_alias s v >> declared_kind s true x)) (λ k. written_kept k c)
  at_kept false v x c = kept_then (vertex_alias s v >> declared_kind s true x) (vertex_alias t v >> declared_kind t true x) _ _ (kept (vertex_alias s v >> declared_kind s true x)) (λ k. given_kept x k c)

  global_kept : (post : Bool) (x : N) (c : Change N) → Keeps (typing_global s post x c) (typing_global t post x c)
  global_kept true x c = kept_then (declared_kind s false x) (declared_kind t false x) _ _ (kept (declared_kind s false x)) (λ k. fed_kept k c)
  global_kept false x c = kept_then (declared_kind s false x) (declared_kind t false x) _ _ (kept (declared_kind s false x)) (λ k. given_kept x k c)

  -- ---- statements

  mutual
    pub acts_kept : (post : Bool) (n : ℕ) (acts : Acts N) → Keeps (typing_acts s post n acts) (typing_acts t post n acts)
    acts_kept post n no_act = kept (Ok n)
    acts_kept post n (act_and x acts) = kept_then (one_more n) (one_more n) _ _ (kept (one_more n)) (λ m. kept_then (typing_act s post m x) (typing_act t post m x) _ _ (act_kept post m x) (λ k. acts_kept post k acts))

    act_kept : (post : Bool) (n : ℕ) (act : Act N) → Keeps (typing_act s post n act) (typing_act t post n act)
    act_kept post n (AtAlias v x c) = leads_and (typing_at s post v x c) (typing_at t post v x c) (Ok n) (Ok n) (at_kept post v x c) (kept (Ok n))
    act_kept post n (AtGlobal x c) = leads_and (typing_global s post x c) (typing_global t post x c) (Ok n) (Ok n) (global_kept post x c) (kept (Ok n))
    act_kept post n (Choose choices) = choices_kept post n choices

    choices_kept : (post : Bool) (n : ℕ) (choices : Choices N) → Keeps (typing_choices s post n choices) (typing_choices t post n choices)
    choices_kept post n (otherwise acts) = acts_kept post n acts
    choices_kept post n (when e acts rest) =
        kept_then (condition (names_at s (place_of post)) e >> typing_acts s post n acts) (condition (names_at t (place_of post)) e >> typing_acts t post n acts) _ _
        (leads_and (condition (names_at s (place_of post)) e) (condition (names_at t (place_of post)) e) (typing_acts s post n acts) (typing_acts t post n acts) (condition_at (place_of post) e) (acts_kept post n acts))
        (λ m. choices_kept post m rest)

  pub post_kept : (source target : Option N) (n : ℕ) (acts : Acts N) → Keeps (typing_post s source target n acts) (typing_post t source target n acts)
  post_kept source target n no_act = kept (Ok n)
  post_kept source target n (act_and x acts) =
      kept_then (one_more n) (one_more n) _ _ (kept (one_more n)) (λ m. kept_then (typing_act s true m x) (typing_act t true m x) _ _ (act_kept true m x)
      (λ k. leads_and (unless TwoAliases (names_one s source target x)) (unless TwoAliases (names_one t source target x)) (typing_post s source target k acts) (typing_post t source target k acts) (kept (unless TwoAliases (names_one s source target x))) (post_kept source target k acts)))
