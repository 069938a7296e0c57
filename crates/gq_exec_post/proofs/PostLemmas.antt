-- PostLemmas: all phases together, for each state that the frame shows.
use Rattle.std.proofs.Common.{if◌then◌else◌, ◌≡◌, ℕ, Bool, true, false, List, ◌++◌, Option, Some, None, Result, refl, sym, ap, ap₂, subst, ◌∙◌}
use Rattle.std.specs.Option.{option_map}
use mathlib.Core.Path.{fun_ext}
use Rattle.gq_rules_typing.specs.Mentions.{in_act}
use Rattle.gq_rules_typing.specs.Patterns.{is_alias, target_alias}
use Rattle.gq_rules_typing.specs.Selecting.{Act}
use Rattle.gq_rules_meaning.specs.Calendars.{Calendar}
use Rattle.gq_rules_meaning.specs.Posts.{Post, for_target, post_of, posted}
use Rattle.gq_rules_meaning.specs.Sources.{from, named_as, with_vertex}
use Rattle.gq_rules_meaning.specs.States.{Thing, State, a_vertex, sight}
use Rattle.gq_plan_ir.specs.declared.block.Act as code_act
use Rattle.gq_plan_ir.specs.declared.block.Block.{Block}
use Rattle.gq_plan_ir.specs.BlockView.{view_acts, view_block}
use Rattle.gq_plan_ir.specs.PlanView.{accum_names}
use Rattle.gq_plan_ir.specs.Reference.{Reference, Place}
use Rattle.gq_plan_ir.specs.References.{same}
use Rattle.gq_eval_attributes.specs.Tuples.{tuples_are}
use Rattle.gq_frame.specs.Names.{aliases_named}
use Rattle.gq_frame.specs.Shows.{Shows}
use Rattle.gq_frame.specs.Slots.{slots_are}
use Rattle.gq_eval_context.specs.Viewed.{Over}
use Rattle.gq_eval_context.specs.Looks.{world_over}
use Rattle.gq_eval_context.specs.LookLaws.{look_over}
use Rattle.gq_eval_context.specs.declared.after.After.{After}
use Rattle.gq_eval_context.specs.declared.after.BlockFault as code
use Rattle.gq_eval_context.specs.Answered.{Answered, after_is}
use Rattle.gq_exec_source.specs.declared.ends.End.{End}
use Rattle.gq_exec_source.specs.declared.ends.Ends.{Ends}
use Rattle.gq_exec_source.specs.Ends.{AreEnds, HasEnds, end_at, end_things}
use Rattle.gq_exec_post.specs.Phases.{RunsPhases, phases_of, to_target}
use Rattle.gq_exec_post.specs.Sights.{SeesSo, one_alias}

named_alias : (e : End) (v : ℕ) (names : List (Reference × Thing)) (a : Option ℕ) → e.alias ≡ a
    → aliases_named (one_alias (end_things e v)) ++ names ≡ named_as (option_map Place a) (Some (a_vertex e.types v)) names
named_alias e v names None h = ap (λ (o : Option ℕ). aliases_named (one_alias (end_things (record e { alias = o }) v)) ++ names) h
named_alias e v names (Some p) h = ap (λ (o : Option ℕ). aliases_named (one_alias (end_things (record e { alias = o }) v)) ++ names) h

module _ (clock : Calendar) (o : Over) (block : Block) (e : Ends) (s : State Reference) (shows : Shows o.frame s) (has : HasEnds o.schema o.plan o.frame.things block e) where
  are : AreEnds e (from (world_over clock o) s.names (view_block block))
  are = has.each (accum_names o.plan) (tuples_are o.tuples) o.vertices o.edges.rows clock s.names shows.names

  -- ---- the context of a vertex

  under_alias : (b : Bool) (v : ℕ) → aliases_named (one_alias (end_things (end_at e b) v)) ++ s.names ≡ with_vertex (from (world_over clock o) s.names (view_block block)) b v s.names
  under_alias true v = named_alias e.target v s.names e.target.alias refl ∙ ap₂ (λ x types. named_as x (Some (a_vertex types v)) s.names) are.target are.target_types
  under_alias false v = named_alias e.source v s.names e.source.alias refl ∙ ap₂ (λ x types. named_as x (Some (a_vertex types v)) s.names) are.source are.source_types

  abbrev at_vertex : Bool → ℕ → Post Reference
  at_vertex b v = post_of (world_over clock o) s (from (world_over clock o) s.names (view_block block)) b v

  vertex_sees : (b : Bool) (v : ℕ) → SeesSo clock o (one_alias (end_things (end_at e b) v)) v (at_vertex b v)
  vertex_sees b v = record {
    vertex = refl;
    words = refl;
    looks = λ now. look_over clock o s (one_alias (end_things (end_at e b) v)) now o.frame.accums shows
        ∙ ap₂ (λ names before. sight (world_over clock o) names (slots_are now) before) (under_alias b v) (sym shows.slots);
  }

  -- ---- which end

  abbrev by_aliases : Bool → Option Reference → Option Reference → Act Reference → Bool
  by_aliases selects source target a = if in_act (is_alias same target) a then true else (if in_act (is_alias same source) a then false else selects)

  ends_agree : (selects : Bool) → selects ≡ is_alias same (target_alias (view_block block).walk) (view_block block).selected
      → to_target e selects ≡ for_target (world_over clock o) (view_block block) (from (world_over clock o) s.names (view_block block))
  ends_agree selects is = fun_ext (λ a. ap₂ (λ source target. by_aliases selects source target a) are.source are.target ∙ ap (λ b. by_aliases b (from (world_over clock o) s.names (view_block block)).source (from (world_over clock o) s.names (view_block block)).target a) is)

  pub post_is : (selects : Bool) (after : After) (r : Result After code.BlockFault) → selects ≡ is_alias same (target_alias (view_block block).walk) (view_block block).selected
      → RunsPhases clock o e selects (view_block block).post after r → Answered after_is (posted (world_over clock o) s (view_block block) (after_is after)) r
  post_is selects after r is runs =
      subst (λ (f : Act Reference → Bool). Answered after_is (phases_of at_vertex f (view_block block).post (after_is after)) r) (ends_agree selects is) (runs.each at_vertex vertex_sees)

pub post_told : (clock : Calendar) (o : Over) (block : Block) (e : Ends) (after : After) (selects : Bool) (slice : List code_act.Act) (r : Result After code.BlockFault) → slice ≡ block.post → HasEnds o.schema o.plan o.frame.things block e
    → selects ≡ is_alias same (target_alias (view_block block).walk) (view_block block).selected → RunsPhases clock o e selects (view_acts slice) after r
    → (s : State Reference) → Shows o.frame s → Answered after_is (posted (world_over clock o) s (view_block block) (after_is after)) r
post_told clock o block e after selects slice r lent has is runs s shows =
    post_is clock o block e s shows has selects after r is (subst (λ acts. RunsPhases clock o e selects (view_acts acts) after r) lent runs)
