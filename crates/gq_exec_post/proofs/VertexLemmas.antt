-- VertexLemmas: the vertices of a phase in order.
use Rattle.std.proofs.Common.{◌≡◌, ℕ, ◌+◌, ◌<◌, ◌≤◌, List, ◌∷◌, drop, length, get_or, Ok, Err, refl, sym, ap, subst, ◌∙◌}
use Rattle.std.proofs.lemmas.List.{drop_more, drop_all}
use Rattle.gq_rules_typing.specs.Selecting.{Acts}
use Rattle.gq_rules_meaning.specs.Answers.{◌>>=◌, through}
use Rattle.gq_rules_meaning.specs.Calendars.{Calendar}
use Rattle.gq_rules_meaning.specs.Posts.{Post, post_acts}
use Rattle.gq_plan_ir.specs.Reference.{Reference}
use Rattle.gq_frame.specs.Slots.{AreSound}
use Rattle.gq_eval_context.specs.Viewed.{Over}
use Rattle.gq_eval_context.specs.declared.after.BlockFault as code
use Rattle.gq_eval_context.specs.Answered.{EndsAs}
use Rattle.gq_exec_source.specs.declared.ends.End.{End}
use Rattle.gq_exec_source.specs.Ends.{end_things}
use Rattle.gq_exec_post.specs.declared.writing.Writing.{Writing}
use Rattle.gq_exec_post.specs.Sights.{DoesSo, GoesSo, SeesSo, one_alias}
use Rattle.gq_exec_post.specs.Writing.{AreTaken, KeepsTo, written}
use Rattle.gq_eval_context.proofs.FaultLemmas.{ends_with}
use Rattle.gq_exec_post.proofs.ActLemmas.{keeps_itself, keeps_on}

-- each vertex of the definitions has the context of the code under the alias of this end
abbrev pub AllSee : Calendar → Over → End → (ℕ → Post Reference) → Type 0
AllSee clock o end q = (v : ℕ) → SeesSo clock o (one_alias (end_things end v)) v (q v)

-- the state so far, followed by the remaining vertices
pub record VerticesTo (clock : Calendar) (o : Over) (end : End) (acts : Acts Reference) (vs : List ℕ) (before : Writing) (i : ℕ) (now : Writing) : Type 0 where
  pub each : (q : ℕ → Post Reference) → AllSee clock o end q → through (λ w v. post_acts (q v) acts w) (written before) vs ≡ through (λ w v. post_acts (q v) acts w) (written now) (drop i vs)
  pub keeps : KeepsTo before.accums now.accums
  pub taken : AreTaken now

module _ (clock : Calendar) (o : Over) (end : End) (acts : Acts Reference) (vs : List ℕ) where
  pub vertices_begin : (before : Writing) → AreSound before.accums → AreTaken before → VerticesTo clock o end acts vs before 0 before
  vertices_begin before s t = record { each = λ q h. refl; keeps = keeps_itself before.accums s; taken = t }

  here : (i v : ℕ) (before now : Writing) → VerticesTo clock o end acts vs before i now → i < length vs → v ≡ get_or vs i 0 → (q : ℕ → Post Reference) → AllSee clock o end q
      → through (λ w v. post_acts (q v) acts w) (written before) vs ≡ (post_acts (q v) acts (written now) >>= λ w. through (λ w v. post_acts (q v) acts w) w (drop (i + 1) vs))
  here i v before now inv n is q h = inv.each q h ∙ ap (through (λ w v. post_acts (q v) acts w) (written now)) (drop_more vs i 0 n ∙ ap (λ u. u ∷ drop (i + 1) vs) (sym is))

  pub vertex_stops : (i v : ℕ) (before now : Writing) (e : code.BlockFault) → VerticesTo clock o end acts vs before i now → i < length vs → v ≡ get_or vs i 0
      → DoesSo clock o (one_alias (end_things end v)) v (λ p. post_acts p acts) now (Err e) → GoesSo clock o end acts vs before (Err e)
  vertex_stops i v before now e inv n is d = record {
    each = λ q h. subst (λ o. EndsAs o e) (sym (here i v before now inv n is q h)) (ends_with (post_acts (q v) acts (written now)) (λ w. through (λ w v. post_acts (q v) acts w) w (drop (i + 1) vs)) e (d.each (q v) (h v)));
  }

  pub vertex_next : (i v : ℕ) (before now next : Writing) → VerticesTo clock o end acts vs before i now → i < length vs → v ≡ get_or vs i 0
      → DoesSo clock o (one_alias (end_things end v)) v (λ p. post_acts p acts) now (Ok next) → KeepsTo now.accums next.accums → AreTaken next → VerticesTo clock o end acts vs before (i + 1) next
  vertex_next i v before now next inv n is d k t = record {
    each = λ q h. here i v before now inv n is q h ∙ ap (λ o. o >>= λ w. through (λ w v. post_acts (q v) acts w) w (drop (i + 1) vs)) (d.each (q v) (h v));
    keeps = keeps_on before.accums now.accums next.accums inv.keeps k;
    taken = t;
  }

  pub vertices_end : (i : ℕ) (before now : Writing) → VerticesTo clock o end acts vs before i now → length vs ≤ i → GoesSo clock o end acts vs before (Ok now)
  vertices_end i before now inv l = record { each = λ q h. inv.each q h ∙ ap (through (λ w v. post_acts (q v) acts w) (written now)) (drop_all i vs l) }

  pub vertices_sound : (i : ℕ) (before now : Writing) → VerticesTo clock o end acts vs before i now → AreSound now.accums
  vertices_sound i before now inv = inv.keeps.sound

  pub vertices_keep : (i : ℕ) (before now : Writing) → VerticesTo clock o end acts vs before i now → KeepsTo before.accums now.accums
  vertices_keep i before now inv = inv.keeps

  pub vertices_taken : (i : ℕ) (before now : Writing) → VerticesTo clock o end acts vs before i now → AreTaken now
  vertices_taken i before now inv = inv.taken

pub ruleset vertex_laws = (vertices_begin, vertices_end, vertices_sound, vertices_keep, vertices_taken)
