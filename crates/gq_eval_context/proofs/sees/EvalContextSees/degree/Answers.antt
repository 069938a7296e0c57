use Rattle.std.proofs.Common.{rules, ◌∙◌, ap, List, ℕ, map, pos, w64}
use Rattle.std.proofs.lemmas.Int.{to_z-of_z}
use Rattle.gq_rules_meaning.specs.Calls.{sum, degree_of}
use Rattle.gq_eval_attributes.specs.Worlds.{graph_is}
use Rattle.gq_eval_context.specs.Viewed.{Viewed}
use Rattle.gq_eval_context.specs.Looks.{graph_for}
use Rattle.gq_eval_context.proofs.sees.EvalContextSees.degree.Goals as goal

pub returns : goal.returns
returns c =
    to_z-of_z w64 c.degree.result (search rules)
    ∙ c.degree.ensures
    ∙ ap (λ (own : List ℕ). pos (sum (map (degree_of (graph_is c.self.inside.graph own own) c.args.vertex) own))) c.as_slice.ensures
    ∙ ap (λ (v : Viewed). pos (sum (map (degree_of (graph_for v.schema v.vertices v.edges v.plan) c.args.vertex) v.plan.edges))) c.self.view_is
