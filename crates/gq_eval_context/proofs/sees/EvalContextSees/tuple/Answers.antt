use Rattle.std.proofs.Common.{◌∙◌, ap, sym, List, map, Some}
use Rattle.std.specs.List.{slice_get}
use Rattle.gq_value.specs.AccumViews.{base_of}
use Rattle.gq_value.specs.declared.kind.BaseType.{BaseType}
use Rattle.gq_rules_typing.specs.Words.{Makes}
use Rattle.gq_rules_calendar.specs.Gregorian.{gregorian}
use Rattle.gq_eval_context.specs.Viewed.{Viewed}
use Rattle.gq_eval_context.proofs.SeesLemmas.{tuple_there, no_tuple}
use Rattle.gq_eval_context.proofs.sees.EvalContextSees.tuple.Goals as goal

pub returns-in-Some : goal.returns-in-Some
returns-in-Some c =
    tuple_there gregorian c.args.self.now c.args.number c.in-Some.of.now (ap (λ (v : Viewed). slice_get v.tuples c.args.number) (sym c.self.view_is) ∙ c.in-Some.ensures)
    ∙ ap (λ (types : List BaseType). Some (Makes c.args.number (map base_of types))) (sym c.as_slice.ensures)

pub returns-in-None : goal.returns-in-None
returns-in-None c = no_tuple gregorian c.args.self.now c.args.number (ap (λ (v : Viewed). slice_get v.tuples c.args.number) (sym c.self.view_is) ∙ c.in-None.ensures)
