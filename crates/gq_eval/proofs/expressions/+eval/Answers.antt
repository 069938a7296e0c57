use Rattle.gq_eval_operand.specs.Meant.{valued}
use Rattle.gq_rules_typing.specs.Builtins.{builtin_is}
use Rattle.gq_plan_ir.specs.Reference.{Calls}
use Rattle.gq_eval_builtins.proofs.ListSteps.{three_found, three_found_goes}
use Rattle.gq_eval.proofs.MisfitSteps.{one_lacks, one_exceeds, two_lack, two_lack_one, two_exceed, three_lack, three_lack_two, three_lack_one, three_exceed}
use Rattle.gq_eval.proofs.SoundSteps.{later_sound}
use Rattle.gq_eval.proofs.expressions.+eval.Goals as goal

-- the result of adding units is a time, so nothing is borrowed there
pub later-returns-in_ok-u-in-len3-clause-sound : goal.later-returns-in_ok-u-in-len3-clause-sound
later-returns-in_ok-u-in-len3-clause-sound g t c =
    later_sound (g.V.Sees.look c.args.sight.now) (valued c.in_ok-x-in-len3.x) (valued c.in_ok-n-in-len3.n) (valued c.in_ok-u-in-len3.u) c.units_later.result (g.met.V.Sees.calendar c.args.sight.now) c.units_later.ensures

pub later-returns-in_ok-u-in-len3-clause-told : goal.later-returns-in_ok-u-in-len3-clause-told
later-returns-in_ok-u-in-len3-clause-told g t c =
    three_found_goes (g.V.Sees.look c.args.sight.now) c.args.arguments.now _ _ _ (valued c.in_ok-x-in-len3.x) (valued c.in_ok-n-in-len3.n) (valued c.in_ok-u-in-len3.u) c.units_later.result
    (g.met.V.Sees.calls c.args.sight.now) (g.met.V.Sees.calendar c.args.sight.now)
    (three_found _ _ _ _ c.in-len3.len_at_least c.in-len3.len_below c.time-item.is c.count-item.is c.unit-item.is)
    c.in_ok-x-in-len3.ensures c.in_ok-n-in-len3.ensures c.in_ok-u-in-len3.ensures c.units_later.ensures

-- ---- calls with too few or too many arguments

pub single-returns-in-empty-clause-told : goal.single-returns-in-empty-clause-told
single-returns-in-empty-clause-told g t c = one_lacks (g.V.Sees.look c.args.sight.now) c.args.arguments.now c.misfit.result (Calls (builtin_is c.args.builtin)) (builtin_is c.args.builtin) (g.met.V.Sees.calls c.args.sight.now) c.requires c.in-empty.len_below c.misfit.ensures.told

pub single-returns-in-len2-up-clause-told : goal.single-returns-in-len2-up-clause-told
single-returns-in-len2-up-clause-told g t c = one_exceeds (g.V.Sees.look c.args.sight.now) c.args.arguments.now c.misfit-in-len2-up.result (Calls (builtin_is c.args.builtin)) (builtin_is c.args.builtin) (g.met.V.Sees.calls c.args.sight.now) c.requires c.in-len2-up.len_at_least c.misfit-in-len2-up.ensures.told

pub difference-returns-in-empty-clause-told : goal.difference-returns-in-empty-clause-told
difference-returns-in-empty-clause-told g t c = two_lack (g.V.Sees.look c.args.sight.now) c.args.arguments.now c.misfit.result (g.met.V.Sees.calls c.args.sight.now) c.in-empty.len_below c.misfit.ensures.told

pub difference-returns-in-len1-clause-told : goal.difference-returns-in-len1-clause-told
difference-returns-in-len1-clause-told g t c = two_lack_one (g.V.Sees.look c.args.sight.now) c.args.arguments.now c.misfit-in-len1.result (g.met.V.Sees.calls c.args.sight.now) c.in-len1.len_below c.misfit-in-len1.ensures.told

pub difference-returns-in-len3-up-clause-told : goal.difference-returns-in-len3-up-clause-told
difference-returns-in-len3-up-clause-told g t c = two_exceed (g.V.Sees.look c.args.sight.now) c.args.arguments.now c.misfit-in-len3-up.result (g.met.V.Sees.calls c.args.sight.now) c.in-len3-up.len_at_least c.misfit-in-len3-up.ensures.told

pub later-returns-in-empty-clause-told : goal.later-returns-in-empty-clause-told
later-returns-in-empty-clause-told g t c = three_lack (g.V.Sees.look c.args.sight.now) c.args.arguments.now c.misfit_later.result (g.met.V.Sees.calls c.args.sight.now) c.in-empty.len_below c.misfit_later.ensures.told

pub later-returns-in-len1-clause-told : goal.later-returns-in-len1-clause-told
later-returns-in-len1-clause-told g t c = three_lack_two (g.V.Sees.look c.args.sight.now) c.args.arguments.now c.misfit_later-in-len1.result (g.met.V.Sees.calls c.args.sight.now) c.in-len1.len_below c.misfit_later-in-len1.ensures.told

pub later-returns-in-len2-clause-told : goal.later-returns-in-len2-clause-told
later-returns-in-len2-clause-told g t c = three_lack_one (g.V.Sees.look c.args.sight.now) c.args.arguments.now c.misfit_later-in-len2.result (g.met.V.Sees.calls c.args.sight.now) c.in-len2.len_below c.misfit_later-in-len2.ensures.told

pub later-returns-in-len4-up-clause-told : goal.later-returns-in-len4-up-clause-told
later-returns-in-len4-up-clause-told g t c = three_exceed (g.V.Sees.look c.args.sight.now) c.args.arguments.now c.misfit_later-in-len4-up.result (g.met.V.Sees.calls c.args.sight.now) c.in-len4-up.len_at_least c.misfit_later-in-len4-up.ensures.told
