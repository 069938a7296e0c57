use Rattle.std.proofs.Common.{Err, ap}
use Rattle.gq_rules_calendar.specs.Gregorian.{gregorian}
use Rattle.gq_flow.proofs.SelectLemmas.{choice_goes, choice_stops, too_many}
use Rattle.gq_flow.proofs.selects.select.Goals as goal

pub returns-in-Err-TooMany-clause-selects : goal.returns-in-Err-TooMany-clause-selects
returns-in-Err-TooMany-clause-selects g c = too_many gregorian c.args.over.now c.args.block.now (c.in-Err-TooMany.ensures.many (ap Err c.in-Err-TooMany.field-0-is))

pub returns-in-Err-select_among-clause-selects : goal.returns-in-Err-select_among-clause-selects
returns-in-Err-select_among-clause-selects g c =
    choice_stops gregorian c.args.over.now c.args.block.now c.in-Ok-candidates_of.candidates c.in-Err-select_among.fault c.block_fault.result
    c.in-Ok-candidates_of.ensures.found c.block_fault.ensures c.in-Err-select_among.ensures.chooses

pub returns-clause-selects : goal.returns-clause-selects
returns-clause-selects g c =
    choice_goes gregorian c.args.over.now c.args.block.now c.in-Ok-candidates_of.candidates c.in-Ok-select_among.selected
    c.in-Ok-candidates_of.ensures.found c.in-Ok-select_among.ensures.chooses
