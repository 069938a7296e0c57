use Rattle.gq_load_csv.proofs.CursorLemmas.{digits_inner}
use Rattle.gq_load_csv.proofs.cursor.short_number.Goals as goal

pub end_field-requires-clause-inner : goal.end_field-requires-clause-inner
end_field-requires-clause-inner c = digits_inner c.args.separator _ c.requires.apart c.run_at-run.ensures.digits
