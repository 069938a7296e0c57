use Rattle.gq_load_csv.specs.Readings.{reading_tells}
use Rattle.gq_load_csv.proofs.laws.one_reading.Goals as goal

pub returns : goal.returns
returns c = reading_tells
