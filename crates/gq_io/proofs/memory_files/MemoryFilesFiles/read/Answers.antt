use Rattle.std.proofs.Common.{refl, subst}
use Rattle.gq_io.specs.Files.{AnswersFrom}
use Rattle.gq_io.proofs.memory_files.MemoryFilesFiles.read.Goals as goal

pub returns-clause-answer : goal.returns-clause-answer
returns-clause-answer c = subst (λ state. AnswersFrom state.listing c.args.name.now c.read.result) c.self.view_is (c.read.ensures.told _ refl)
