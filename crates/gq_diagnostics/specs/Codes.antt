-- Codes: the exit code of the program, and what it writes to standard error.
use Rattle.std.specs.Prelude.{ℕ, List, Option, Some, None, codes}
use Rattle.gq_diagnostics.specs.declared.status.Status.{Status}
use Rattle.gq_diagnostics.specs.declared.status.Status.TheVariants.{Done, Refused, Usage, ReadFault, WriteFault, OutOfMemory}

-- the exit code of a status
abbrev pub code_of : Status → ℕ
code_of Done = 0
code_of Refused = 1
code_of Usage = 2
code_of ReadFault = 3
code_of WriteFault = 4
code_of OutOfMemory = 5

-- what is written to standard error if the reason isn't on standard output
abbrev pub message_of : Status → Option (List ℕ)
message_of Done = None
message_of Refused = None
message_of Usage = Some (codes "usage: gsql [--workers N] [--chunk N] [--stripes N] [--turns N] [--args FILE] SCRIPT\n       gsql [--workers N] [--chunk N] [--stripes N] [--turns N] --sample N")
message_of ReadFault = Some (codes "gsql: a file could not be read")
message_of WriteFault = Some (codes "gsql: output could not be written")
message_of OutOfMemory = Some (codes "gsql: out of memory")
