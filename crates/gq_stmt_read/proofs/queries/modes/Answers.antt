use Rattle.std.proofs.Common.{IfOk, Some, sym, subst}
use Rattle.gq_grammar.specs.Parsers.{Found, many}
use Rattle.gq_stmt_read.specs.Queries.{mode_parser}
use Rattle.gq_stmt_read.proofs.queries.modes.Goals as goal

pub returns : goal.returns
returns c =
    subst (λ z. Found (many mode_parser) c.args.source.now c.args.at (Some (z, c.in_ok-modes.at))) (sym c.from_vec.ensures)
    (subst (λ r. IfOk r (λ read. Found (many mode_parser) c.args.source.now c.args.at (Some (read.0.items, read.1)))) c.in_ok-modes.was
    (c.run.ensures mode_parser (λ alloc source at read within h. h.1)))

pub run-requires-clause-reads : goal.run-requires-clause-reads
run-requires-clause-reads c = (mode_parser, λ alloc source at read within h. h.1)
