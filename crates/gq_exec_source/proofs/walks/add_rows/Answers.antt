use Rattle.std.proofs.Common.{rules, ◌++◌, ◌∙◌, ap, sym, append-nil}
use Rattle.gq_exec_source.specs.Hops.{kept}
use Rattle.gq_exec_source.proofs.RowLemmas.{no_walks}
use Rattle.gq_exec_source.proofs.walks.add_rows.Goals as goal

pub returns-then-is_empty : goal.returns-then-is_empty
returns-then-is_empty c =
    let walks = c.args.walks.now.items in
    sym (append-nil walks) ∙ ap (λ l. walks ++ kept c.args.beyond.now l) (sym (no_walks c.args.ways.now c.args.edge_type.now c.args.kind c.args.rows.now c.args.numbers.now (search rules)))
