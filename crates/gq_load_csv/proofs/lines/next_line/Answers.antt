use Rattle.std.proofs.Common.{◌≡◌, ℕ, ◌+◌, length, ap, ◌∙◌, arith}
use Rattle.std.specs.List.{list_all}
use Rattle.std.proofs.lemmas.Bool.Decides.{nat_tests}
use Rattle.csv.specs.Reading.{records}
use Rattle.gq_load_csv.specs.Lines.{is_plain_byte, says}
use Rattle.gq_load_csv.specs.Records.{config_of}
use Rattle.gq_load_csv.proofs.LineLemmas.{empty, none_left, one_read, plain_behind}
use Rattle.gq_load_csv.proofs.lines.next_line.Goals as goal

pub returns-then-is_empty-clause-next : goal.returns-then-is_empty-clause-next
returns-then-is_empty-clause-next c =
    let none : length c.behind_ends-text.result.now ≡ 0 = grind (arith, nat_tests) in
    c.behind_ends-text.ensures.same c.args.lines.now.separator c.args.lines.now.quote
    ∙ ap (records (config_of c.args.lines.now.separator c.args.lines.now.quote)) (empty c.behind_ends-text.result.now none)
    ∙ none_left c.args.lines.now.separator c.args.lines.now.quote

pub returns-clause-plain : goal.returns-clause-plain
returns-clause-plain c =
    let p : ℕ → _ = is_plain_byte c.args.lines.now.quote in
    record {
      line = c.requires.line;
      plain = ap (list_all p) c.behind-lines.ensures ∙ plain_behind p (c.in_ok-size.size + 1) c.behind_ends-text.result.now (c.behind_ends-text.ensures.plain p c.requires.plain);
    }

pub returns-clause-next : goal.returns-clause-next
returns-clause-next c =
    let p : ℕ → _ = is_plain_byte c.args.lines.now.quote in
    one_read c.args.lines.now.separator c.args.lines.now.quote c.args.lines.now.rest.now c.behind_ends-text.result.now c.behind-lines.result.now
    (says c.read_fields.new.fields.items) c.in_ok-size.size (c.behind_ends-text.ensures.same c.args.lines.now.separator c.args.lines.now.quote)
    (c.behind_ends-text.ensures.plain p c.requires.plain) c.behind_ends-text.ensures.begins (grind (arith, nat_tests)) c.in_ok-size.ensures.line c.behind-lines.ensures
