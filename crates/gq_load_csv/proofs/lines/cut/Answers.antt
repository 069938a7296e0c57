use Rattle.std.proofs.Common.{ℕ, ◌-◌, length, drop}
use Rattle.gq_load_csv.specs.Lines.{is_plain_byte}
use Rattle.gq_load_csv.proofs.CutLemmas.{plain_taken}
use Rattle.gq_load_csv.proofs.LineLemmas.{plain_behind}
use Rattle.gq_load_csv.proofs.lines.cut.Goals as goal

pub returns-clause-front : goal.returns-clause-front
returns-clause-front c = record {
  line = c.requires.line;
  plain = plain_taken (is_plain_byte c.args.lines.now.quote) c.cut_place-place.result c.args.lines.now.rest.now c.requires.plain;
}

pub returns-clause-behind : goal.returns-clause-behind
returns-clause-behind c =
    let p : ℕ → _ = is_plain_byte c.args.lines.now.quote in
    record {
      line = c.requires.line;
      plain = plain_taken p (length c.args.lines.now.rest.now - c.cut_place-place.result) (drop c.cut_place-place.result c.args.lines.now.rest.now)
          (plain_behind p c.cut_place-place.result c.args.lines.now.rest.now c.requires.plain);
    }
