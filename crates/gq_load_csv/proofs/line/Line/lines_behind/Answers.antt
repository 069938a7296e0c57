use Rattle.std.proofs.Common.{ℕ, Bool, ap, ◌∙◌}
use Rattle.std.specs.List.{list_all}
use Rattle.gq_load_csv.specs.Lines.{is_plain_byte}
use Rattle.gq_load_csv.specs.Next.{NextRecord}
use Rattle.gq_load_csv.proofs.CursorLemmas.{others_left, over_rest, open_rest, plain_end}
use Rattle.gq_load_csv.proofs.line.Line.lines_behind.Goals as goal
use Rattle.gq_load_csv.proofs.line.Line.lines_behind.Goals.{then-self, else-self}

pub returns-clause-plain : goal.returns-clause-plain
returns-clause-plain c = elim c.if-self.branch [
  | then-self w ↦ rw w.rest-is (record { line = c.self.invariant.plain.line; plain = c.self.invariant.rest })
  | else-self w ↦
      let p : ℕ → Bool = is_plain_byte c.self.inside.lines.quote in
      rw w.rest-is (record { line = c.self.invariant.plain.line; plain = ap (list_all p) w.behind_line-rest.ensures ∙ plain_end p c.self.inside.at.rest.now c.self.invariant.rest })
]

pub returns-clause-left : goal.returns-clause-left
returns-clause-left c = elim c.if-self.branch [
  | then-self w ↦
      rw w.rest-is (others_left c.self.inside.lines c.self.inside.at c.self.inside.at.rest.now c.self.invariant (over_rest c.self.inside.lines c.self.inside.at w.if-self.true)
      ∙ ap (λ (n : NextRecord). n.others) c.self.view_is)
  | else-self w ↦
      rw (w.rest-is, w.behind_line-rest.ensures) (others_left c.self.inside.lines c.self.inside.at _ c.self.invariant (open_rest c.self.inside.lines c.self.inside.at c.self.invariant w.if-self.false)
      ∙ ap (λ (n : NextRecord). n.others) c.self.view_is)
]
