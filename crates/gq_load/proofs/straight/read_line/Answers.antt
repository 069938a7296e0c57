use Rattle.std.proofs.Common.{◌≡◌, ◌∷◌, Some, ap, sym, ◌∙◌}
use Rattle.gq_load_csv.specs.Next.{NextRecord}
use Rattle.gq_load.specs.Rows.{steps_of}
use Rattle.gq_load.specs.Drafts.{all_drafted}
use Rattle.gq_load.proofs.DraftLemmas.{judged_loaded}
use Rattle.gq_load.proofs.StraightLemmas.{not_short}
use Rattle.gq_load.proofs.straight.read_line.Goals as goal

pub returns-clause-reads : goal.returns-clause-reads
returns-clause-reads c = λ _.
    let line : NextRecord = c.in-Some.line in
    record {
      fields = line.fields;
      split = c.in-Some.ensures ∙ ap (λ (n : NextRecord). line.fields ∷ n.others) (sym c.read_rows.ensures.same) ∙ ap (λ os. line.fields ∷ os) (sym c.go_behind.ensures);
      judged = λ read tells.
          let is : steps_of read c.args.catalog.now c.args.routes.now line.fields ≡ Some (all_drafted c.args.catalog.now c.args.routes.now c.read_rows.new.drafts) = c.in-Ok-true.ensures.reads c.in-Ok-true.field-0-test read tells in
          sym (judged_loaded read c.args.catalog.now c.args.routes.now line.fields _ (not_short read c.args.catalog.now c.args.routes.now line.fields _ c.requires.complete is) is);
    }
