use Rattle.gq_output.proofs.ContentLemmas.{as_many, shown_at}
use Rattle.gq_output.proofs.NamedLemmas.{at_get}
use Rattle.gq_output.proofs.contents.kind_at.Goals as goal

pub bounds-kinds-place : goal.bounds-kinds-place
bounds-kinds-place c = as_many c.args.kinds.now c.args.parts.now c.args.place c.args.part.now c.requires.shown c.requires.there

pub returns-clause-kind : goal.returns-clause-kind
returns-clause-kind c =
    at_get c.args.kinds.now c.args.place _ (as_many c.args.kinds.now c.args.parts.now c.args.place c.args.part.now c.requires.shown c.requires.there) c.index-kinds-place.is

pub returns-clause-shown : goal.returns-clause-shown
returns-clause-shown c = shown_at c.args.kinds.now c.args.parts.now c.args.place _ c.args.part.now c.requires.shown (returns-clause-kind c) c.requires.there
