use Rattle.std.proofs.Common.{Some, set, refl, sym, ap, ◌∙◌}
use Rattle.gq_frame.specs.Names.{thing_is}
use Rattle.gq_frame.proofs.LookupLemmas.{new_lives}
use Rattle.gq_frame.proofs.live.Live.declare.Goals as goal

pub returns-clause-names : goal.returns-clause-names
returns-clause-names c = λ s l.
    new_lives c.reach.new.self _ (record { place = c.args.place; was = c.replace-was.result }) c.args.thing s (thing_is c.args.thing)
    (ap (set c.reach.new.self.frame.things c.args.place) c.replace-was.ensures.after) c.in_ok-push.ensures.items refl
    (c.at_mut.ensures.value ∙ ap Some (sym c.replace-was.ensures.value)) refl (c.in_ok-reach.ensures.names s l)
