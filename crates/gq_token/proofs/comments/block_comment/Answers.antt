use Rattle.std.proofs.Common.{refl, drop}
use Rattle.std.proofs.lemmas.List.{take_rest}
use Rattle.gq_token.specs.Spelling.{ends_at_close}
use Rattle.gq_token.specs.Items.{NeverEnds}
use Rattle.gq_token.proofs.CommentLemmas.{block_item, block_open}
use Rattle.gq_token.proofs.comments.block_comment.Goals as goal

pub returns-in-Some-clause-item : goal.returns-in-Some-clause-item
returns-in-Some-clause-item c =
    block_item c.args.rest.now c.in-Some.size _ c.requires.some c.requires.opens (rw (take_rest c.args.rest.now 2) at c.in-Some.ensures.some) refl

pub returns-in-None-clause-fault : goal.returns-in-None-clause-fault
returns-in-None-clause-fault c = (block_open c.args.rest.now c.requires.some c.requires.opens never, refl)
  where
    never : NeverEnds ends_at_close (drop 2 c.args.rest.now)
    never = rw (take_rest c.args.rest.now 2) at c.in-None.ensures.none
