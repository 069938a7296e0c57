use Rattle.gq_exec_post.proofs.ChangeLemmas.{allows_put, input_put, value_put}
use Rattle.gq_exec_post.proofs.changed.put_in.Goals as goal

pub set-requires-clause-allows : goal.set-requires-clause-allows
set-requires-clause-allows c = allows_put c.args.made.now c.in-Value.value c.args.target c.args.accums.now.contents c.in-Value.is c.requires.takes

pub returns-in_ok-feed-in-Input : goal.returns-in_ok-feed-in-Input
returns-in_ok-feed-in-Input c =
    input_put c.args.made.now c.in-Input.input c.args.accums.now c.feed.new.self c.args.target c.still_fits.result c.at.result.now c.in-Input.is c.in_ok-feed-in-Input.ensures c.at.ensures c.still_fits.ensures

pub returns-in_ok-set-in-Value : goal.returns-in_ok-set-in-Value
returns-in_ok-set-in-Value c =
    value_put c.args.made.now c.in-Value.value c.args.accums.now c.set.new.self c.args.target c.fits.result c.at-in-Value.result.now c.in-Value.is c.in_ok-set-in-Value.ensures c.at-in-Value.ensures c.fits.ensures
