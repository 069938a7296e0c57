use Rattle.std.proofs.Common.{◌≡◌, ◌∙◌, ◌+◌, ◌-◌, ◌<◌, Some, ap, length, sym, vec_len, arith}
use Rattle.std.specs.List.{slice_get}
use Rattle.std.proofs.lemmas.Option.{slice_get-get_or}
use Rattle.gq_base.specs.Keys.{number_of, number_in, bucket_of}
use Rattle.gq_base.proofs.KeyChainLemmas.{dropped, no_entry}
use Rattle.gq_base.proofs.key_chains.drop_last.Goals as goal

pub returns-in-Some-clause-chained : goal.returns-in-Some-clause-chained
returns-in-Some-clause-chained c =
    let heads = c.args.heads.now in let entries = c.args.entries.now.items in let n = vec_len c.args.entries.now - 1 in let e = c.in-Some.entry in
    let some : 0 < vec_len c.args.entries.now = omega (arith, c.pop.ensures.cases, c.in-Some.ensures.cases) in
    let long : length entries ≡ n + 1 = omega (arith, c.args.entries.now.ok.0) in
    let is : slice_get entries n ≡ Some e = slice_get-get_or entries n no_entry (omega (arith, long)) ∙ sym (c.pop.ensures.value no_entry some) ∙ c.in-Some.is in
    let bucket : c.bucket.result ≡ bucket_of (number_in e) (length heads) = c.bucket.ensures.exact ∙ ap (λ k. bucket_of (number_of k) (length heads)) c.key_of.ensures in
    let low : bucket_of (number_in e) (length heads) < length heads = omega (arith, bucket, c.bucket.ensures.within) in
    rw (c.pop.ensures.rest, bucket) (dropped heads entries e n long is low c.requires.chained)
