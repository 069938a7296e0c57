use Rattle.std.proofs.Common.{ℕ, ◌≡◌, ◌∙◌, ◌+◌, ◌<◌, ap, get_or, set, length, sym, subst, arith, refl}
use Rattle.gq_base.specs.Keys.{number_of, number_in, numbers_of, links_of, bucket_of}
use Rattle.gq_base.specs.KeyChains.{IsChainedTo}
use Rattle.gq_base.specs.declared.key_chains.Entry.{Entry}
use Rattle.gq_base.proofs.KeyChainLemmas.{relinked, same_numbers, no_entry}
use Rattle.gq_base.proofs.key_chains.link_all.Goals as goal

pub loop-i-preserved : goal.loop-i-preserved
loop-i-preserved c =
    let heads = c.loop-i.heads in let entries = c.loop-i.entries in let i = c.loop-i.i in let old = get_or entries i no_entry in
    let e : ℕ → Entry = λ b. record { word = old.word; tag = old.tag; before = get_or heads b 0 } in
    let bucket : c.bucket-bucket.result ≡ bucket_of (number_in old) (length heads) = c.bucket-bucket.ensures.exact ∙ ap (λ k. bucket_of (number_of k) (length heads)) c.key_of.ensures in
    let low : bucket_of (number_in old) (length heads) < length heads = omega (arith, bucket, c.bucket-bucket.ensures.within) in
    let under : i < length entries = omega (arith, c.loop-i-test.true, c.loop-i.auto.entries) in
    record {
      chained = subst (λ b. IsChainedTo (i + 1) (length (set heads b (i + 1))) (set heads b (i + 1)) (numbers_of (set entries i (e b))) (links_of (set entries i (e b))))
          (sym bucket) (relinked heads entries i (e (bucket_of (number_in old) (length heads))) under refl refl low c.loop-i.invariant.chained);
      same = same_numbers entries i (e c.bucket-bucket.result) refl ∙ c.loop-i.invariant.same;
    }
