use Rattle.std.proofs.Common.{◌≡◌, ◌∙◌, ◌+◌, ◌<◌, ◌∷◌, [], ◌++◌, ℕ, get_or, set, length, refl, sym, subst, arith}
use Rattle.gq_base.specs.Keys.{number_of, bucket_of}
use Rattle.gq_base.specs.KeyChains.{IsChained}
use Rattle.gq_base.specs.declared.key_chains.Entry.{Entry}
use Rattle.gq_base.proofs.KeyChainLemmas.{added}
use Rattle.gq_base.proofs.key_chains.add.Goals as goal

pub returns-clause-chained : goal.returns-clause-chained
returns-clause-chained c =
    let heads = c.args.heads.now in let entries = c.args.entries.now.items in let key = c.args.key in
    let e : ℕ → Entry = λ b. record { word = key.word; tag = key.tag; before = get_or heads b 0 } in
    let count : c.len-number.result ≡ length entries = c.len-number.ensures ∙ c.args.entries.now.ok.0 in
    let low : bucket_of (number_of key) (length heads) < length heads = omega (arith, c.bucket-bucket.ensures.exact, c.bucket-bucket.ensures.within) in
    rw (c.put.ensures, count) (subst (λ b. IsChained (set heads b (length entries + 1)) (entries ++ e b ∷ [])) (sym c.bucket-bucket.ensures.exact)
    (added heads entries (e (bucket_of (number_of key) (length heads))) low refl c.requires.chained))
