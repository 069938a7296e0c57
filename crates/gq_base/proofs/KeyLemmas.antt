-- KeyLemmas: the parts of a key's number.
use Rattle.std.proofs.Common.{ℕ, ◌+◌, ◌*◌, ◌/◌, ◌%◌, ◌<◌, ◌≡◌, ap, sym, ◌∙◌, arith}
use Rattle.gq_base.specs.Keys.{number_of, bucket_of}
use Rattle.gq_base.specs.declared.key.Key.{Key}

pub bucket_is : (k : Key) (n : ℕ) → k.word < 18446744073709551616
    → (k.word + k.tag * 14029467366897019727 % 18446744073709551616) % 18446744073709551616 * 11400714819323198485 % 18446744073709551616 / 4294967296 * n / 4294967296 ≡ bucket_of (number_of k) n
unfolding bucket_of
bucket_is k n low =
    let word : number_of k % 18446744073709551616 ≡ k.word = omega (arith, low) in
    let tag : number_of k / 18446744073709551616 ≡ k.tag = omega (arith, low) in
    sym (ap (λ w. (w + (number_of k / 18446744073709551616) * 14029467366897019727 % 18446744073709551616) % 18446744073709551616 * 11400714819323198485 % 18446744073709551616 / 4294967296 * n / 4294967296) word
    ∙ ap (λ t. (k.word + t * 14029467366897019727 % 18446744073709551616) % 18446744073709551616 * 11400714819323198485 % 18446744073709551616 / 4294967296 * n / 4294967296) tag)
