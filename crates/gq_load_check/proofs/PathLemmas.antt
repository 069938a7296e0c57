-- PathLemmas: the paths that a run supplies by the places of their names.
use Rattle.std.proofs.Common.{ℕ, ◌+◌, ◌<◌, ◌≡◌, Bool, true, false, cond, List, [], ◌∷◌, length, take, reverse, get_or, Option, Some, refl, ap, sym, ◌∙◌, nat_cmp}
use Rattle.std.specs.Prelude.{String, slice_get, find, bytes_eq, option_and_then}
use Rattle.std.specs.Cmp.Lexicographic.{slice_cmp}
use Rattle.std.specs.Map.{lookup, update}
use Rattle.std.specs.String.{string_bytes}
use Rattle.std.specs.BTreeMap.{BTreeMap, IsEmpty, get_by_text, is_at}
use Rattle.std.proofs.lemmas.List.{take_more, reverse-append}
use Rattle.std.proofs.lemmas.Option.{slice_get-get_or}
use Rattle.gq_load_check.specs.Paths.{Given}
use Rattle.gq_load_check.specs.Placed.{LastPlaced, is_given}

-- no pair, and no name
pub last_none : {Y : Type 0} (given : List Given) (places : BTreeMap (String Y) ℕ) → IsEmpty places → LastPlaced given [] places
last_none given places empty = λ name.
    ap (λ es. option_and_then (slice_get given) (lookup (is_at (λ k. slice_cmp nat_cmp name (string_bytes k))) es)) empty

-- one more pair, whose name was added to the tree
module _ {Y : Type 0} (given : List Given) (places more : BTreeMap (String Y) ℕ) (key : List ℕ) (n : ℕ) (d : Given) (low : n < length given) (key_is : key ≡ (get_or given n d).0)
    (put : (other : List ℕ) → get_by_text more other ≡ update bytes_eq (get_by_text places) key (Some n) other) where
  pub last_more : LastPlaced given (take n given) places → LastPlaced given (take (n + 1) given) more
  last_more placed = λ other.
      let back : reverse (take (n + 1) given) ≡ get_or given n d ∷ reverse (take n given) =
      ap reverse (take_more given n d low) ∙ reverse-append (take n given) (get_or given n d ∷ []) in
      ap (option_and_then (slice_get given)) (put other ∙ ap (λ k. cond (bytes_eq k other) (Some n) (get_by_text places other)) key_is)
      ∙ by (bytes_eq (get_or given n d).0 other) (get_by_text places other)
      ∙ ap (cond (bytes_eq (get_or given n d).0 other) (Some (get_or given n d))) (placed other)
      ∙ sym (ap (find (is_given other)) back)
    where
      by : (b : Bool) (o : Option ℕ) → option_and_then (slice_get given) (cond b (Some n) o) ≡ cond b (Some (get_or given n d)) (option_and_then (slice_get given) o)
      by true o = slice_get-get_or given n d low
      by false o = refl
