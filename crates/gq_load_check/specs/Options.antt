-- Options: the meaning of the options of a LOAD. If an option occurs twice, the later one counts.
use Rattle.std.specs.Prelude.{ℕ, ◌||◌, not, Bool, true, false, if◌then◌else◌, List, [], ◌∷◌, map, Option, Some, None, is_some, bytes_eq, codes}
use Rattle.std.specs.Char.{to_ascii_lowercase}
use Rattle.std.specs.Option.{option_or, option_map_or, option_and_then}
use Rattle.gq_tree.specs.declared.job.LoadOption.{LoadOption}
use Rattle.gq_tree.specs.declared.job.LoadOption.TheVariants.{Separator, Header, Quote, Eol}
use Rattle.gq_load_check.specs.Fits.{can_separate}

-- an option: its name and its text
abbrev pub Opt : Type 0
Opt = LoadOption × List ℕ

abbrev pub same_option : LoadOption → LoadOption → Bool
same_option Separator Separator = true
same_option Header Header = true
same_option Quote Quote = true
same_option Eol Eol = true
same_option _ _ = false

-- the text of the last option with this name
abbrev pub option_text : LoadOption → List Opt → Option (List ℕ)
option_text name [] = None
option_text name (o ∷ options) = option_or (option_text name options) (if same_option name o.0 then Some o.1 else None)

-- the quote byte that a word names
abbrev pub quote_byte : List ℕ → Option ℕ
quote_byte text = if bytes_eq text (codes "double") then Some 34 else (if bytes_eq text (codes "single") then Some 39 else None)

-- the quote byte; none without QUOTE
abbrev pub quote_of : List Opt → Option ℕ
quote_of options = option_and_then quote_byte (option_text Quote options)

-- whether a text is a single byte that can be the separator
abbrev pub is_separator : Option ℕ → List ℕ → Bool
is_separator quote (b ∷ []) = can_separate quote b
is_separator quote _ = false

-- the separator; a comma without SEPARATOR
abbrev pub first_byte : List ℕ → ℕ
first_byte (b ∷ text) = b
first_byte [] = 44

abbrev pub separator_of : List Opt → ℕ
separator_of options = option_map_or first_byte (option_text Separator options) 44

-- there is a header exactly if HEADER is `true` in any case
abbrev pub is_true : List ℕ → Bool
is_true text = bytes_eq (map to_ascii_lowercase text) (codes "true")

abbrev pub header_of : List Opt → Bool
header_of options = option_map_or is_true (option_text Header options) false

-- QUOTE is neither `double` nor `single`, or SEPARATOR isn't a valid separator
abbrev pub has_bad_quote : List Opt → Bool
has_bad_quote options = option_map_or (λ text. not (is_some (quote_byte text))) (option_text Quote options) false

abbrev pub has_bad_separator : List Opt → Bool
has_bad_separator options = option_map_or (λ text. not (is_separator (quote_of options) text)) (option_text Separator options) false

abbrev pub has_bad_option : List Opt → Bool
has_bad_option options = has_bad_quote options || has_bad_separator options
