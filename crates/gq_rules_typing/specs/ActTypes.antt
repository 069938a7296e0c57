-- ActTypes: the typing rules of inputs, of ACCUM and of POST-ACCUM, in order of text.
use Rattle.std.specs.Prelude.{ℕ, suc, Bool, true, false, not, ◌&&◌, nat_lt, ◌==◌, List, [], ◌∷◌, length, Option, Some, None, Ok, Err}
use Rattle.gq_tree.specs.Accums.{Base, Accum}
use Rattle.gq_rules_typing.specs.Selecting.{Input, Plain, Keys, Inputs, no_input, input_and, Change, Adds, Puts, Act, AtAlias, AtGlobal, Choose, Acts, no_act, act_and, Choices, otherwise, when}
use Rattle.gq_rules_typing.specs.Judging.{Mismatch, NotAllowedHere, TwoAliases, TooMany, OrderDependent, Judged, ◌>>=◌, ◌>>◌, unless, or_fault, each_judged}
use Rattle.gq_rules_typing.specs.Types.{converts, convert_all, as_base}
use Rattle.gq_rules_typing.specs.Kinds.{set_type, input_type, key_types, part_kinds, is_list}
use Rattle.gq_rules_typing.specs.ExpressionTypes.{Names, typing_all, base_type, condition, converting}
use Rattle.gq_rules_typing.specs.Scopes.{Entry, Alias, TupleName, Place, InBlock, InPost, Scope, entry, said, unknown, declared_kind, names_at}
use Rattle.gq_rules_typing.specs.Patterns.{is_alias}
use Rattle.gq_rules_typing.specs.Mentions.{in_act}

-- ---- inputs; surplus ones have no kind, and are judged only for their own faults

abbrev pub converts_into : Base → Option Base → Bool
converts_into b None = false
converts_into b (Some c) = converts b c

abbrev pub takes : Option Accum → Base → Bool
takes None b = true
takes (Some k) b = converts_into b (input_type k)

-- keys of the kind's types, and as many inputs as it has parts
abbrev pub takes_keys : Option Accum → List Base → ℕ → Bool
takes_keys None bs n = true
takes_keys (Some k) bs n = convert_all bs (key_types k) && ((n == length (part_kinds k)) && not (n == 0))

abbrev pub kinds_of : Option Accum → List Accum
kinds_of None = []
kinds_of (Some k) = part_kinds k

abbrev pub input_count : {N : Type 0} → Inputs N → ℕ
input_count no_input = 0
input_count (input_and x xs) = suc (input_count xs)

abbrev mutual
  -- keys convert, and counts are equal, at the end of the whole input
  pub typing_input : {N : Type 0} → Names N → Option Accum → Input N → Judged Bool
  typing_input names k (Plain t) = base_type names t >>= λ b. unless Mismatch (takes k b)
  typing_input names k (Keys ts xs) = typing_all names ts >>= λ types. typing_inputs names (kinds_of k) xs >> each_judged as_base types >>= λ bs. unless Mismatch (takes_keys k bs (input_count xs))

  pub typing_inputs : {N : Type 0} → Names N → List Accum → Inputs N → Judged Bool
  typing_inputs names ks no_input = Ok true
  typing_inputs names [] (input_and x xs) = typing_input names None x >> typing_inputs names [] xs
  typing_inputs names (k ∷ ks) (input_and x xs) = typing_input names (Some k) x >> typing_inputs names ks xs

-- ---- changes, judged at their sign

-- v of `v.@a` is a source or target alias
abbrev pub vertex_alias : {N : Type 0} → Scope N → N → Judged Bool
vertex_alias s v = of_entry (entry s v)
  where
    of_entry : Option Entry → Judged Bool
    of_entry None = Err (unknown s v)
    of_entry (Some (Alias types)) = Ok true
    of_entry (Some TupleName) = Err (unknown s v)
    of_entry (Some e) = Err NotAllowedHere

-- the type that `=` sets: that of a scalar kind other than an average
abbrev pub settable : Accum → Judged Base
settable k = or_fault Mismatch (set_type k)

-- a change in ACCUM: only inputs, and none to a ListAccum
abbrev pub typing_given : {N : Type 0} → Scope N → N → Accum → Change N → Judged Bool
typing_given s a k (Adds x) = unless (OrderDependent (said s a)) (not (is_list k)) >> typing_input (names_at s InBlock) (Some k) x
typing_given s a k (Puts t) = Err NotAllowedHere

-- a change at an alias in POST-ACCUM
abbrev pub typing_written : {N : Type 0} → Scope N → Accum → Change N → Judged Bool
typing_written s k (Adds x) = typing_input (names_at s InPost) (Some k) x
typing_written s k (Puts t) = settable k >>= λ b. converting (names_at s InPost) b t

-- a change of a global accumulator in POST-ACCUM: only inputs
abbrev pub typing_fed : {N : Type 0} → Scope N → Accum → Change N → Judged Bool
typing_fed s k (Adds x) = typing_input (names_at s InPost) (Some k) x
typing_fed s k (Puts t) = Err NotAllowedHere

-- at an alias, or of a global accumulator; the flag is true in POST-ACCUM
abbrev pub typing_at : {N : Type 0} → Scope N → Bool → N → N → Change N → Judged Bool
typing_at s true v a change = vertex_alias s v >> declared_kind s true a >>= λ k. typing_written s k change
typing_at s false v a change = vertex_alias s v >> declared_kind s true a >>= λ k. typing_given s a k change

abbrev pub typing_global : {N : Type 0} → Scope N → Bool → N → Change N → Judged Bool
typing_global s true a change = declared_kind s false a >>= λ k. typing_fed s k change
typing_global s false a change = declared_kind s false a >>= λ k. typing_given s a k change

-- ---- statements of ACCUM and POST-ACCUM

abbrev pub place_of : {N : Type 0} → Bool → Place N
place_of true = InPost
place_of false = InBlock

-- one more statement, of at most 1,000 including nested ones
abbrev pub one_more : ℕ → Judged ℕ
one_more n = unless TooMany (nat_lt n 1000) >> Ok (suc n)

abbrev mutual
  -- after n statements; the result is their number then
  pub typing_acts : {N : Type 0} → Scope N → Bool → ℕ → Acts N → Judged ℕ
  typing_acts s post n no_act = Ok n
  typing_acts s post n (act_and a acts) = one_more n >>= λ m. typing_act s post m a >>= λ k. typing_acts s post k acts

  pub typing_act : {N : Type 0} → Scope N → Bool → ℕ → Act N → Judged ℕ
  typing_act s post n (AtAlias v a change) = typing_at s post v a change >> Ok n
  typing_act s post n (AtGlobal a change) = typing_global s post a change >> Ok n
  typing_act s post n (Choose choices) = typing_choices s post n choices

  pub typing_choices : {N : Type 0} → Scope N → Bool → ℕ → Choices N → Judged ℕ
  typing_choices s post n (otherwise acts) = typing_acts s post n acts
  typing_choices s post n (when t acts rest) = condition (names_at s (place_of post)) t >> typing_acts s post n acts >>= λ m. typing_choices s post m rest

-- a statement of POST-ACCUM, with everything nested in it, names at most one vertex alias
abbrev pub names_one : {N : Type 0} → Scope N → Option N → Option N → Act N → Bool
names_one s source target a = not (in_act (is_alias s.setting.words.same source) a && in_act (is_alias s.setting.words.same target) a)

abbrev pub typing_post : {N : Type 0} → Scope N → Option N → Option N → ℕ → Acts N → Judged ℕ
typing_post s source target n no_act = Ok n
typing_post s source target n (act_and a acts) = one_more n >>= λ m. typing_act s true m a >>= λ k. unless TwoAliases (names_one s source target a) >> typing_post s source target k acts
