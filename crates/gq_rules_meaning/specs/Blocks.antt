-- Blocks: WHERE and ACCUM: the contributions of each match, all contributions together, and the first fault.
-- In the code threads gather the inputs of chunks, which are then fed in order; here all inputs of a block are one list.
use Rattle.std.specs.Prelude.{ℕ, suc, Bool, true, false, ◌&&◌, if◌then◌else◌, ◌==◌, List, [], ◌∷◌, ◌++◌, map, filter_map, Option, Some, None}
use Rattle.std.specs.List.{flat_map, list_all}
use Rattle.gq_rules_typing.specs.Tree.{Tree}
use Rattle.gq_value.specs.declared.value.Wrong.{Wrong}
use Rattle.gq_graph.specs.declared.rows.Candidate.{Candidate}
use Rattle.gq_value.specs.Accums.{Accum, Given, One, Keyed, Givens, no_given, given_and}
use Rattle.gq_rules_typing.specs.Holds.{Holds}
use Rattle.gq_rules_typing.specs.After.{after}
use Rattle.gq_rules_typing.specs.Fits.{fits}
use Rattle.gq_rules_typing.specs.Selecting.{Input, Plain, Keys, Inputs, no_input, input_and, Change, Adds, Puts, Act, AtAlias, AtGlobal, Choose, Acts, no_act, act_and, Choices, otherwise, when, Select}
use Rattle.gq_rules_typing.specs.Kinds.{input_type, key_types, part_kinds}
use Rattle.gq_rules_typing.specs.Patterns.{by_number}
use Rattle.gq_rules_meaning.specs.Answers.{Answer, Gives, Faults, Stuck, ◌>>=◌, blaming, found}
use Rattle.gq_rules_meaning.specs.Meanings.{vertex_of_meant}
use Rattle.gq_rules_meaning.specs.Expressions.{World, Look, arguments, value_as, truth_of}
use Rattle.gq_rules_meaning.specs.States.{Slot, State, slot_number, slot_named, sight}
use Rattle.gq_rules_meaning.specs.Sources.{From, from, candidates_of, with_candidate}

-- an expression's fault with its place, or a sum out of range with its accumulator's number
pub data BlockFault : Type 0 where
  AtPlace : ℕ → Wrong → BlockFault
  SumRange : ℕ → BlockFault

-- an input to an accumulator, by its number, at a vertex; a global one is at 0
pub record Contribution : Type 0 where
  pub slot : ℕ
  pub vertex : ℕ
  pub input : Given

-- ---- inputs

abbrev mutual
  -- an input, converted to the type that the kind takes
  pub input_of : {N : Type 0} → Look N → Accum → Input N → Answer Wrong Given
  input_of look k (Plain t) = found (input_type k) >>= λ b. value_as look b t >>= λ v. Gives (One v)
  input_of look k (Keys ts xs) = arguments look (map Some (key_types k)) ts >>= λ vs. inputs_of look (part_kinds k) xs >>= λ ys. Gives (Keyed vs ys)

  pub inputs_of : {N : Type 0} → Look N → List Accum → Inputs N → Answer Wrong Givens
  inputs_of look [] no_input = Gives no_given
  inputs_of look (k ∷ ks) (input_and x xs) = input_of look k x >>= λ y. inputs_of look ks xs >>= λ ys. Gives (given_and y ys)
  inputs_of look _ _ = Stuck

-- ---- ACCUM

-- the vertex that a name denotes
abbrev pub vertex_named : {N : Type 0} → Look N → N → Answer Wrong ℕ
vertex_named look v = look.named v >>= vertex_of_meant

abbrev pub contributed : {N : Type 0} → Look N → List (Slot N) → N → ℕ → Change N → Answer Wrong (List Contribution)
contributed look slots a v (Puts t) = Stuck
contributed look slots a v (Adds x) = found (slot_number look.world slots a) >>= λ n. found (slot_named look.world slots a) >>= λ s. input_of look s.kind x >>= λ y. Gives (record { slot = n; vertex = v; input = y } ∷ [])

abbrev mutual
  -- the contributions of one match, in order of text
  pub contributions : {N : Type 0} → Look N → List (Slot N) → Acts N → Answer Wrong (List Contribution)
  contributions look slots no_act = Gives []
  contributions look slots (act_and a acts) = of_act look slots a >>= λ xs. contributions look slots acts >>= λ ys. Gives (xs ++ ys)

  pub of_act : {N : Type 0} → Look N → List (Slot N) → Act N → Answer Wrong (List Contribution)
  of_act look slots (AtAlias v a change) = vertex_named look v >>= λ n. contributed look slots a n change
  of_act look slots (AtGlobal a change) = contributed look slots a 0 change
  of_act look slots (Choose choices) = of_choices look slots choices

  pub of_choices : {N : Type 0} → Look N → List (Slot N) → Choices N → Answer Wrong (List Contribution)
  of_choices look slots (otherwise acts) = contributions look slots acts
  of_choices look slots (when t acts rest) = truth_of look t >>= elim [ true ↦ contributions look slots acts | false ↦ of_choices look slots rest ]

-- ---- matches

-- a match with its contributions
pub record Match : Type 0 where
  pub candidate : Candidate
  pub gives : List Contribution

-- without WHERE every candidate passes
abbrev pub passes : {N : Type 0} → Look N → Option (Tree N) → Answer Wrong Bool
passes look None = Gives true
passes look (Some t) = truth_of look t

-- a candidate is a match if it passes WHERE
abbrev pub match_of : {N : Type 0} → Select N → List (Slot N) → Candidate → Look N → Answer Wrong (List Match)
match_of q slots c look = passes look q.filter >>= elim [ true ↦ contributions look slots q.accum >>= λ xs. Gives (record { candidate = c; gives = xs } ∷ []) | false ↦ Gives [] ]

-- a candidate sees its own names, and the accumulators from before the block
abbrev pub look_at : {N : Type 0} → World N → State N → From N → Candidate → Look N
look_at world s f c = sight world (with_candidate f c s.names) s.slots s.slots

-- the matches among candidates that are numbered from n on; the first fault counts
abbrev pub matches : {N : Type 0} → World N → State N → Select N → From N → ℕ → List Candidate → Answer BlockFault (List Match)
matches world s q f n [] = Gives []
matches world s q f n (c ∷ cs) = blaming (AtPlace n) (match_of q s.slots c (look_at world s f c)) >>= λ m. matches world s q f (suc n) cs >>= λ ms. Gives (m ++ ms)

-- ---- all contributions together

abbrev pub inputs_to : ℕ → ℕ → List Contribution → List Given
inputs_to n v [] = []
inputs_to n v (x ∷ xs) = if (x.slot == n) && (x.vertex == v) then x.input ∷ inputs_to n v xs else inputs_to n v xs

-- the contents from vertex v on, each after all of its own inputs
abbrev pub contents_after : (k : Accum) → ℕ → List Contribution → ℕ → List (Holds k) → List (Holds k)
contents_after k n xs v [] = []
contents_after k n xs v (c ∷ cs) = after k c (inputs_to n v xs) ∷ contents_after k n xs (suc v) cs

-- the accumulators from number n on
abbrev pub slots_after : {N : Type 0} → List Contribution → ℕ → List (Slot N) → List (Slot N)
slots_after xs n [] = []
slots_after xs n (s ∷ ss) = (record s { contents = contents_after s.kind n xs 0 s.contents }) ∷ slots_after xs (suc n) ss

-- the first accumulator, from number n on, with a content that doesn't fit
abbrev pub first_unfit : {N : Type 0} → ℕ → List (Slot N) → Option ℕ
first_unfit n [] = None
first_unfit n (s ∷ ss) = if list_all (fits s.kind) s.contents then first_unfit (suc n) ss else Some n

abbrev pub unless_unfit : {A : Type 0} → Option ℕ → A → Answer BlockFault A
unless_unfit None a = Gives a
unless_unfit (Some n) a = Faults (SumRange n)

-- the accumulators after all these inputs, if every content fits
abbrev pub fed_together : {N : Type 0} → List Contribution → List (Slot N) → Answer BlockFault (List (Slot N))
fed_together xs slots = unless_unfit (first_unfit 0 (slots_after xs 0 slots)) (slots_after xs 0 slots)

-- ---- the block

-- the accumulators, and the distinct matched vertices, by number
pub record After (N : Type 0) : Type 0 where
  pub slots : List (Slot N)
  pub sources : List ℕ
  pub targets : List ℕ

abbrev pub after_matches : {N : Type 0} → List (Slot N) → List Match → Answer BlockFault (After N)
after_matches slots ms =
    fed_together (flat_map (λ (m : Match). m.gives) ms) slots >>= λ fed.
    Gives (record { slots = fed; sources = by_number (map (λ (m : Match). m.candidate.source) ms); targets = by_number (filter_map (λ (m : Match). m.candidate.target) ms) })

abbrev pub accumulated : {N : Type 0} → World N → State N → Select N → Answer BlockFault (After N)
accumulated world s q = matches world s q (from world s.names q) 0 (candidates_of world (from world s.names q).start q.walk) >>= after_matches s.slots
