-- Posts: POST-ACCUM, in phases of statements that name one alias, each once for every distinct matched vertex.
-- The code processes the vertices of a phase on many threads.
use Rattle.std.specs.Prelude.{ℕ, Bool, true, false, not, if◌then◌else◌, List, [], ◌∷◌, ◌++◌}
use Rattle.gq_rules_typing.specs.Selecting.{Change, Act, AtAlias, AtGlobal, Choose, Acts, no_act, act_and, Choices, otherwise, when, Select}
use Rattle.gq_rules_typing.specs.Patterns.{is_alias}
use Rattle.gq_rules_typing.specs.Mentions.{in_act}
use Rattle.gq_rules_meaning.specs.Answers.{Answer, Gives, ◌>>=◌, blaming, through}
use Rattle.gq_rules_meaning.specs.Expressions.{World, Look, truth_of}
use Rattle.gq_rules_meaning.specs.States.{Thing, Slot, State, sight}
use Rattle.gq_rules_meaning.specs.Sources.{From, from, selects_target, with_vertex}
use Rattle.gq_rules_meaning.specs.Blocks.{BlockFault, AtPlace, SumRange, Contribution, After, contributed, fed_together}
use Rattle.gq_rules_meaning.specs.Writes.{WriteFault, Wrongly, TooBig, slots_changed}

-- ---- which end a statement is for: true is the target

-- one that names no alias is for the selected one
abbrev pub for_target : {N : Type 0} → World N → Select N → From N → Act N → Bool
for_target world q f a = if in_act (is_alias world.words.same f.target) a then true else (if in_act (is_alias world.words.same f.source) a then false else selects_target world q)

abbrev pub same_end : Bool → Bool → Bool
same_end true b = b
same_end false b = not b

-- one more statement in front
abbrev pub before_phases : {N : Type 0} → Bool → Act N → List (Bool × Acts N) → List (Bool × Acts N)
before_phases end a [] = (end, act_and a no_act) ∷ []
before_phases end a (p ∷ ps) = if same_end end p.0 then (end, act_and a p.1) ∷ ps else (end, act_and a no_act) ∷ p ∷ ps

-- maximal runs of statements for one end
abbrev pub phases : {N : Type 0} → (Act N → Bool) → Acts N → List (Bool × Acts N)
phases end no_act = []
phases end (act_and a acts) = before_phases (end a) a (phases end acts)

-- ---- one vertex of a phase

-- the accumulators with the vertex's own writes, and the inputs to global ones so far
pub record Written (N : Type 0) : Type 0 where
  pub slots : List (Slot N)
  pub to_globals : List Contribution

-- what the statements of a phase see: its alias, the vertex's own writes, and the accumulators from before ACCUM
pub record Post (N : Type 0) : Type 0 where
  pub world : World N
  pub names : List (N × Thing)
  pub before : List (Slot N)
  pub vertex : ℕ

abbrev pub post_look : {N : Type 0} → Post N → Written N → Look N
post_look p w = sight p.world p.names w.slots p.before

-- a write that faults has the vertex as its place
abbrev pub at_vertex : ℕ → WriteFault → BlockFault
at_vertex v (Wrongly w) = AtPlace v w
at_vertex v (TooBig n) = SumRange n

-- a write to an attached accumulator is seen at once, and judged at once
abbrev pub write : {N : Type 0} → Post N → N → Change N → Written N → Answer BlockFault (Written N)
write p a change w = blaming (at_vertex p.vertex) (slots_changed (post_look p w) w.slots a p.vertex change) >>= λ slots. Gives (record w { slots = slots })

-- an input to a global one is deferred to the end of the phase
abbrev pub feed : {N : Type 0} → Post N → N → Change N → Written N → Answer BlockFault (Written N)
feed p a change w = blaming (AtPlace p.vertex) (contributed (post_look p w) w.slots a 0 change) >>= λ xs. Gives (record w { to_globals = w.to_globals ++ xs })

abbrev mutual
  pub post_acts : {N : Type 0} → Post N → Acts N → Written N → Answer BlockFault (Written N)
  post_acts p no_act w = Gives w
  post_acts p (act_and a acts) w = post_act p a w >>= post_acts p acts

  pub post_act : {N : Type 0} → Post N → Act N → Written N → Answer BlockFault (Written N)
  post_act p (AtAlias x a change) w = write p a change w
  post_act p (AtGlobal a change) w = feed p a change w
  post_act p (Choose choices) w = post_choices p choices w

  pub post_choices : {N : Type 0} → Post N → Choices N → Written N → Answer BlockFault (Written N)
  post_choices p (otherwise acts) w = post_acts p acts w
  post_choices p (when t acts rest) w = blaming (AtPlace p.vertex) (truth_of (post_look p w) t) >>= elim [ true ↦ post_acts p acts w | false ↦ post_choices p rest w ]

-- ---- all phases

abbrev pub matched : {N : Type 0} → After N → Bool → List ℕ
matched a true = a.targets
matched a false = a.sources

abbrev pub post_of : {N : Type 0} → World N → State N → From N → Bool → ℕ → Post N
post_of world s f end v = record { world = world; names = with_vertex f end v s.names; before = s.slots; vertex = v }

-- vertex by vertex in order of number; then the global accumulators get their inputs, all at once
abbrev pub phase : {N : Type 0} → World N → State N → From N → After N → Bool × Acts N → Answer BlockFault (After N)
phase world s f a p =
    through (λ w v. post_acts (post_of world s f p.0 v) p.1 w) (record { slots = a.slots; to_globals = [] }) (matched a p.0) >>= λ w.
    fed_together w.to_globals w.slots >>= λ slots. Gives (record a { slots = slots })

-- the first phase that faults counts
abbrev pub posted : {N : Type 0} → World N → State N → Select N → After N → Answer BlockFault (After N)
posted world s q a = through (phase world s (from world s.names q)) a (phases (for_target world q (from world s.names q)) q.post)
