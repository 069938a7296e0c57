-- RenamedBlocks: the same inputs, acts, patterns and SELECTs with other names.
use Rattle.std.specs.Prelude.{map}
use Rattle.std.specs.Option.{option_map}
use Rattle.gq_rules_typing.specs.Selecting.{Input, Plain, Keys, Inputs, no_input, input_and, Change, Adds, Puts, Act, AtAlias, AtGlobal, Choose, Acts, no_act, act_and, Choices, otherwise, when, Types, Every, These, Hop, Step, Walk, Nowhere, OneHop, Path, Select}
use Rattle.gq_plan_ir.specs.Renamed.{Renaming, renamed, renamed_trees}
use Rattle.gq_plan_ir.specs.Naming.{Naming}

abbrev mutual
  pub renamed_input : {M N : Type 0} → Renaming M N → Input M → Input N
  renamed_input r (Plain t) = Plain (renamed r t)
  renamed_input r (Keys ts xs) = Keys (renamed_trees r ts) (renamed_inputs r xs)

  pub renamed_inputs : {M N : Type 0} → Renaming M N → Inputs M → Inputs N
  renamed_inputs r no_input = no_input
  renamed_inputs r (input_and x xs) = input_and (renamed_input r x) (renamed_inputs r xs)

abbrev pub renamed_change : {M N : Type 0} → Renaming M N → Change M → Change N
renamed_change r (Adds x) = Adds (renamed_input r x)
renamed_change r (Puts t) = Puts (renamed r t)

abbrev mutual
  pub renamed_act : {M N : Type 0} → Renaming M N → Act M → Act N
  renamed_act r (AtAlias v a change) = AtAlias (r.name v) (r.accum a) (renamed_change r change)
  renamed_act r (AtGlobal a change) = AtGlobal (r.accum a) (renamed_change r change)
  renamed_act r (Choose choices) = Choose (renamed_choices r choices)

  pub renamed_acts : {M N : Type 0} → Renaming M N → Acts M → Acts N
  renamed_acts r no_act = no_act
  renamed_acts r (act_and a acts) = act_and (renamed_act r a) (renamed_acts r acts)

  pub renamed_choices : {M N : Type 0} → Renaming M N → Choices M → Choices N
  renamed_choices r (otherwise acts) = otherwise (renamed_acts r acts)
  renamed_choices r (when t acts rest) = when (renamed r t) (renamed_acts r acts) (renamed_choices r rest)

-- ---- patterns

abbrev pub renamed_types : {M N : Type 0} → (M → N) → Types M → Types N
renamed_types f Every = Every
renamed_types f (These ns) = These (map f ns)

abbrev pub renamed_hop : {M N : Type 0} → Naming M N → Hop M → Hop N
renamed_hop n h = record {
  edges = renamed_types n.edge_type h.edges;
  edge_alias = option_map n.inside.name h.edge_alias;
  targets = renamed_types n.vertex_type h.targets;
  target_alias = option_map n.inside.name h.target_alias;
}

abbrev pub renamed_step : {M N : Type 0} → Naming M N → Step M → Step N
renamed_step n s = record {
  ways = map (λ w. (w.0, n.edge_type w.1)) s.ways;
  edge_alias = option_map n.inside.name s.edge_alias;
  targets = renamed_types n.vertex_type s.targets;
  target_alias = option_map n.inside.name s.target_alias;
}

abbrev pub renamed_walk : {M N : Type 0} → Naming M N → Walk M → Walk N
renamed_walk n Nowhere = Nowhere
renamed_walk n (OneHop h) = OneHop (renamed_hop n h)
renamed_walk n (Path steps) = Path (map (renamed_step n) steps)

-- ---- SELECT

abbrev pub renamed_select : {M N : Type 0} → Naming M N → Select M → Select N
renamed_select n q = record {
  selected = n.inside.name q.selected;
  source = n.source q.source;
  alias = option_map n.inside.name q.alias;
  walk = renamed_walk n q.walk;
  filter = option_map (renamed n.inside) q.filter;
  accum = renamed_acts n.inside q.accum;
  post = renamed_acts n.inside q.post;
  having = option_map (renamed n.inside) q.having;
  order = map (λ key. (renamed n.inside key.0, key.1)) q.order;
  limit = option_map (renamed n.inside) q.limit;
}
