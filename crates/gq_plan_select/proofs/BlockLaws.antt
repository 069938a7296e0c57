-- BlockLaws: the blocks of a plan are those of the query with references in place of names.
use Rattle.std.proofs.Common.{◌≡◌, ℕ, Bool, true, false, List, [], ◌∷◌, map, Option, Some, None, refl, sym, ap, ◌∙◌}
use Rattle.std.specs.Prelude.{if◌then◌else◌}
use Rattle.std.specs.Option.{option_map}
use Rattle.gq_tree.specs.Tree.{Tree, Trees, no_tree, tree}
use Rattle.gq_tree.specs.declared.select.Way.{Way}
use Rattle.gq_rules_typing.specs.Statements.{Bytes}
use Rattle.gq_rules_typing.specs.Selecting as plain
use Rattle.gq_rules_typing.specs.Selecting.{Input, Inputs, no_input, input_and, Acts, no_act, act_and, Choices, otherwise, when}
use Rattle.gq_rules_typing.specs.SelectViews.{inputs_of, acts_of, acts_or_none}
use Rattle.gq_plan_ir.specs.declared.expr.Expr.{Expr}
use Rattle.gq_plan_ir.specs.declared.block.Feed.{Feed}
use Rattle.gq_plan_ir.specs.declared.block.Feed.TheVariants as feed
use Rattle.gq_plan_ir.specs.declared.block.Change.{Change}
use Rattle.gq_plan_ir.specs.declared.block.Change.TheVariants as change
use Rattle.gq_plan_ir.specs.declared.block.Act.{Act}
use Rattle.gq_plan_ir.specs.declared.block.Act.TheVariants as act
use Rattle.gq_plan_ir.specs.declared.block.Types.{Types}
use Rattle.gq_plan_ir.specs.declared.block.Types.TheVariants as types
use Rattle.gq_plan_ir.specs.declared.block.Hop.{Hop}
use Rattle.gq_plan_ir.specs.declared.block.PathStep.{PathStep}
use Rattle.gq_plan_ir.specs.declared.block.Walk.{Walk}
use Rattle.gq_plan_ir.specs.declared.block.Walk.TheVariants as walk
use Rattle.gq_plan_ir.specs.declared.block.SelectSource.{SelectSource}
use Rattle.gq_plan_ir.specs.declared.block.SelectSource.TheVariants as source
use Rattle.gq_plan_ir.specs.declared.block.Block.{Block}
use Rattle.gq_plan_ir.specs.Reference.{Reference, Place, Slot, VertexType, EdgeType}
use Rattle.gq_plan_ir.specs.ExprView.{view, views}
use Rattle.gq_plan_ir.specs.BlockView.{view_feed, view_change, view_act, view_acts, view_types, view_hop, view_path_step, view_walk, view_source, view_block}
use Rattle.gq_plan_ir.specs.Renamed.{Renaming, renamed, renamed_trees}
use Rattle.gq_plan_ir.proofs.ViewLaws.{view_feed-One, view_feed-Keyed, view_act-Attached, view_act-Global, view_act-If, view_choices}
use Rattle.gq_plan_ir.specs.Naming.{Naming}
use Rattle.gq_plan_ir.specs.RenamedBlocks.{renamed_input, renamed_inputs, renamed_change, renamed_act, renamed_acts, renamed_choices, renamed_types, renamed_hop, renamed_step, renamed_walk, renamed_select}
use Rattle.gq_plan_expr.specs.Known.{Known, or_nothing, references}
use Rattle.gq_plan_expr.specs.Resolved.{◌>>=◌, resolved, resolved_all}
use Rattle.gq_plan_expr.proofs.PlanLaws.{then_some, some_inj, planned}
use Rattle.gq_plan_expr.specs.Globals.{Sees}
use Rattle.gq_plan_select.specs.References.{naming_of, source_reference, vertex_reference, edge_reference}
use Rattle.gq_plan_select.specs.declared.selects.Walked.{Walked}
use Rattle.gq_plan_select.specs.declared.selects.Clauses.{Clauses}
use Rattle.gq_plan_select.specs.declared.selects.Tail.{Tail}
use Rattle.gq_plan_select.specs.Resolved.{if_there, each_resolved, resolved_input, resolved_inputs, resolved_change, Branches, else_of, if_of, branch_and, resolved_act, resolved_acts, resolved_choices, resolved_types, resolved_hop, resolved_way, resolved_step, resolved_walk, resolved_source, resolved_key, resolved_from, resolved_clauses, resolved_tail, block_of, resolved_select}
use Rattle.gq_plan_select.specs.Laws.{ChangeLaw, BlockLaw}

pub two : {A B C : Type 0} (f : A → B → C) (a c : A) (b d : B) → a ≡ c → b ≡ d → f a b ≡ f c d
two f a c b d e g = ap (λ x. f x b) e ∙ ap (f c) g

pub three : {A B C D : Type 0} (f : A → B → C → D) (a a' : A) (b b' : B) (c c' : C) → a ≡ a' → b ≡ b' → c ≡ c' → f a b c ≡ f a' b' c'
three f a a' b b' c c' e g h = ap (λ x. f x b c) e ∙ two (f a') b b' c c' g h

-- optional parts, and lists
pub there_planned : {A B C : Type 0} (f : A → Option B) (v : B → C) (g : A → C) → ((a : A) (b : B) → f a ≡ Some b → v b ≡ g a) → (o : Option A) (p : Option B) → if_there f o ≡ Some p → option_map v p ≡ option_map g o
there_planned f v g all None p h = ap (option_map v) (sym (some_inj h))
there_planned f v g all (Some a) p h = let u = then_some (f a) _ p h in ap (option_map v) (sym (some_inj u.2)) ∙ ap Some (all a u.0 u.1)

pub each_planned : {A B C : Type 0} (f : A → Option B) (v : B → C) (g : A → C) → ((a : A) (b : B) → f a ≡ Some b → v b ≡ g a) → (as' : List A) (bs : List B) → each_resolved f as' ≡ Some bs → map v bs ≡ map g as'
each_planned f v g all [] bs h = ap (map v) (sym (some_inj h))
each_planned f v g all (a ∷ rest) bs h =
    let u = then_some (f a) _ bs h in
    let w = then_some (each_resolved f rest) _ bs u.2 in
    ap (map v) (sym (some_inj w.2)) ∙ two (λ x xs. x ∷ xs) (v u.0) (g a) (map v w.0) (map g rest) (all a u.0 u.1) (each_planned f v g all rest w.0 w.1)

-- if a name is found, the reference is what was found
pub found_is : {A : Type 0} (f : A → Reference) (o : Option A) (a : A) → o ≡ Some a → f a ≡ or_nothing f o
found_is f o a h = sym (ap (or_nothing f) h)

module _ (k : Known) where
  abbrev r : Renaming Bytes Reference
  r = references k

  trees_planned : (ts : Trees Bytes) (es : List Expr) → resolved_all k ts ≡ Some es → views es ≡ renamed_trees r ts
  trees_planned no_tree es h = ap views (sym (some_inj h))
  trees_planned (tree t ts) es h =
      let u = then_some (resolved k t) _ es h in
      let v = then_some (resolved_all k ts) _ es u.2 in
      ap views (sym (some_inj v.2)) ∙ two tree (view u.0) (renamed r t) (views v.0) (renamed_trees r ts) (planned k t u.0 u.1) (trees_planned ts v.0 v.1)

  -- ---- inputs

  mutual
    input_planned : (x : Input Bytes) (f : Feed) → resolved_input k x ≡ Some f → view_feed f ≡ renamed_input r x
    input_planned (plain.Plain t) f h =
        let u = then_some (resolved k t) _ f h in ap view_feed (sym (some_inj u.2)) ∙ (view_feed-One u.0 ∙ ap plain.Plain (planned k t u.0 u.1))
    input_planned (plain.Keys ts xs) f h =
        let u = then_some (resolved_all k ts) _ f h in
        let v = then_some (resolved_inputs k xs) _ f u.2 in
        ap view_feed (sym (some_inj v.2)) ∙ (view_feed-Keyed u.0 v.0 ∙ two plain.Keys (views u.0) (renamed_trees r ts) (inputs_of (map view_feed v.0)) (renamed_inputs r xs) (trees_planned ts u.0 u.1) (inputs_planned xs v.0 v.1))

    inputs_planned : (xs : Inputs Bytes) (fs : List Feed) → resolved_inputs k xs ≡ Some fs → inputs_of (map view_feed fs) ≡ renamed_inputs r xs
    inputs_planned no_input fs h = ap (λ l. inputs_of (map view_feed l)) (sym (some_inj h))
    inputs_planned (input_and x xs) fs h =
        let u = then_some (resolved_input k x) _ fs h in
        let v = then_some (resolved_inputs k xs) _ fs u.2 in
        ap (λ l. inputs_of (map view_feed l)) (sym (some_inj v.2)) ∙ two input_and (view_feed u.0) (renamed_input r x) (inputs_of (map view_feed v.0)) (renamed_inputs r xs) (input_planned x u.0 u.1) (inputs_planned xs v.0 v.1)

  pub change_planned : (c : plain.Change Bytes) (d : Change) → resolved_change k c ≡ Some d → view_change d ≡ renamed_change r c
  change_planned (plain.Adds x) d h = let u = then_some (resolved_input k x) _ d h in ap view_change (sym (some_inj u.2)) ∙ ap plain.Adds (input_planned x u.0 u.1)
  change_planned (plain.Puts t) d h = let u = then_some (resolved k t) _ d h in ap view_change (sym (some_inj u.2)) ∙ ap plain.Puts (planned k t u.0 u.1)

  -- ---- acts

  else_planned : (acts : Acts Bytes) → ((as' : List Act) → resolved_acts k acts ≡ Some as' → view_acts as' ≡ renamed_acts r acts) → (others : Option (List Act)) → else_of acts (resolved_acts k acts) ≡ Some others
      → acts_or_none (option_map (map view_act) others) ≡ renamed_acts r acts
  else_planned no_act all others h = ap (λ o. acts_or_none (option_map (map view_act) o)) (sym (some_inj h))
  else_planned (act_and a rest) all others h =
      let u = then_some (resolved_acts k (act_and a rest)) _ others h in
      ap (λ o. acts_or_none (option_map (map view_act) o)) (sym (some_inj u.2)) ∙ all u.0 u.1

  mutual
    act_planned : (a : plain.Act Bytes) (b : Act) → resolved_act k a ≡ Some b → view_act b ≡ renamed_act r a
    act_planned (plain.AtAlias v a c) b h =
        let u = then_some (k.place v) _ b h in
        let w = then_some (k.slot a) _ b u.2 in
        let x = then_some (resolved_change k c) _ b w.2 in
        ap view_act (sym (some_inj x.2)) ∙ (view_act-Attached u.0 w.0 x.0 ∙ three plain.AtAlias (Place u.0) (r.name v) (Slot w.0) (r.accum a) (view_change x.0) (renamed_change r c) (found_is Place (k.place v) u.0 u.1) (found_is Slot (k.slot a) w.0 w.1) (change_planned c x.0 x.1))
    act_planned (plain.AtGlobal a c) b h =
        let w = then_some (k.slot a) _ b h in
        let x = then_some (resolved_change k c) _ b w.2 in
        ap view_act (sym (some_inj x.2)) ∙ (view_act-Global w.0 x.0 ∙ two plain.AtGlobal (Slot w.0) (r.accum a) (view_change x.0) (renamed_change r c) (found_is Slot (k.slot a) w.0 w.1) (change_planned c x.0 x.1))
    act_planned (plain.Choose choices) b h =
        let u = then_some (resolved_choices k choices) _ b h in
        ap view_act (sym (some_inj u.2)) ∙ (view_act-If u.0.0 u.0.1 ∙ ap plain.Choose (choices_planned choices u.0 u.1))

    acts_planned : (acts : Acts Bytes) (as' : List Act) → resolved_acts k acts ≡ Some as' → view_acts as' ≡ renamed_acts r acts
    acts_planned no_act as' h = ap view_acts (sym (some_inj h))
    acts_planned (act_and a rest) as' h =
        let u = then_some (resolved_act k a) _ as' h in
        let v = then_some (resolved_acts k rest) _ as' u.2 in
        ap view_acts (sym (some_inj v.2)) ∙ two act_and (view_act u.0) (renamed_act r a) (view_acts v.0) (renamed_acts r rest) (act_planned a u.0 u.1) (acts_planned rest v.0 v.1)

    choices_planned : (choices : Choices Bytes) (b : Branches) → resolved_choices k choices ≡ Some b → view_choices b.0 b.1 ≡ renamed_choices r choices
    choices_planned (otherwise acts) b h =
        let u = then_some (else_of acts (resolved_acts k acts)) _ b h in
        ap {A = Branches} (λ c. view_choices c.0 c.1) (sym (some_inj u.2)) ∙ ap otherwise (else_planned acts (acts_planned acts) u.0 u.1)
    choices_planned (when t acts rest) b h =
        let u = then_some (resolved k t) _ b h in
        let v = then_some (resolved_acts k acts) _ b u.2 in
        let w = then_some (resolved_choices k rest) _ b v.2 in
        ap {A = Branches} (λ c. view_choices c.0 c.1) (sym (some_inj w.2))
        ∙ three when (view u.0) (renamed r t) (view_acts v.0) (renamed_acts r acts) (view_choices w.0.0 w.0.1) (renamed_choices r rest) (planned k t u.0 u.1) (acts_planned acts v.0 v.1) (choices_planned rest w.0 w.1)

  -- ---- optional expressions, and keys

  pub if_planned : (t : Option (Tree Bytes)) (e : Option Expr) → if_there (resolved k) t ≡ Some e → option_map view e ≡ option_map (renamed r) t
  if_planned t e h = there_planned (resolved k) view (renamed r) (planned k) t e h

  abbrev a_key : Tree Reference → Bool → Tree Reference × Bool
  a_key t b = (t, b)

  alias_planned : (x : Option Bytes) (n : Option ℕ) → if_there k.place x ≡ Some n → option_map Place n ≡ option_map r.name x
  alias_planned x n h = there_planned k.place Place r.name (λ y m e. found_is Place (k.place y) m e) x n h

  key_planned : (key : Tree Bytes × Bool) (e : Expr × Bool) → resolved_key k key ≡ Some e → ◌≡◌ {A = Tree Reference × Bool} (view e.0, e.1) (renamed r key.0, key.1)
  key_planned key e h =
      let u = then_some (resolved k key.0) _ e h in
      ap {A = Expr × Bool} {B = Tree Reference × Bool} (λ d. (view d.0, d.1)) (sym (some_inj u.2)) ∙ ap {B = Tree Reference × Bool} (λ d. (d, key.1)) (planned k key.0 u.0 u.1)

  module _ (s : Sees) where
    abbrev n : Naming Bytes Reference
    n = naming_of k s

    -- ---- patterns

    types_planned : (f : Bytes → Option ℕ) (g : ℕ → Reference) (ts : plain.Types Bytes) (us : Types) → resolved_types f ts ≡ Some us → view_types g us ≡ renamed_types (λ x. or_nothing g (f x)) ts
    types_planned f g plain.Every us h = ap (view_types g) (sym (some_inj h))
    types_planned f g (plain.These names) us h =
        let u = then_some (each_resolved f names) _ us h in
        ap (view_types g) (sym (some_inj u.2)) ∙ ap plain.These (each_planned f g (λ x. or_nothing g (f x)) (λ x t e. found_is g (f x) t e) names u.0 u.1)

    abbrev a_hop : plain.Types Reference → Option Reference → plain.Types Reference → Option Reference → plain.Hop Reference
    a_hop e a t b = record { edges = e; edge_alias = a; targets = t; target_alias = b }

    hop_planned : (h : plain.Hop Bytes) (g : Hop) → resolved_hop k s h ≡ Some g → view_hop g ≡ renamed_hop n h
    hop_planned h g e =
        let u = then_some (resolved_types s.edge_type h.edges) _ g e in
        let v = then_some (if_there k.place h.edge_alias) _ g u.2 in
        let w = then_some (resolved_types s.vertex_type h.targets) _ g v.2 in
        let x = then_some (if_there k.place h.target_alias) _ g w.2 in
        ap view_hop (sym (some_inj x.2))
        ∙ (two (λ a b. a_hop a b (view_types VertexType w.0) (option_map Place x.0)) (view_types EdgeType u.0) (renamed_types n.edge_type h.edges) (option_map Place v.0) (option_map r.name h.edge_alias) (types_planned s.edge_type EdgeType h.edges u.0 u.1) (alias_planned h.edge_alias v.0 v.1)
        ∙ two (λ a b. a_hop (renamed_types n.edge_type h.edges) (option_map r.name h.edge_alias) a b) (view_types VertexType w.0) (renamed_types n.vertex_type h.targets) (option_map Place x.0) (option_map r.name h.target_alias) (types_planned s.vertex_type VertexType h.targets w.0 w.1) (alias_planned h.target_alias x.0 x.1))

    way_planned : (w : Way × Bytes) (d : Way × ℕ) → resolved_way s w ≡ Some d → ◌≡◌ {A = Way × Reference} (d.0, EdgeType d.1) (w.0, n.edge_type w.1)
    way_planned w d h =
        let u = then_some (s.edge_type w.1) _ d h in
        ap {A = Way × ℕ} {B = Way × Reference} (λ d. (d.0, EdgeType d.1)) (sym (some_inj u.2)) ∙ ap {B = Way × Reference} (λ x. (w.0, x)) (found_is EdgeType (s.edge_type w.1) u.0 u.1)

    abbrev a_step : List (Way × Reference) → Option Reference → plain.Types Reference → Option Reference → plain.Step Reference
    a_step e a t b = record { ways = e; edge_alias = a; targets = t; target_alias = b }

    step_planned : (h : plain.Step Bytes) (g : PathStep) → resolved_step k s h ≡ Some g → view_path_step g ≡ renamed_step n h
    step_planned h g e =
        let u = then_some (each_resolved (resolved_way s) h.ways) _ g e in
        let v = then_some (if_there k.place h.edge_alias) _ g u.2 in
        let w = then_some (resolved_types s.vertex_type h.targets) _ g v.2 in
        let x = then_some (if_there k.place h.target_alias) _ g w.2 in
        ap view_path_step (sym (some_inj x.2))
        ∙ (two (λ a b. a_step a b (view_types VertexType w.0) (option_map Place x.0)) (map {A = Way × ℕ} {B = Way × Reference} (λ d. (d.0, EdgeType d.1)) u.0) (map {A = Way × Bytes} {B = Way × Reference} (λ d. (d.0, n.edge_type d.1)) h.ways) (option_map Place v.0) (option_map r.name h.edge_alias)
        (each_planned (resolved_way s) (λ d. (d.0, EdgeType d.1)) (λ d. (d.0, n.edge_type d.1)) way_planned h.ways u.0 u.1) (alias_planned h.edge_alias v.0 v.1)
        ∙ two (λ a b. a_step (map {A = Way × Bytes} {B = Way × Reference} (λ d. (d.0, n.edge_type d.1)) h.ways) (option_map r.name h.edge_alias) a b) (view_types VertexType w.0) (renamed_types n.vertex_type h.targets) (option_map Place x.0) (option_map r.name h.target_alias) (types_planned s.vertex_type VertexType h.targets w.0 w.1) (alias_planned h.target_alias x.0 x.1))

    walk_planned : (w : plain.Walk Bytes) (v : Walk) → resolved_walk k s w ≡ Some v → view_walk v ≡ renamed_walk n w
    walk_planned plain.Nowhere v h = ap view_walk (sym (some_inj h))
    walk_planned (plain.OneHop hop) v h = let u = then_some (resolved_hop k s hop) _ v h in ap view_walk (sym (some_inj u.2)) ∙ ap plain.OneHop (hop_planned hop u.0 u.1)
    walk_planned (plain.Path steps) v h =
        let u = then_some (each_resolved (resolved_step k s) steps) _ v h in
        ap view_walk (sym (some_inj u.2)) ∙ ap plain.Path (each_planned (resolved_step k s) view_path_step (renamed_step n) step_planned steps u.0 u.1)

    -- ---- SELECT

    source_planned : (x : Bytes) (b : SelectSource) → resolved_source k s x ≡ Some b → view_source b ≡ n.source x
    source_planned x b h = go (s.is_set x) refl h
      where
        go : (q : Bool) → s.is_set x ≡ q → (if q then (k.place x >>= λ m. Some (source.Set m)) else (s.vertex_type x >>= λ t. Some (source.Type t))) ≡ Some b → view_source b ≡ source_reference k s x
        go true e g = let u = then_some (k.place x) _ b g in ap view_source (sym (some_inj u.2)) ∙ (found_is Place (k.place x) u.0 u.1 ∙ sym (ap (λ q. if q then r.name x else vertex_reference s x) e))
        go false e g = let u = then_some (s.vertex_type x) _ b g in ap view_source (sym (some_inj u.2)) ∙ (found_is VertexType (s.vertex_type x) u.0 u.1 ∙ sym (ap (λ q. if q then r.name x else vertex_reference s x) e))

    record FromIs (q : plain.Select Bytes) (w : Walked) : Type 0 where
      pub selected : Place w.selected ≡ r.name q.selected
      pub source : view_source w.source ≡ n.source q.source
      pub alias : option_map Place w.alias ≡ option_map r.name q.alias
      pub walk : view_walk w.walk ≡ renamed_walk n q.walk

    from_planned : (q : plain.Select Bytes) (w : Walked) → resolved_from k s q ≡ Some w → FromIs q w
    from_planned q w h =
        let a = then_some (k.place q.selected) _ w h in
        let b = then_some (resolved_source k s q.source) _ w a.2 in
        let c = then_some (if_there k.place q.alias) _ w b.2 in
        let d = then_some (resolved_walk k s q.walk) _ w c.2 in
        let e = some_inj d.2 in
        record {
          selected = ap (λ (x : Walked). Place x.selected) (sym e) ∙ found_is Place (k.place q.selected) a.0 a.1;
          source = ap (λ (x : Walked). view_source x.source) (sym e) ∙ source_planned q.source b.0 b.1;
          alias = ap (λ (x : Walked). option_map Place x.alias) (sym e) ∙ alias_planned q.alias c.0 c.1;
          walk = ap (λ (x : Walked). view_walk x.walk) (sym e) ∙ walk_planned q.walk d.0 d.1;
        }

    record ClausesAre (q : plain.Select Bytes) (c : Clauses) : Type 0 where
      pub filter : option_map view c.filter ≡ option_map (renamed r) q.filter
      pub accum : view_acts c.accum ≡ renamed_acts r q.accum
      pub post : view_acts c.post ≡ renamed_acts r q.post

    clauses_planned : (q : plain.Select Bytes) (c : Clauses) → resolved_clauses k q ≡ Some c → ClausesAre q c
    clauses_planned q w h =
        let a = then_some (if_there (resolved k) q.filter) _ w h in
        let b = then_some (resolved_acts k q.accum) _ w a.2 in
        let c = then_some (resolved_acts k q.post) _ w b.2 in
        let e = some_inj c.2 in
        record {
          filter = ap (λ (x : Clauses). option_map view x.filter) (sym e) ∙ if_planned q.filter a.0 a.1;
          accum = ap (λ (x : Clauses). view_acts x.accum) (sym e) ∙ acts_planned q.accum b.0 b.1;
          post = ap (λ (x : Clauses). view_acts x.post) (sym e) ∙ acts_planned q.post c.0 c.1;
        }

    abbrev view_keys : List (Expr × Bool) → List (Tree Reference × Bool)
    view_keys keys = map (λ key. (view key.0, key.1)) keys

    abbrev renamed_keys : List (Tree Bytes × Bool) → List (Tree Reference × Bool)
    renamed_keys keys = map (λ key. (renamed r key.0, key.1)) keys

    record TailIs (q : plain.Select Bytes) (t : Tail) : Type 0 where
      pub having : option_map view t.having ≡ option_map (renamed r) q.having
      pub order : view_keys t.order ≡ renamed_keys q.order
      pub limit : option_map view t.limit ≡ option_map (renamed r) q.limit

    tail_planned : (q : plain.Select Bytes) (t : Tail) → resolved_tail k q ≡ Some t → TailIs q t
    tail_planned q w h =
        let a = then_some (if_there (resolved k) q.having) _ w h in
        let b = then_some (each_resolved (resolved_key k) q.order) _ w a.2 in
        let c = then_some (if_there (resolved k) q.limit) _ w b.2 in
        let e = some_inj c.2 in
        record {
          having = ap (λ (x : Tail). option_map view x.having) (sym e) ∙ if_planned q.having a.0 a.1;
          order = ap (λ (x : Tail). view_keys x.order) (sym e) ∙ each_planned (resolved_key k) (λ d. (view d.0, d.1)) (λ d. (renamed r d.0, d.1)) key_planned q.order b.0 b.1;
          limit = ap (λ (x : Tail). option_map view x.limit) (sym e) ∙ if_planned q.limit c.0 c.1;
        }

    -- the parts of a SELECT in three groups
    abbrev a_front : Type 0
    a_front = (Reference × Reference) × (Option Reference × plain.Walk Reference)

    abbrev a_middle : Type 0
    a_middle = Option (Tree Reference) × (plain.Acts Reference × plain.Acts Reference)

    abbrev an_end : Type 0
    an_end = Option (Tree Reference) × (List (Tree Reference × Bool) × Option (Tree Reference))

    abbrev a_select : a_front → a_middle → an_end → plain.Select Reference
    a_select f m e = record { selected = f.0.0; source = f.0.1; alias = f.1.0; walk = f.1.1; filter = m.0; accum = m.1.0; post = m.1.1; having = e.0; order = e.1.0; limit = e.1.1 }

    pub block_planned : (q : plain.Select Bytes) (b : Block) → resolved_select k s q ≡ Some b → view_block b ≡ renamed_select n q
    block_planned q b h =
        let u = then_some (resolved_from k s q) _ b h in
        let v = then_some (resolved_clauses k q) _ b u.2 in
        let w = then_some (resolved_tail k q) _ b v.2 in
        let f = from_planned q u.0 u.1 in
        let c = clauses_planned q v.0 v.1 in
        let t = tail_planned q w.0 w.1 in
        ap view_block (sym (some_inj w.2))
        ∙ three a_select
        ((Place u.0.selected, view_source u.0.source), (option_map Place u.0.alias, view_walk u.0.walk)) ((r.name q.selected, n.source q.source), (option_map r.name q.alias, renamed_walk n q.walk))
        (option_map view v.0.filter, (view_acts v.0.accum, view_acts v.0.post)) (option_map (renamed r) q.filter, (renamed_acts r q.accum, renamed_acts r q.post))
        (option_map view w.0.having, (view_keys w.0.order, option_map view w.0.limit)) (option_map (renamed r) q.having, (renamed_keys q.order, option_map (renamed r) q.limit))
        (two (λ x y. (x, y)) _ _ _ _ (two (λ x y. (x, y)) _ _ _ _ f.selected f.source) (two (λ x y. (x, y)) _ _ _ _ f.alias f.walk))
        (two (λ x y. (x, y)) _ _ _ _ c.filter (two (λ x y. (x, y)) _ _ _ _ c.accum c.post))
        (two (λ x y. (x, y)) _ _ _ _ t.having (two (λ x y. (x, y)) _ _ _ _ t.order t.limit))

pub change_law : ChangeLaw
change_law k c d h = change_planned k c d h

pub block_law : BlockLaw
block_law k s q b h = block_planned k s q b h
