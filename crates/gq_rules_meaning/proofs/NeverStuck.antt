-- NeverStuck: a typed expression is never stuck, and its value has its type.
use Rattle.std.proofs.Common.{◌≡◌, ℕ, Bool, true, false, List, [], ◌∷◌, Option, Some, None, Ok, refl, ap, sym, ◌∙◌, subst}
use Rattle.std.specs.Prelude.{◌&&◌}
use Rattle.gq_rules_typing.specs.Tree.{Tree, Behind, Trees, Parts, Factors, Terms, Number, Text, Truth, Global, Name, Call, Post, Neg, Mul, Sum, Cmp, Not, And, Or, Field, Method, Attached, Before, no_tree, tree, no_part, part, no_factor, factor, no_term, term}
use Rattle.gq_value.specs.declared.value.Wrong.{Wrong}
use Rattle.gq_value.specs.Val.{Val}
use Rattle.gq_value.specs.Val as val
use Rattle.gq_value.specs.Accums.{Base, INT, UINT, BOOL, STRING, DATETIME}
use Rattle.gq_rules_typing.specs.Statements.{Bytes}
use Rattle.gq_rules_typing.specs.Words.{Function, DatetimeAdd, Outdegree, unit_named, edge_quoted, function_named}
use Rattle.gq_rules_typing.specs.Words as words
use Rattle.gq_rules_typing.specs.Judging.{Typed, Of, Average, Whole, GroupRow, AliasOf, EdgeOf, SetOf, MemberOf, Judged, ◌>>=◌, ◌>>◌, unless, or_fault, each_judged, Mismatch, NotAllowedHere, UnknownName}
use Rattle.gq_rules_typing.specs.Types.{is_number, is_bool, converts, as_base, has_accums, alone, calculated, comparable, stands_for_vertex}
use Rattle.gq_rules_typing.specs.FieldTypes.{behind_dot}
use Rattle.gq_rules_typing.specs.CallTypes.{method_type, outdegree_type, function_type, unit_known}
use Rattle.gq_rules_typing.specs.ExpressionTypes.{Names, typing, typing_all, typing_parts, typing_part, typing_factors, typing_terms, typing_bools, before_dot, literal_type, operated, both_bool, a_bool}
use Rattle.gq_rules_typing.specs.ExpressionTypes as expression_types
use Rattle.gq_rules_meaning.specs.Answers.{Answer, Gives, Faults, Stuck, found}
use Rattle.gq_rules_meaning.specs.Answers as answers
use Rattle.gq_rules_meaning.specs.Meanings.{Meant, IsContent, IsSet, IsMember, value_of_meant, vertex_of_meant, as_truth, truly}
use Rattle.gq_rules_meaning.specs.Calls.{method_wants, method_of, function_wants, function_of}
use Rattle.gq_rules_meaning.specs.Expressions.{setting, Look, meaning, arguments, meaning_parts, meaning_part, meaning_factors, meaning_terms, meaning_all, meaning_any, wanted, product, summed}
use Rattle.gq_rules_meaning.specs.Fitting.{Safe, Suits}
use Rattle.gq_rules_meaning.specs.Laws.{LookFits, ExpressionLaw}
use Rattle.gq_rules_meaning.proofs.AnswerLaws.{safe_then, safe_found, then_ok, after_ok, checked, or_fault_ok, ok_inj, and_ok}
use Rattle.gq_rules_meaning.proofs.ValueLaws.{IsValue, IsOwn, as_value, truth_safe, vertex_safe, product_safe}
use Rattle.gq_rules_meaning.proofs.OperatorLaws.{literal_safe, converted_safe, minus_safe, summed_safe, Valued, compared_safe, comparable_valued, comparable_valued_too}
use Rattle.gq_rules_meaning.proofs.DotLaws.{behind_safe}
use Rattle.gq_rules_meaning.proofs.CallLaws.{type_wanted, accepts, AcceptsAll, AreArguments, is_outdegree, content_accepts, content_gives, size_accepts, is_adding, function_accepts}
use Rattle.gq_rules_meaning.proofs.FunctionLaws.{function_gives, adding_gives}

-- ---- rules

alone_ok : (t ty : Typed) → alone t ≡ Ok ty → t ≡ ty
alone_ok (EdgeOf types) ty e = cc
alone_ok (SetOf types) ty e = cc
alone_ok (MemberOf types) ty e = cc
alone_ok (Of b) ty e = ok_inj e
alone_ok Average ty e = ok_inj e
alone_ok (Whole k) ty e = ok_inj e
alone_ok (GroupRow ps) ty e = ok_inj e
alone_ok (AliasOf types) ty e = ok_inj e

-- both operands of an operation have base types
operated_ok : (rule : Base → Base → Judged Typed) (x y ty : Typed) → operated rule x y ≡ Ok ty → (b : Base) × (c : Base) × (as_base x ≡ Ok b) × (as_base y ≡ Ok c) × (rule b c ≡ Ok ty)
operated_ok rule x y ty e = let b = then_ok (as_base x) _ ty e in let c = then_ok (as_base y) (rule b.0) ty b.2 in (b.0, c.0, b.1, c.1, c.2)

-- anything with accumulators denotes a vertex
accums_of_vertex : (x : Typed) → has_accums x ≡ true → stands_for_vertex x ≡ true
accums_of_vertex (AliasOf types) h = refl
accums_of_vertex (MemberOf types) h = refl
accums_of_vertex x h = cc

-- adding to a time takes a text in quotes that names a unit
adding_shape : {N : Type 0} (ts : Trees N) (bs : List Base) (ty : Typed) → function_type DatetimeAdd ts bs ≡ Ok ty
    → (a : Tree N) × (b : Tree N) × (u : List ℕ) × (ts ≡ tree a (tree b (tree (Text u) no_tree))) × (c : Base) × (bs ≡ DATETIME ∷ c ∷ STRING ∷ []) × (is_number c ≡ true) × (unit : _) × (unit_named u ≡ Some unit) × (ty ≡ Of DATETIME)
adding_shape {N = N} ts (DATETIME ∷ c ∷ STRING ∷ []) ty e = let w = checked Mismatch (is_number c) _ ty e in let s = shape ts w.1 in (s.0, s.1, s.2, s.3, c, refl, w.0, s.4, s.5, s.6)
  where
    shape : (ts : Trees N) → unit_known ts ≡ Ok ty → (a : Tree N) × (b : Tree N) × (u : List ℕ) × (ts ≡ tree a (tree b (tree (Text u) no_tree))) × (unit : _) × (unit_named u ≡ Some unit) × (ty ≡ Of DATETIME)
    shape (tree a (tree b (tree (Text u) no_tree))) e = let w = after_ok (or_fault (UnknownName u) (unit_named u)) _ ty e in (a, b, u, refl, w.0.0, or_fault_ok _ (unit_named u) w.0.0 w.0.1, sym (ok_inj w.1))
    shape ts e = cc
adding_shape ts bs ty e = cc

-- a number converts to INT
number_converts : (b : Base) → is_number b ≡ true → converts b INT ≡ true
number_converts INT h = refl
number_converts UINT h = refl
number_converts b h = cc

-- the third argument is that text
three_safe : (o p : Answer Wrong Val) (u : List ℕ) (P : List Val → Type 0)
    → Safe P (answers.◌>>=◌ o (λ v. answers.◌>>=◌ (answers.◌>>=◌ p (λ w. Gives (w ∷ val.Text u ∷ []))) (λ vs. Gives (v ∷ vs))))
    → Safe (λ vs. P vs × (v : Val) × (w : Val) × (vs ≡ v ∷ w ∷ val.Text u ∷ [])) (answers.◌>>=◌ o (λ v. answers.◌>>=◌ (answers.◌>>=◌ p (λ w. Gives (w ∷ val.Text u ∷ []))) (λ vs. Gives (v ∷ vs))))
three_safe (Gives v) (Gives w) u P h = (h, v, w, refl)
three_safe (Gives v) (Faults e) u P h = tt
three_safe (Gives v) Stuck u P h = h
three_safe (Faults e) p u P h = tt
three_safe Stuck p u P h = h

module _ {N : Type 0} (names : Names N) (look : Look N) (fits : LookFits names look) where
  abbrev HasType : Typed → Meant → Type 0
  HasType x m = Suits look.world x m

  -- ---- expressions read as values

  pub as_value_safe : (t : Tree N) (x : Typed) (b : Base) → Safe (HasType x) (meaning look t) → as_base x ≡ Ok b → Safe (IsValue look.world b) (answers.◌>>=◌ (meaning look t) value_of_meant)
  as_value_safe t x b h e = safe_then (HasType x) (IsValue look.world b) (meaning look t) value_of_meant h (λ m k. as_value look.world x b m e k)

  -- before a dot
  subject_safe : (t : Tree N) (x : Typed) → ((y : Typed) → typing names t ≡ Ok y → Safe (HasType y) (meaning look t)) → before_dot names t (typing names t) ≡ Ok x → Safe (HasType x) (meaning look t)
  subject_safe (Name n) x h e = fits.named n x e
  subject_safe t x h e = h x e

  -- a truth
  truth_of_meant : (x : Typed) (b : Base) (m : Meant) → as_base x ≡ Ok b → is_bool b ≡ true → HasType x m → Safe (λ (c : Bool). Unit {0}) (answers.◌>>=◌ (value_of_meant m) as_truth)
  truth_of_meant x b m e k h = safe_then (IsValue look.world b) _ (value_of_meant m) as_truth (as_value look.world x b m e h) (λ v f. truth_safe look.world b v k f)

  -- ---- methods

  -- how many edges can be walked from a vertex
  outdegree_safe : (x : Typed) (m : Meant) (ts : Trees N) (ty : Typed) → outdegree_type look.world.graph.sorts x ts ≡ Ok ty → HasType x m → Safe (HasType ty) (answers.◌>>=◌ (arguments look (None ∷ []) ts) (method_of look.world.graph Outdegree m))
  outdegree_safe x m no_tree ty e h =
      let u = checked Mismatch (stands_for_vertex x) _ ty e in
      subst (λ ty. Safe (HasType ty) (method_of look.world.graph Outdegree m [])) (ok_inj u.1) (safe_then _ _ (vertex_of_meant m) _ (vertex_safe look.world x m u.0 h) (λ v k. (refl, refl)))
  outdegree_safe x m (tree (Text e) no_tree) ty r h =
      let w = after_ok (unless Mismatch (stands_for_vertex x) >> or_fault (UnknownName e) (edge_quoted look.world.graph.sorts e)) _ ty r in
      let u = checked Mismatch (stands_for_vertex x) _ w.0.0 w.0.1 in
      subst (λ ty. Safe (HasType ty) (method_of look.world.graph Outdegree m (val.Text e ∷ []))) (ok_inj w.1)
      (safe_then _ _ (vertex_of_meant m) _ (vertex_safe look.world x m u.0 h) (λ v k. safe_found _ (edge_quoted look.world.graph.sorts e) w.0.0 _ (or_fault_ok _ (edge_quoted look.world.graph.sorts e) w.0.0 u.1) (refl, refl)))
  outdegree_safe x m ts ty e h = cc

  abbrev Called : words.Method → Meant → List Base → Typed → Type 0
  Called f m bs ty = AcceptsAll (method_wants f m) bs × ((vs : List Val) → AreArguments look.world (method_wants f m) bs vs → Safe (HasType ty) (method_of look.world.graph f m vs))

  -- the size of a set
  set_size : (vs : List ℕ) (bs : List Base) (ty : Typed) → (bs ≡ []) × (ty ≡ Of INT) → Called words.Size (IsSet vs) bs ty
  set_size vs bs ty u = (subst (AcceptsAll []) (sym u.0) tt, λ ws a. given ws (subst (λ bs. AreArguments look.world [] bs ws) u.0 a))
    where
      given : (ws : List Val) → AreArguments look.world [] [] ws → Safe (HasType ty) (method_of look.world.graph words.Size (IsSet vs) ws)
      given [] a = subst (λ ty. Safe (HasType ty) (method_of look.world.graph words.Size (IsSet vs) [])) (sym u.1) (refl, refl)
      given (w ∷ ws) a = absurd a

  member_size : (vs : List ℕ) (c : Base) (v : ℕ) (bs : List Base) (ty : Typed) → (bs ≡ []) × (ty ≡ Of INT) → Called words.Size (IsMember vs c v) bs ty
  member_size vs c v bs ty u = (subst (AcceptsAll []) (sym u.0) tt, λ ws a. given ws (subst (λ bs. AreArguments look.world [] bs ws) u.0 a))
    where
      given : (ws : List Val) → AreArguments look.world [] [] ws → Safe (HasType ty) (method_of look.world.graph words.Size (IsMember vs c v) ws)
      given [] a = subst (λ ty. Safe (HasType ty) (method_of look.world.graph words.Size (IsMember vs c v) [])) (sym u.1) (refl, refl)
      given (w ∷ ws) a = absurd a

  method_called : (f : words.Method) (x : Typed) (m : Meant) (ts : Trees N) (bs : List Base) (ty : Typed) → is_outdegree look.world f ≡ false → method_type look.world.graph.sorts f x ts bs ≡ Ok ty → HasType x m → Called f m bs ty
  method_called f (Whole k) (IsContent j c) ts bs ty n e h =
      let d : method_type look.world.graph.sorts f (Whole j) ts bs ≡ Ok ty = subst (λ k. method_type look.world.graph.sorts f (Whole k) ts bs ≡ Ok ty) (sym h.0) e in
      (content_accepts look.world look.world.graph.sorts f j c ts bs ty n d, λ vs a. content_gives look.world look.world.graph.sorts f j c ts bs vs ty n h.1 h.2 d a)
  method_called words.Size (SetOf types) (IsSet vs) ts bs ty n e h = set_size vs bs ty (size_accepts look.world bs true ty e)
  method_called words.Size (MemberOf types) (IsMember vs c v) ts bs ty n e h = member_size vs c v bs ty (size_accepts look.world bs true ty e)
  method_called words.Outdegree x m ts bs ty n e h = cc
  method_called f (Whole k) m ts bs ty n e h = absurd h
  method_called f (SetOf types) (IsSet vs) ts bs ty n e h = cc
  method_called f (MemberOf types) (IsMember vs c v) ts bs ty n e h = cc
  method_called f (SetOf types) m ts bs ty n e h = absurd h
  method_called f (MemberOf types) m ts bs ty n e h = absurd h
  method_called f x m ts bs ty n e h = cc

  -- a method of arguments that are of their types
  method_safe : (f : words.Method) (x : Typed) (m : Meant) (ts : Trees N) (bs : List Base) (ty : Typed) → method_type look.world.graph.sorts f x ts bs ≡ Ok ty → HasType x m
      → ((wants : List (Option Base)) → AcceptsAll wants bs → Safe (AreArguments look.world wants bs) (arguments look wants ts))
      → Safe (HasType ty) (answers.◌>>=◌ (arguments look (method_wants f m) ts) (method_of look.world.graph f m))
  method_safe f x m ts bs ty e h args = go (is_outdegree look.world f) refl
    where
      go : (q : Bool) → is_outdegree look.world f ≡ q → Safe (HasType ty) (answers.◌>>=◌ (arguments look (method_wants f m) ts) (method_of look.world.graph f m))
      go false n = let w = method_called f x m ts bs ty n e h in safe_then (AreArguments look.world (method_wants f m) bs) _ _ _ (args (method_wants f m) w.0) w.1
      go true n = outdegree f n e
        where
          outdegree : (f : words.Method) → is_outdegree look.world f ≡ true → method_type look.world.graph.sorts f x ts bs ≡ Ok ty → Safe (HasType ty) (answers.◌>>=◌ (arguments look (method_wants f m) ts) (method_of look.world.graph f m))
          outdegree words.Outdegree n e = outdegree_safe x m ts ty e h
          outdegree f n e = cc

  -- units later
  abbrev add_wants : List (Option Base)
  add_wants = None ∷ Some INT ∷ None ∷ []

  adding_three : (a b : Tree N) (u : List ℕ) (c : Base) (ty : Typed) (unit : _) → unit_named u ≡ Some unit → ty ≡ Of DATETIME
      → Safe (AreArguments look.world add_wants (DATETIME ∷ c ∷ STRING ∷ [])) (arguments look add_wants (tree a (tree b (tree (Text u) no_tree))))
      → Safe (HasType ty) (answers.◌>>=◌ (arguments look add_wants (tree a (tree b (tree (Text u) no_tree)))) (function_of look.world.calendar DatetimeAdd))
  adding_three a b u c ty unit k e h =
      safe_then _ (HasType ty) (arguments look add_wants (tree a (tree b (tree (Text u) no_tree)))) (function_of look.world.calendar DatetimeAdd)
      (three_safe (answers.◌>>=◌ (answers.◌>>=◌ (meaning look a) value_of_meant) (wanted None)) (answers.◌>>=◌ (answers.◌>>=◌ (meaning look b) value_of_meant) (wanted (Some INT))) u (AreArguments look.world add_wants (DATETIME ∷ c ∷ STRING ∷ [])) h)
      (λ vs g. subst (λ vs. Safe (HasType ty) (function_of look.world.calendar DatetimeAdd vs)) (sym g.3)
      (let d : AreArguments look.world add_wants (DATETIME ∷ c ∷ STRING ∷ []) (g.1 ∷ g.2 ∷ val.Text u ∷ []) = subst (AreArguments look.world add_wants (DATETIME ∷ c ∷ STRING ∷ [])) g.3 g.0 in
      adding_gives look.world fits.world g.1 g.2 u ty unit k e d.0 d.1.0))

  adding_safe : (ts : Trees N) (bs : List Base) (ty : Typed) → function_type DatetimeAdd ts bs ≡ Ok ty
      → ((wants : List (Option Base)) → AcceptsAll wants bs → Safe (AreArguments look.world wants bs) (arguments look wants ts))
      → Safe (HasType ty) (answers.◌>>=◌ (arguments look add_wants ts) (function_of look.world.calendar DatetimeAdd))
  adding_safe ts bs ty e args =
      let s = adding_shape ts bs ty e in
      subst (λ ts. Safe (HasType ty) (answers.◌>>=◌ (arguments look add_wants ts) (function_of look.world.calendar DatetimeAdd))) (sym s.3)
      (adding_three s.0 s.1 s.2 s.4 ty s.7 s.8 s.9
      (subst (λ ts. Safe (AreArguments look.world add_wants (DATETIME ∷ s.4 ∷ STRING ∷ [])) (arguments look add_wants ts)) s.3
      (subst (λ bs. Safe (AreArguments look.world add_wants bs) (arguments look add_wants ts)) s.5
      (args add_wants (subst (AcceptsAll add_wants) (sym s.5) (refl, (number_converts s.4 s.6, (refl, tt))))))))

  -- a function of arguments that are of their types
  function_safe : (f : N) (g : Function) (ts : Trees N) (bs : List Base) (ty : Typed) → function_named (setting look.world) f ≡ Some g → function_type g ts bs ≡ Ok ty
      → ((wants : List (Option Base)) → AcceptsAll wants bs → Safe (AreArguments look.world wants bs) (arguments look wants ts))
      → Safe (HasType ty) (answers.◌>>=◌ (arguments look (function_wants g) ts) (function_of look.world.calendar g))
  function_safe f g ts bs ty k e args = go (is_adding look.world g) refl
    where
      adding : (g : Function) → is_adding look.world g ≡ true → function_type g ts bs ≡ Ok ty → Safe (HasType ty) (answers.◌>>=◌ (arguments look (function_wants g) ts) (function_of look.world.calendar g))
      adding DatetimeAdd n e = adding_safe ts bs ty e args
      adding g n e = cc

      go : (q : Bool) → is_adding look.world g ≡ q → Safe (HasType ty) (answers.◌>>=◌ (arguments look (function_wants g) ts) (function_of look.world.calendar g))
      go false n = safe_then (AreArguments look.world (function_wants g) bs) _ _ _ (args (function_wants g) (function_accepts look.world g ts bs ty n e)) (λ vs a. function_gives look.world fits.world f g ts bs vs ty k n e a)
      go true n = adding g n e

  -- ---- chains of AND and OR

  bool_type : (y : Typed) (c : Base) → as_base y ≡ Ok c → is_bool c ≡ true → y ≡ Of BOOL
  bool_type (Of BOOL) c e h = refl
  bool_type (AliasOf []) c e h = cc
  bool_type (AliasOf (t ∷ [])) c e h = cc
  bool_type (AliasOf (t ∷ u ∷ ts)) c e h = cc
  bool_type y c e h = cc

  -- they are truths
  bools_type : (ts : Trees N) (x ty : Typed) → typing_bools names x ts ≡ Ok ty → ty ≡ Of BOOL
  bools_type no_tree x ty e = let b = then_ok (as_base x) a_bool ty e in sym (ok_inj (checked Mismatch (is_bool b.0) _ ty b.2).1)
  bools_type (tree t ts) x ty e = let z = then_ok (typing names t >>= operated both_bool x) _ ty e in bools_type ts z.0 ty z.2

  -- an operand of a chain, and the type with which the chain continues
  abbrev Operand : Tree N → Trees N → Typed → Typed → Type 0
  Operand t ts x ty = (b : Base) × (as_base x ≡ Ok b) × (is_bool b ≡ true) × (typing names t ≡ Ok (Of BOOL)) × (typing_bools names (Of BOOL) ts ≡ Ok ty)

  operand : (t : Tree N) (ts : Trees N) (x ty : Typed) → typing_bools names x (tree t ts) ≡ Ok ty → Operand t ts x ty
  operand t ts x ty e =
      let z = then_ok (typing names t >>= operated both_bool x) _ ty e in let y = then_ok (typing names t) (operated both_bool x) z.0 z.1 in
      let o = operated_ok both_bool x y.0 z.0 y.2 in let u = checked Mismatch (is_bool o.0 && is_bool o.1) _ z.0 o.4 in let w = and_ok (is_bool o.0) (is_bool o.1) u.0 in
      (o.0, o.2, w.0, subst (λ y. typing names t ≡ Ok y) (bool_type y.0 o.1 o.3 w.1) y.1, subst (λ z. typing_bools names z ts ≡ Ok ty) (sym (ok_inj u.1)) z.2)

  -- ---- the induction

  argument_safe : (w : Option Base) (b : Base) (v : Val) → accepts w b ≡ true → IsValue look.world b v → Safe (IsValue look.world (type_wanted w b)) (wanted w v)
  argument_safe None b v h f = f
  argument_safe (Some c) b v h f = converted_safe look.world b c v h f

  one_more : (t : Tree N) (ts : Trees N) (wants : List (Option Base)) (b : Base) (cs : List Base) → Safe (IsValue look.world b) (answers.◌>>=◌ (meaning look t) value_of_meant)
      → ((ws : List (Option Base)) → AcceptsAll ws cs → Safe (AreArguments look.world ws cs) (arguments look ws ts)) → AcceptsAll wants (b ∷ cs) → Safe (AreArguments look.world wants (b ∷ cs)) (arguments look wants (tree t ts))
  one_more t ts [] b cs h rest a = absurd a
  one_more t ts (w ∷ ws) b cs h rest a =
      safe_then (IsValue look.world (type_wanted w b)) _ _ _ (safe_then (IsValue look.world b) _ _ (wanted w) h (λ v f. argument_safe w b v a.0 f)) (λ v f.
      safe_then (AreArguments look.world ws cs) _ _ _ (rest ws a.1) (λ vs g. (f, g)))

  no_more : (wants : List (Option Base)) → Safe (AreArguments look.world wants []) (arguments look wants no_tree)
  no_more wants = tt

  mutual
    pub never_stuck : (t : Tree N) (ty : Typed) → typing names t ≡ Ok ty → Safe (HasType ty) (meaning look t)
    never_stuck (Number n) ty e = subst (λ ty. Safe (HasType ty) (meaning look (Number n))) (ok_inj e) (literal_safe look.world n)
    never_stuck (Text s) ty e = subst (λ ty. Safe (HasType ty) (meaning look (Text s))) (ok_inj e) (refl, refl)
    never_stuck (Truth b) ty e = subst (λ ty. Safe (HasType ty) (meaning look (Truth b))) (ok_inj e) (refl, refl)
    never_stuck (Global a) ty e = let w = then_ok (names.global a) _ ty e in subst (λ ty. Safe (HasType ty) (look.global a)) (ok_inj w.2) (fits.global a w.0 w.1)
    never_stuck (Name x) ty e = let w = then_ok (names.named x) alone ty e in subst (λ ty. Safe (HasType ty) (look.named x)) (alone_ok w.0 ty w.2) (fits.named x w.0 w.1)
    never_stuck (Call f ts) ty e =
        let xs = then_ok (typing_all names ts) _ ty e in let g = then_ok (or_fault (UnknownName (names.setting.words.said f)) (function_named names.setting f)) _ ty xs.2 in
        let bs = then_ok (each_judged as_base xs.0) (function_type g.0 ts) ty g.2 in
        let k : function_named (setting look.world) f ≡ Some g.0 = subst (λ s. function_named s f ≡ Some g.0) fits.setting (or_fault_ok _ (function_named names.setting f) g.0 g.1) in
        safe_found _ (function_named (setting look.world) f) g.0 _ k (function_safe f g.0 ts bs.0 ty k bs.2 (arguments_safe ts xs.0 bs.0 xs.1 bs.1))
    never_stuck (Post t parts) ty e =
        let x = then_ok (before_dot names t (typing names t)) _ ty e in
        safe_then (HasType x.0) _ _ _ (subject_safe t x.0 (never_stuck t) x.1) (λ m h. parts_safe parts x.0 m ty x.2 h)
    never_stuck (Neg n t) ty e =
        let b = then_ok (typing names t >>= as_base) _ ty e in let x = then_ok (typing names t) as_base b.0 b.1 in
        safe_then _ _ _ _ (as_value_safe t x.0 b.0 (never_stuck t x.0 x.1) x.2) (λ v f. minus_safe look.world n b.0 ty v b.2 f)
    never_stuck (Mul t factors) ty e = let x = then_ok (typing names t) _ ty e in safe_then (HasType x.0) _ _ _ (never_stuck t x.0 x.1) (λ m h. factors_safe factors x.0 m ty x.2 h)
    never_stuck (Sum t terms) ty e = let x = then_ok (typing names t) _ ty e in safe_then (HasType x.0) _ _ _ (never_stuck t x.0 x.1) (λ m h. terms_safe terms x.0 m ty x.2 h)
    never_stuck (Cmp s sign t) ty e =
        let x = then_ok (typing names s) _ ty e in let y = then_ok (typing names t) _ ty x.2 in
        let u = checked Mismatch (comparable sign x.0 y.0) _ ty y.2 in
        subst (λ ty. Safe (HasType ty) (meaning look (Cmp s sign t))) (ok_inj u.1)
        (safe_then (Valued look.world x.0) _ _ _ (safe_then (HasType x.0) _ _ value_of_meant (never_stuck s x.0 x.1) (λ m h. comparable_valued look.world sign x.0 y.0 m u.0 h)) (λ v f.
        safe_then (Valued look.world y.0) _ _ _ (safe_then (HasType y.0) _ _ value_of_meant (never_stuck t y.0 y.1) (λ m h. comparable_valued_too look.world sign x.0 y.0 m u.0 h)) (λ w g.
        compared_safe look.world sign x.0 y.0 v w u.0 f g)))
    never_stuck (Not n t) ty e =
        let b = then_ok (typing names t >>= as_base) a_bool ty e in let x = then_ok (typing names t) as_base b.0 b.1 in let u = checked Mismatch (is_bool b.0) _ ty b.2 in
        subst (λ ty. Safe (HasType ty) (meaning look (Not n t))) (ok_inj u.1)
        (safe_then (λ (c : Bool). Unit {0}) _ _ _ (safe_then (IsValue look.world b.0) _ _ as_truth (as_value_safe t x.0 b.0 (never_stuck t x.0 x.1) x.2) (λ v f. truth_safe look.world b.0 v u.0 f)) (λ c z. (refl, refl)))
    never_stuck (And t ts) ty e = let x = then_ok (typing names t) _ ty e in safe_then (HasType x.0) _ _ _ (never_stuck t x.0 x.1) (λ m h. all_safe ts x.0 m ty x.2 h)
    never_stuck (Or t ts) ty e = let x = then_ok (typing names t) _ ty e in safe_then (HasType x.0) _ _ _ (never_stuck t x.0 x.1) (λ m h. any_safe ts x.0 m ty x.2 h)

    pub arguments_safe : (ts : Trees N) (xs : List Typed) (bs : List Base) → typing_all names ts ≡ Ok xs → each_judged as_base xs ≡ Ok bs → (wants : List (Option Base)) → AcceptsAll wants bs → Safe (AreArguments look.world wants bs) (arguments look wants ts)
    arguments_safe no_tree xs bs e d wants a =
        let none : [] ≡ bs = ok_inj (ap (each_judged as_base) (ok_inj e) ∙ d) in subst (λ bs. Safe (AreArguments look.world wants bs) (arguments look wants no_tree)) none (no_more wants)
    arguments_safe (tree t ts) xs bs e d wants a =
        let x = then_ok (typing names t) _ xs e in let ys = then_ok (typing_all names ts) _ xs x.2 in
        let d' : each_judged as_base (x.0 ∷ ys.0) ≡ Ok bs = ap (each_judged as_base) (ok_inj ys.2) ∙ d in
        let b = then_ok (as_base x.0) _ bs d' in let cs = then_ok (each_judged as_base ys.0) _ bs b.2 in
        subst (λ bs. AcceptsAll wants bs → Safe (AreArguments look.world wants bs) (arguments look wants (tree t ts))) (ok_inj cs.2)
        (one_more t ts wants b.0 cs.0 (as_value_safe t x.0 b.0 (never_stuck t x.0 x.1) b.1) (arguments_safe ts ys.0 cs.0 ys.1 cs.1)) a

    parts_safe : (ps : Parts N) (x : Typed) (m : Meant) (ty : Typed) → typing_parts names x ps ≡ Ok ty → HasType x m → Safe (HasType ty) (meaning_parts look m ps)
    parts_safe no_part x m ty e h = subst (λ ty. HasType ty m) (alone_ok x ty e) h
    parts_safe (part p ps) x m ty e h = let y = then_ok (typing_part names x p) _ ty e in safe_then (HasType y.0) _ _ _ (part_safe p x m y.0 y.1 h) (λ n k. parts_safe ps y.0 n ty y.2 k)

    part_safe : (p : Behind N) (x : Typed) (m : Meant) (ty : Typed) → typing_part names x p ≡ Ok ty → HasType x m → Safe (HasType ty) (meaning_part look m p)
    part_safe (Field f) x m ty e h =
        subst (λ field. Safe (HasType ty) (field m f)) (sym fits.field) (behind_safe look.world fits.world x m f ty (subst (λ s. behind_dot s x f ≡ Ok ty) fits.setting e) h)
    part_safe (Method name ts) x m ty e h =
        let xs = then_ok (typing_all names ts) _ ty e in let f = then_ok (or_fault (UnknownName (names.setting.words.said name)) (names.setting.words.method name)) _ ty xs.2 in
        let bs = then_ok (each_judged as_base xs.0) (method_type names.setting.sorts f.0 x ts) ty f.2 in
        let k : look.world.words.method name ≡ Some f.0 = subst (λ s. s.words.method name ≡ Some f.0) fits.setting (or_fault_ok _ (names.setting.words.method name) f.0 f.1) in
        safe_found _ (look.world.words.method name) f.0 _ k
        (method_safe f.0 x m ts bs.0 ty (subst (λ s. method_type s.sorts f.0 x ts bs.0 ≡ Ok ty) fits.setting bs.2) h (arguments_safe ts xs.0 bs.0 xs.1 bs.1))
    part_safe (Attached a) x m ty e h =
        let w = then_ok (unless NotAllowedHere (has_accums x) >> names.attached a) _ ty e in let u = checked NotAllowedHere (has_accums x) (names.attached a) w.0 w.1 in
        subst (λ ty. Safe (HasType ty) (meaning_part look m (Attached a))) (ok_inj w.2)
        (safe_then (IsOwn look.world) _ _ _ (vertex_safe look.world x m (accums_of_vertex x u.0) h) (λ v k. fits.attached a w.0 v u.1 k))
    part_safe (Before a) x m ty e h =
        let w = then_ok (unless NotAllowedHere (has_accums x) >> names.before a) _ ty e in let u = checked NotAllowedHere (has_accums x) (names.before a) w.0 w.1 in
        subst (λ ty. Safe (HasType ty) (meaning_part look m (Before a))) (ok_inj w.2)
        (safe_then (IsOwn look.world) _ _ _ (vertex_safe look.world x m (accums_of_vertex x u.0) h) (λ v k. fits.before a w.0 v u.1 k))

    factors_safe : (fs : Factors N) (x : Typed) (m : Meant) (ty : Typed) → typing_factors names x fs ≡ Ok ty → HasType x m → Safe (HasType ty) (meaning_factors look m fs)
    factors_safe no_factor x m ty e h = subst (λ ty. HasType ty m) (ok_inj e) h
    factors_safe (factor s t rest) x m ty e h =
        let z = then_ok (typing names t >>= operated calculated x) _ ty e in let y = then_ok (typing names t) (operated calculated x) z.0 z.1 in let o = operated_ok calculated x y.0 z.0 y.2 in
        safe_then (IsValue look.world o.0) _ _ _ (as_value look.world x o.0 m o.2 h) (λ v f.
        safe_then (HasType z.0) _ _ _ (safe_then (IsValue look.world o.1) _ _ (product s v) (as_value_safe t y.0 o.1 (never_stuck t y.0 y.1) o.3) (λ w g. product_safe look.world s o.0 o.1 z.0 v w o.4 f g)) (λ n k.
        factors_safe rest z.0 n ty z.2 k))

    terms_safe : (ts : Terms N) (x : Typed) (m : Meant) (ty : Typed) → typing_terms names x ts ≡ Ok ty → HasType x m → Safe (HasType ty) (meaning_terms look m ts)
    terms_safe no_term x m ty e h = subst (λ ty. HasType ty m) (ok_inj e) h
    terms_safe (term s t rest) x m ty e h =
        let z = then_ok (typing names t >>= operated (expression_types.summed s) x) _ ty e in let y = then_ok (typing names t) (operated (expression_types.summed s) x) z.0 z.1 in let o = operated_ok (expression_types.summed s) x y.0 z.0 y.2 in
        safe_then (IsValue look.world o.0) _ _ _ (as_value look.world x o.0 m o.2 h) (λ v f.
        safe_then (HasType z.0) _ _ _ (safe_then (IsValue look.world o.1) _ _ (summed s v) (as_value_safe t y.0 o.1 (never_stuck t y.0 y.1) o.3) (λ w g. summed_safe look.world s o.0 o.1 z.0 v w o.4 f g)) (λ n k.
        terms_safe rest z.0 n ty z.2 k))

    all_safe : (ts : Trees N) (x : Typed) (m : Meant) (ty : Typed) → typing_bools names x ts ≡ Ok ty → HasType x m → Safe (HasType ty) (meaning_all look m ts)
    all_safe no_tree x m ty e h =
        let b = then_ok (as_base x) a_bool ty e in let u = checked Mismatch (is_bool b.0) _ ty b.2 in
        subst (λ ty. Safe (HasType ty) (meaning_all look m no_tree)) (ok_inj u.1) (safe_then (λ (c : Bool). Unit {0}) _ _ truly (truth_of_meant x b.0 m b.1 u.0 h) (λ c z. (refl, refl)))
    all_safe (tree t ts) x m ty e h =
        let o = operand t ts x ty e in
        safe_then (λ (c : Bool). Unit {0}) _ _ _ (truth_of_meant x o.0 m o.1 o.2 h) (elim [ true ↦ λ z. safe_then (HasType (Of BOOL)) _ _ _ (never_stuck t (Of BOOL) o.3) (λ n k. all_safe ts (Of BOOL) n ty o.4 k) | false ↦ λ z. subst (λ ty. Safe (HasType ty) (truly false)) (sym (bools_type ts (Of BOOL) ty o.4)) (refl, refl) ])

    any_safe : (ts : Trees N) (x : Typed) (m : Meant) (ty : Typed) → typing_bools names x ts ≡ Ok ty → HasType x m → Safe (HasType ty) (meaning_any look m ts)
    any_safe no_tree x m ty e h =
        let b = then_ok (as_base x) a_bool ty e in let u = checked Mismatch (is_bool b.0) _ ty b.2 in
        subst (λ ty. Safe (HasType ty) (meaning_any look m no_tree)) (ok_inj u.1) (safe_then (λ (c : Bool). Unit {0}) _ _ truly (truth_of_meant x b.0 m b.1 u.0 h) (λ c z. (refl, refl)))
    any_safe (tree t ts) x m ty e h =
        let o = operand t ts x ty e in
        safe_then (λ (c : Bool). Unit {0}) _ _ _ (truth_of_meant x o.0 m o.1 o.2 h) (elim [ true ↦ λ z. subst (λ ty. Safe (HasType ty) (truly true)) (sym (bools_type ts (Of BOOL) ty o.4)) (refl, refl) | false ↦ λ z. safe_then (HasType (Of BOOL)) _ _ _ (never_stuck t (Of BOOL) o.3) (λ n k. any_safe ts (Of BOOL) n ty o.4 k) ])

pub expression_law : (N : Type 0) → ExpressionLaw N
expression_law N names look fits t ty e = never_stuck names look fits t ty e

pub expression_law_by_name : ExpressionLaw Bytes
expression_law_by_name = expression_law Bytes
