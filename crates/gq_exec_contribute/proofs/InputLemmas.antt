-- InputLemmas: the meaning of an input, from that of its parts.
use Rattle.std.proofs.Common.{◌≡◌, ℕ, zero, suc, ◌+◌, ◌<◌, ◌≤◌, List, [], ◌∷◌, ◌++◌, map, drop, length, get_or, Option, Some, None, refl, sym, ap, subst, ◌∙◌, arith}
use Rattle.std.specs.List.{slice_get}
use Rattle.std.specs.Prelude.{ℤ, pos, negsuc, ◌^◌, true, if◌then◌else◌, Ok, Err}
use Rattle.std.specs.Int.{w64}
use Rattle.std.specs.Int.RustNames.{FitsSigned}
use Rattle.std.proofs.lemmas.Bool.Decides.{nat_tests}
use Rattle.gq_value.specs.Arithmetic.{is_within}
use Rattle.gq_value.specs.declared.kind.Number.TheVariants as number
use Rattle.gq_value.specs.declared.value.Wrong.TheVariants.{Range}
use Rattle.gq_rules_meaning.specs.Meanings.{Meant, Outcome, value_of_meant}
use Rattle.gq_rules_meaning.specs.Answers.{of_result}
use Rattle.gq_plan_ir.specs.declared.expr.Expr.TheVariants as expr
use Rattle.gq_plan_ir.specs.declared.expr.Behind as code
use Rattle.gq_plan_ir.specs.declared.expr.Behind.TheVariants as behind
use Rattle.gq_plan_ir.specs.declared.expr.Field.{Field}
use Rattle.gq_plan_ir.specs.ExprView.{view, view_behind, view_parts, field_of}
use Rattle.gq_plan_ir.specs.Reference.{Place}
use Rattle.gq_plan_ir.proofs.ViewLaws.{view-Name, view_behind-Field}
use Rattle.gq_exec_contribute.specs.Feeds.{field_value, part_value}
use Rattle.std.specs.Option.{option_map}
use Rattle.std.proofs.lemmas.List.{drop_more, drop_all}
use Rattle.std.proofs.lemmas.Option.{slice_get_within, get_or_from_slice_get}
use Rattle.gq_tree.specs.Tree.{Tree, Trees, Post}
use Rattle.gq_value.specs.declared.kind.Input.{Input}
use Rattle.gq_value.specs.declared.kind.Input.TheVariants as input
use Rattle.gq_value.specs.declared.kind.Kind.{Kind}
use Rattle.gq_value.specs.declared.kind.Kind.TheVariants as kind
use Rattle.gq_value.specs.declared.kind.GroupShape.{GroupShape}
use Rattle.gq_value.specs.declared.value.Value.{Value}
use Rattle.gq_value.specs.declared.value.Wrong.{Wrong}
use Rattle.gq_value.specs.declared.kind.Number.{Number}
use Rattle.gq_value.specs.Val.{Val, Int}
use Rattle.gq_value.specs.Views.{val}
use Rattle.gq_value.specs.Accums.{Base, Accum, Given, One, Keyed, Givens, no_given, given_and}
use Rattle.gq_value.specs.AccumViews.{accum_of, parts_of, given}
use Rattle.gq_value.proofs.AccumLemmas.{accum_of-Group, given-One, given-Keyed}
use Rattle.gq_rules_typing.specs.Kinds.{input_type, key_types, kinds_in, part_kinds}
use Rattle.gq_rules_typing.specs.Selecting.{Inputs, Keys, no_input, input_and}
use Rattle.gq_rules_typing.specs.SelectViews.{inputs_of as listed}
use Rattle.gq_rules_typing.specs.Statements.{Bytes}
use Rattle.gq_rules_meaning.specs.Answers.{Answer, Gives, Faults, Stuck, ◌>>=◌, found}
use Rattle.gq_rules_meaning.specs.Meanings.{converted_to}
use Rattle.gq_rules_meaning.specs.Expressions.{Look, arguments, value_of, value_as, meaning_part}
use Rattle.gq_rules_meaning.specs.Blocks.{input_of, inputs_of}
use Rattle.gq_plan_ir.specs.declared.block.Feed.{Feed}
use Rattle.gq_plan_ir.specs.declared.block.Feed.TheVariants as feed
use Rattle.gq_plan_ir.specs.declared.expr.Expr.{Expr}
use Rattle.gq_plan_ir.specs.ExprView.{views}
use Rattle.gq_plan_ir.specs.BlockView.{view_feed}
use Rattle.gq_plan_ir.proofs.ViewLaws.{view_feed-Keyed}
use Rattle.gq_plan_ir.specs.Reference.{Reference}
use Rattle.gq_eval_operand.specs.declared.halt.Halt.{Halt}
use Rattle.gq_eval_operand.specs.Meant.{Halts, number_to}
use Rattle.gq_eval_builtins.proofs.TimeLemmas.{stops}
use Rattle.gq_exec_contribute.specs.declared.kinds.Taking.{Taking}
use Rattle.gq_exec_contribute.specs.declared.kinds.Taking.TheVariants as taking
use Rattle.gq_exec_contribute.specs.Taking.{taken, TakesAs}
use Rattle.gq_exec_contribute.specs.Feeds.{one_input, inputs_shown}

-- ---- keys followed by parts

module _ {N : Type 0} (look : Look N) where
  pub keys_stop : (k : Accum) (ws : List Base) (ts : Trees N) (xs : Inputs N) (h : Halt) → ws ≡ key_types k → Halts (arguments look (map Some ws) ts) h → Halts (input_of look k (Keys ts xs)) h
  keys_stop k ws ts xs h e s = stops (arguments look (map Some (key_types k)) ts) _ h (subst (λ ws. Halts (arguments look (map Some ws) ts) h) e s)

  keyed : (k : Accum) (ws : List Base) (ts : Trees N) (xs : Inputs N) (vs : List Val) → ws ≡ key_types k → arguments look (map Some ws) ts ≡ Gives vs → input_of look k (Keys ts xs) ≡ (inputs_of look (part_kinds k) xs >>= λ ys. Gives (Keyed vs ys))
  keyed k ws ts xs vs e g = ap (λ o. o >>= λ vs. inputs_of look (part_kinds k) xs >>= λ ys. Gives (Keyed vs ys)) (ap (λ ws. arguments look (map Some ws) ts) (sym e) ∙ g)

  pub parts_stop : (k : Accum) (ws : List Base) (ts : Trees N) (xs : Inputs N) (vs : List Val) (h : Halt) → ws ≡ key_types k → arguments look (map Some ws) ts ≡ Gives vs → Halts (inputs_of look (part_kinds k) xs) h → Halts (input_of look k (Keys ts xs)) h
  parts_stop k ws ts xs vs h e g s = subst (λ o. Halts o h) (sym (keyed k ws ts xs vs e g)) (stops (inputs_of look (part_kinds k) xs) _ h s)

  pub keyed_given : (k : Accum) (ws : List Base) (ts : Trees N) (xs : Inputs N) (row : List Value) (ys : List Input) → ws ≡ key_types k → arguments look (map Some ws) ts ≡ Gives (map val row) → inputs_of look (part_kinds k) xs ≡ Gives (inputs_shown ys)
      → input_of look k (Keys ts xs) ≡ Gives (given (input.Keyed row ys))
  keyed_given k ws ts xs row ys e g f = keyed k ws ts xs (map val row) e g ∙ ap (λ o. o >>= λ ys. Gives (Keyed (map val row) ys)) f ∙ ap Gives (sym (given-Keyed row ys))

  -- ---- one value

  typed : (k : Accum) (t : Tree N) (o : Option Base) (q : Taking) → input_type k ≡ o → TakesAs o (Some q) → one_input look k t ≡ (value_of look t >>= taken q >>= λ v. Gives (One v))
  typed k t None q e h = absurd h
  typed k t (Some b) q e h = ap (λ o. found o >>= λ b. value_as look b t >>= λ v. Gives (One v)) e ∙ same (value_of look t)
    where
      same : (o : Answer Wrong Val) → (o >>= converted_to b >>= λ v. Gives (One v)) ≡ (o >>= taken q >>= λ v. Gives (One v))
      same (Gives v) = ap (λ o. o >>= λ v. Gives (One v)) (h.each v)
      same (Faults w) = refl
      same Stuck = refl

  untyped : (k : Accum) (t : Tree N) (o : Option Base) → input_type k ≡ o → TakesAs o None → one_input look k t ≡ Stuck
  untyped k t None e h = ap (λ o. found o >>= λ b. value_as look b t >>= λ v. Gives (One v)) e
  untyped k t (Some b) e h = absurd h

  pub not_taken : (k : Accum) (t : Tree N) → TakesAs (input_type k) None → one_input look k t ≡ Stuck
  not_taken k t h = untyped k t (input_type k) refl h

  pub one_stops : (k : Accum) (t : Tree N) (q : Taking) (h : Halt) → TakesAs (input_type k) (Some q) → Halts (value_of look t) h → Halts (one_input look k t) h
  one_stops k t q h e s = subst (λ o. Halts o h) (sym (typed k t (input_type k) q refl e)) (stops (value_of look t >>= taken q) (λ v. Gives (One v)) h (stops (value_of look t) (taken q) h s))

  pub taken_itself : (k : Accum) (t : Tree N) (v : Val) (x : Value) → TakesAs (input_type k) (Some taking.Itself) → value_of look t ≡ Gives v → val x ≡ v → one_input look k t ≡ Gives (given (input.One x))
  taken_itself k t v x e g is = typed k t (input_type k) taking.Itself refl e ∙ ap (λ o. o >>= taken taking.Itself >>= λ v. Gives (One v)) g ∙ ap (λ v. Gives (One v)) (sym is) ∙ ap Gives (sym (given-One x))

  pub number_stops : (k : Accum) (t : Tree N) (n : Number) (v : Val) (h : Halt) → TakesAs (input_type k) (Some (taking.Number n)) → value_of look t ≡ Gives v → Halts (number_to n v) h → Halts (one_input look k t) h
  number_stops k t n v h e g s = subst (λ o. Halts o h) (sym (typed k t (input_type k) (taking.Number n) refl e ∙ ap (λ o. o >>= taken (taking.Number n) >>= λ v. Gives (One v)) g)) (stops (number_to n v) (λ v. Gives (One v)) h s)

  pub number_taken : (k : Accum) (t : Tree N) (n : Number) (v u : Val) (x : Value) → TakesAs (input_type k) (Some (taking.Number n)) → value_of look t ≡ Gives v → number_to n v ≡ Gives u → val x ≡ u → one_input look k t ≡ Gives (given (input.One x))
  number_taken k t n v u x e g c is = typed k t (input_type k) (taking.Number n) refl e ∙ ap (λ o. o >>= taken (taking.Number n) >>= λ v. Gives (One v)) g ∙ ap (λ o. o >>= λ v. Gives (One v)) c ∙ ap (λ v. Gives (One v)) (sym is) ∙ ap Gives (sym (given-One x))

pub keyed_found : (look : Look Reference) (k : Accum) (f : Feed) (keys es : List Expr) (feeds fs : List Feed) (ws : List Base) (row : List Value) (ys : List Input) → f ≡ feed.Keyed keys feeds → es ≡ keys → fs ≡ feeds → ws ≡ key_types k
    → arguments look (map Some ws) (views es) ≡ Gives (map val row) → inputs_of look (part_kinds k) (listed (map view_feed fs)) ≡ Gives (inputs_shown ys) → input_of look k (view_feed f) ≡ Gives (given (input.Keyed row ys))
keyed_found look k f keys es feeds fs ws row ys is a b e g h =
    ap (λ f. input_of look k (view_feed f)) is ∙ ap (input_of look k) (view_feed-Keyed keys feeds)
    ∙ keyed_given look k ws (views keys) (listed (map view_feed feeds)) row ys e (ap (λ es. arguments look (map Some ws) (views es)) (sym a) ∙ g) (ap (λ fs. inputs_of look (part_kinds k) (listed (map view_feed fs))) (sym b) ∙ h)

pub ruleset feed_laws = (keys_stop, parts_stop, keyed_given)

-- ---- INT attributes

within_int : (z : ℤ) → FitsSigned w64 z → is_within number.Int z ≡ true
within_int (pos n) h = let k : n < 2 ^ 63 = h.sfits in grind (arith, nat_tests)
within_int (negsuc n) h = let k : n < 2 ^ 63 = h.sfits in grind (arith, nat_tests)

-- an INT isn't changed by a conversion to INT
pub int_stays : (z : ℤ) → FitsSigned w64 z → number_to number.Int (Int z) ≡ Gives (Int z)
int_stays z h = ap (λ b. of_result (if b then Ok (Int z) else Err Range)) (within_int z h)

pub one_given : (x : Value) (v : Val) → val x ≡ v → given (input.One x) ≡ One v
one_given x v e = given-One x ∙ ap One e

pub int_given : (look : Look Reference) (k : Accum) (t : Tree Reference) (z : ℤ) (x : Input) → TakesAs (input_type k) (Some (taking.Number number.Int)) → value_of look t ≡ Gives (Int z)
    → number_to number.Int (Int z) ≡ Gives (Int z) → given x ≡ One (Int z) → one_input look k t ≡ Gives (given x)
int_given look k t z x e g stays is =
    typed look k t (input_type k) (taking.Number number.Int) refl e ∙ ap (λ o. o >>= taken (taking.Number number.Int) >>= λ v. Gives (One v)) g
    ∙ ap (λ o. o >>= λ v. Gives (One v)) stays ∙ ap Gives (sym is)

one_list : {A : Type 0} (xs : List A) (x : A) → 1 ≤ length xs → length xs < 2 → x ≡ get_or xs 0 x → xs ≡ x ∷ []
one_list [] x m n e = absurd (omega arith)
one_list (y ∷ []) x m n e = ap (λ z. z ∷ []) (sym e)
one_list (y ∷ z ∷ zs) x m n e = absurd (omega arith)

-- one part after a name
pub part_read : (look : Look Reference) (first : Expr) (parts : List code.Behind) (place : ℕ) (b : code.Behind) (v : Val) → first ≡ expr.Name place → 1 ≤ length parts → length parts < 2 → b ≡ get_or parts 0 b
    → part_value look (Place place) (view_behind b) ≡ Gives v → value_of look (Post (view first) (view_parts parts)) ≡ Gives v
part_read look first parts place b v is m n at e =
    ap (λ f. value_of look (Post (view f) (view_parts parts))) is
    ∙ ap (λ ps. value_of look (Post (view (expr.Name place)) (view_parts ps))) (one_list parts b m n at)
    ∙ ap (λ t. value_of look (Post t (view_parts (b ∷ [])))) (view-Name place)
    ∙ one_part (look.named (Place place)) ∙ e
  where
    last : (o : Outcome) → ((o >>= λ n. Gives n) >>= value_of_meant) ≡ (o >>= value_of_meant)
    last (Gives m) = refl
    last (Faults w) = refl
    last Stuck = refl

    one_part : (o : Outcome) → ((o >>= λ m. meaning_part look m (view_behind b) >>= λ n. Gives n) >>= value_of_meant) ≡ (o >>= λ m. meaning_part look m (view_behind b) >>= value_of_meant)
    one_part (Gives m) = last (meaning_part look m (view_behind b))
    one_part (Faults w) = refl
    one_part Stuck = refl

pub field_part : (look : Look Reference) (n : Reference) (b : code.Behind) (field : Field) (v : Val) → b ≡ behind.Field field → field_value look n (field_of field) ≡ Gives v → part_value look n (view_behind b) ≡ Gives v
field_part look n b field v is e = ap (λ b. part_value look n (view_behind b)) is ∙ ap (part_value look n) (view_behind-Field field) ∙ e

pub field_goes : (look : Look Reference) (n f : Reference) (m s : Meant) (v : Val) → look.named n ≡ Gives m → look.field m f ≡ Gives s → value_of_meant s ≡ Gives v → field_value look n f ≡ Gives v
field_goes look n f m s v a b c = ap (λ o. o >>= λ m. look.field m f >>= value_of_meant) a ∙ ap (λ o. o >>= value_of_meant) b ∙ c

pub ruleset one_laws = (not_taken, one_stops, taken_itself, number_stops, number_taken)

-- ---- the kinds of parts

kinds_are : (ps : List (Bytes × Kind)) → kinds_in (parts_of (map (λ p. (p.0, accum_of p.1)) ps)) ≡ map (λ p. accum_of p.1) ps
kinds_are [] = refl
kinds_are (p ∷ ps) = ap (λ ks. accum_of p.1 ∷ ks) (kinds_are ps)

kind_map : {A : Type 0} (f : A → Accum) (xs : List A) (i : ℕ) → slice_get (map f xs) i ≡ option_map f (slice_get xs i)
kind_map f [] i = refl
kind_map f (x ∷ xs) zero = refl
kind_map f (x ∷ xs) (suc i) = kind_map f xs i

kinds_at : (k : Kind) (s : GroupShape) (i : ℕ) → k ≡ kind.Group s → slice_get (part_kinds (accum_of k)) i ≡ option_map (λ p. accum_of p.1) (slice_get s.parts i)
kinds_at k s i e = ap (λ k. slice_get (part_kinds (accum_of k)) i) e ∙ ap (λ a. slice_get (part_kinds a) i) (accum_of-Group s) ∙ ap (λ ks. slice_get ks i) (kinds_are s.parts) ∙ kind_map (λ p. accum_of p.1) s.parts i

pub group_kind : (k : Kind) (s : GroupShape) (i : ℕ) (p : Bytes × Kind) → k ≡ kind.Group s → slice_get s.parts i ≡ Some p → slice_get (part_kinds (accum_of k)) i ≡ Some (accum_of p.1)
group_kind k s i p e is = kinds_at k s i e ∙ ap (option_map (λ p. accum_of p.1)) is

pub group_past : (k : Kind) (s : GroupShape) (i : ℕ) → k ≡ kind.Group s → slice_get s.parts i ≡ None → slice_get (part_kinds (accum_of k)) i ≡ None
group_past k s i e is = kinds_at k s i e ∙ ap (option_map (λ p. accum_of p.1)) is

pub map_past : (k : Accum) (i : ℕ) → (i ≡ 0 → ⊥) → slice_get (k ∷ []) i ≡ None
map_past k zero h = absurd (h refl)
map_past k (suc i) h = refl

pub ruleset kind_laws = (group_kind, group_past, map_past)

-- ---- parts in order

-- inputs followed by others
abbrev in_front : Givens → Givens → Givens
in_front no_given ys = ys
in_front (given_and x xs) ys = given_and x (in_front xs ys)

-- earlier inputs, followed by these
abbrev pub after_inputs : Givens → Answer Wrong Givens → Answer Wrong Givens
after_inputs xs o = o >>= λ ys. Gives (in_front xs ys)

in_front_none : (xs : Givens) → in_front xs no_given ≡ xs
in_front_none no_given = refl
in_front_none (given_and x xs) = ap (given_and x) (in_front_none xs)

in_front_one : (xs ys : Givens) (y : Given) → in_front xs (given_and y ys) ≡ in_front (in_front xs (given_and y no_given)) ys
in_front_one no_given ys y = refl
in_front_one (given_and x xs) ys y = ap (given_and x) (in_front_one xs ys y)

shown_more : (xs : List Input) (x : Input) → inputs_shown (xs ++ x ∷ []) ≡ in_front (inputs_shown xs) (given_and (given x) no_given)
shown_more [] x = refl
shown_more (y ∷ xs) x = ap (given_and (given y)) (shown_more xs x)

-- the inputs so far, followed by the remaining parts
abbrev pub FedTo : Look Reference → List Accum → List Feed → ℕ → List Input → Type 0
FedTo look ks fs i xs = inputs_of look ks (listed (map view_feed fs)) ≡ after_inputs (inputs_shown xs) (inputs_of look (drop i ks) (listed (map view_feed (drop i fs))))

at_feed : (fs : List Feed) (i : ℕ) (f : Feed) → i < length fs → f ≡ get_or fs i f → drop i fs ≡ f ∷ drop (i + 1) fs
at_feed fs i f n is = drop_more fs i f n ∙ ap (λ x. x ∷ drop (i + 1) fs) (sym is)

at_part : (ks : List Accum) (i : ℕ) (k : Accum) → slice_get ks i ≡ Some k → drop i ks ≡ k ∷ drop (i + 1) ks
at_part ks i k e = drop_more ks i k (slice_get_within ks i k e) ∙ ap (λ x. x ∷ drop (i + 1) ks) (get_or_from_slice_get ks i k k e)

past_part : (ks : List Accum) (i : ℕ) → slice_get ks i ≡ None → drop i ks ≡ []
past_part [] zero e = refl
past_part [] (suc i) e = refl
past_part (k ∷ ks) zero e = absurd (cc e)
past_part (k ∷ ks) (suc i) e = past_part ks i e

fed_here : (look : Look Reference) (ks : List Accum) (fs : List Feed) (i : ℕ) (xs : List Input) (f : Feed) (js : List Accum) → FedTo look ks fs i xs → i < length fs → f ≡ get_or fs i f → drop i ks ≡ js
    → inputs_of look ks (listed (map view_feed fs)) ≡ after_inputs (inputs_shown xs) (inputs_of look js (input_and (view_feed f) (listed (map view_feed (drop (i + 1) fs)))))
fed_here look ks fs i xs f js inv n is e = inv ∙ ap (λ gs. after_inputs (inputs_shown xs) (inputs_of look (drop i ks) (listed (map view_feed gs)))) (at_feed fs i f n is)
    ∙ ap (λ js. after_inputs (inputs_shown xs) (inputs_of look js (input_and (view_feed f) (listed (map view_feed (drop (i + 1) fs)))))) e

pub fed_past : (look : Look Reference) (ks : List Accum) (fs : List Feed) (i : ℕ) (xs : List Input) (f : Feed) → FedTo look ks fs i xs → i < length fs → f ≡ get_or fs i f → slice_get ks i ≡ None → inputs_of look ks (listed (map view_feed fs)) ≡ Stuck
fed_past look ks fs i xs f inv n is e = fed_here look ks fs i xs f [] inv n is (past_part ks i e)

pub fed_stops : (look : Look Reference) (ks : List Accum) (fs : List Feed) (i : ℕ) (xs : List Input) (f : Feed) (k : Accum) (h : Halt) → FedTo look ks fs i xs → i < length fs → f ≡ get_or fs i f → slice_get ks i ≡ Some k
    → Halts (input_of look k (view_feed f)) h → Halts (inputs_of look ks (listed (map view_feed fs))) h
fed_stops look ks fs i xs f k h inv n is e s = subst (λ o. Halts o h) (sym (fed_here look ks fs i xs f (k ∷ drop (i + 1) ks) inv n is (at_part ks i k e)))
    (stops (input_of look k (view_feed f) >>= λ y. inputs_of look (drop (i + 1) ks) (listed (map view_feed (drop (i + 1) fs))) >>= λ ys. Gives (given_and y ys)) _ h (stops (input_of look k (view_feed f)) _ h s))

after_one : (xs : Givens) (y : Given) (o : Answer Wrong Givens) → after_inputs xs (o >>= λ ys. Gives (given_and y ys)) ≡ after_inputs (in_front xs (given_and y no_given)) o
after_one xs y (Gives ys) = ap Gives (in_front_one xs ys y)
after_one xs y (Faults w) = refl
after_one xs y Stuck = refl

pub fed_more : (look : Look Reference) (ks : List Accum) (fs : List Feed) (i : ℕ) (xs new : List Input) (f : Feed) (k : Accum) (x : Input) → FedTo look ks fs i xs → i < length fs → f ≡ get_or fs i f → slice_get ks i ≡ Some k
    → input_of look k (view_feed f) ≡ Gives (given x) → new ≡ xs ++ x ∷ [] → FedTo look ks fs (i + 1) new
fed_more look ks fs i xs new f k x inv n is e g push =
    fed_here look ks fs i xs f (k ∷ drop (i + 1) ks) inv n is (at_part ks i k e)
    ∙ ap (λ o. after_inputs (inputs_shown xs) (o >>= λ y. inputs_of look (drop (i + 1) ks) (listed (map view_feed (drop (i + 1) fs))) >>= λ ys. Gives (given_and y ys))) g
    ∙ after_one (inputs_shown xs) (given x) (inputs_of look (drop (i + 1) ks) (listed (map view_feed (drop (i + 1) fs))))
    ∙ ap (λ zs. after_inputs zs (inputs_of look (drop (i + 1) ks) (listed (map view_feed (drop (i + 1) fs))))) (sym (shown_more xs x) ∙ ap inputs_shown (sym push))

-- at the end of the feeds
fed_end : (look : Look Reference) (ks : List Accum) (fs : List Feed) (i : ℕ) (xs : List Input) → FedTo look ks fs i xs → length fs ≤ i → i ≤ length fs → inputs_of look ks (listed (map view_feed fs)) ≡ after_inputs (inputs_shown xs) (inputs_of look (drop (length fs) ks) no_input)
fed_end look ks fs i xs inv l m = inv ∙ ap (λ gs. after_inputs (inputs_shown xs) (inputs_of look (drop i ks) (listed (map view_feed gs)))) (drop_all i fs l)
    ∙ ap (λ n. after_inputs (inputs_shown xs) (inputs_of look (drop n ks) no_input)) (let e : i ≡ length fs = omega (arith, l, m) in e)

pub fed_few : (look : Look Reference) (ks : List Accum) (fs : List Feed) (i : ℕ) (xs : List Input) (k : Accum) → FedTo look ks fs i xs → length fs ≤ i → i ≤ length fs → slice_get ks (length fs) ≡ Some k → inputs_of look ks (listed (map view_feed fs)) ≡ Stuck
fed_few look ks fs i xs k inv l m e = fed_end look ks fs i xs inv l m ∙ ap (λ js. after_inputs (inputs_shown xs) (inputs_of look js no_input)) (at_part ks (length fs) k e)

pub fed_all : (look : Look Reference) (ks : List Accum) (fs : List Feed) (i : ℕ) (xs : List Input) → FedTo look ks fs i xs → length fs ≤ i → i ≤ length fs → slice_get ks (length fs) ≡ None → inputs_of look ks (listed (map view_feed fs)) ≡ Gives (inputs_shown xs)
fed_all look ks fs i xs inv l m e =
    fed_end look ks fs i xs inv l m
    ∙ ap (λ js. after_inputs (inputs_shown xs) (inputs_of look js no_input)) (past_part ks (length fs) e)
    ∙ ap Gives (in_front_none (inputs_shown xs))

pub fed_first : (look : Look Reference) (ks : List Accum) (fs : List Feed) (xs : List Input) → xs ≡ [] → FedTo look ks fs 0 xs
fed_first look ks fs xs e = start (inputs_of look ks (listed (map view_feed fs))) ∙ ap (λ xs. after_inputs (inputs_shown xs) (inputs_of look ks (listed (map view_feed fs)))) (sym e)
  where
    start : (o : Answer Wrong Givens) → o ≡ after_inputs no_given o
    start (Gives ys) = refl
    start (Faults w) = refl
    start Stuck = refl

pub ruleset parts_laws = (fed_past, fed_stops, fed_more, fed_few, fed_all, fed_first)
