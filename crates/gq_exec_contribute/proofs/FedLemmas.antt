-- FedLemmas: an input that is read is the meaning of the input.
use Rattle.std.proofs.Common.{◌≡◌, ℕ, suc, Bool, if◌then◌else◌, List, [], ◌∷◌, ◌++◌, map, take, drop, length, Some, Ok, Err, refl, sym, ap, ap₂, subst, ◌∙◌, arith}
use Rattle.std.specs.Prelude.{ℤ, slice_get}
use Rattle.std.specs.List.{All}
use Rattle.std.specs.Int.{w64}
use Rattle.std.specs.Int.RustNames.{FitsSigned}
use Rattle.std.proofs.lemmas.List.Elements.{All-nil, All-cons, All-head, All-tail}
use Rattle.std.proofs.Math.Seq.{take-append_seam, drop-append_seam}
use Rattle.gq_tree.specs.Tree as tree
use Rattle.gq_tree.specs.Tree.{Tree}
use Rattle.gq_value.specs.Val.{Val, Int, Truth, Tuple, vals_of}
use Rattle.gq_value.specs.Views.{val}
use Rattle.gq_value.specs.ViewLaws.{val-Int, val-Bool, val-Tuple}
use Rattle.gq_value.proofs.AccumLemmas.{given-One, given-Keyed}
use Rattle.gq_value.specs.AccumViews.{base_of, given, givens}
use Rattle.gq_value.specs.Accums.{Accum, Base, Given, Givens, One, Keyed, INT, BOOL, TUPLE}
use Rattle.gq_value.specs.Typed.{suits}
use Rattle.gq_value.specs.declared.kind.BaseType.{BaseType}
use Rattle.gq_value.specs.declared.kind.Input.TheVariants as input
use Rattle.gq_value.specs.declared.value.Value.TheVariants as value
use Rattle.gq_value.specs.declared.value.Wrong.{Wrong}
use Rattle.gq_value.specs.declared.value.Wrong.TheVariants.{Range}
use Rattle.gq_graph.specs.declared.rows.Candidate.{Candidate}
use Rattle.gq_rules_typing.specs.Kinds.{key_types, part_kinds}
use Rattle.gq_rules_typing.specs.Selecting as plain
use Rattle.gq_rules_typing.specs.Selecting.{Keys, Plain}
use Rattle.gq_rules_typing.specs.SelectViews.{inputs_of as listed}
use Rattle.gq_rules_meaning.specs.Answers.{Answer, Gives, Faults, Stuck, ◌>>=◌, found, of_result}
use Rattle.gq_rules_meaning.specs.Blocks.{input_of, inputs_of}
use Rattle.gq_rules_meaning.specs.Calendars.{Calendar}
use Rattle.gq_rules_meaning.specs.Expressions.{Look, arguments, value_of, truth_of, value_as, wanted}
use Rattle.gq_rules_meaning.specs.Meanings.{converted_to, as_truth, value_of_meant}
use Rattle.gq_plan_ir.specs.declared.block.Feed.{Feed}
use Rattle.gq_plan_ir.specs.declared.block.Feed.TheVariants as feed
use Rattle.gq_plan_ir.specs.declared.expr.Expr.{Expr}
use Rattle.gq_plan_ir.specs.declared.expr.Expr.TheVariants as expr
use Rattle.gq_plan_ir.specs.declared.expr.Function as code_function
use Rattle.gq_plan_ir.specs.declared.expr.Function.TheVariants as a_function
use Rattle.gq_plan_ir.specs.ExprView.{view, views, function_of}
use Rattle.gq_plan_ir.proofs.ViewLaws.{view-Call, view_feed-Keyed, view_feed-One}
use Rattle.gq_plan_ir.specs.BlockView.{view_feed}
use Rattle.gq_plan_ir.specs.Reference.{Reference, TupleType}
use Rattle.gq_exec_feed.proofs.SuitLemmas.{within_int}
use Rattle.gq_eval_builtins.proofs.CallSteps.{made_goes}
use Rattle.gq_eval_attributes.specs.declared.tuple_type.TupleType.{TupleType as TypeOfTuples}
use Rattle.gq_eval_context.specs.Viewed.{Over, viewed}
use Rattle.gq_eval_context.proofs.SeesLemmas.{tuple_there}
use Rattle.gq_exec_contribute.specs.declared.cells.Taken.{Taken}
use Rattle.gq_exec_contribute.specs.declared.cells.Taken.TheVariants as taken
use Rattle.gq_exec_contribute.specs.declared.rows.Ints.{Ints}
use Rattle.gq_exec_contribute.specs.declared.scalars.ScalarInput.{ScalarInput}
use Rattle.gq_exec_contribute.specs.declared.scalars.ScalarInput.TheVariants as scalar
use Rattle.gq_frame.specs.declared.accums.Accums.{Accums}
use Rattle.gq_exec_contribute.specs.declared.leaves.Leaves.{Leaves}
use Rattle.gq_exec_contribute.specs.Aliases.{bound_to}
use Rattle.gq_exec_contribute.specs.Scalars.{ints_of, one_int, made_of}
use Rattle.gq_exec_contribute.specs.Prepared.{TakesInts, IsInt, IsTruth, IsNumber, IsPart, IsTuple, IsFed, HasInts, AllPairs, AddsKeys, AddsParts, parts_given, sees_in}
use Rattle.gq_exec_contribute.proofs.RowLemmas.{pairs_long, pairs_each}

-- ---- one value

given_int : (x : ℤ) → given (one_int x) ≡ One (Int x)
given_int x = given-One (value.Int x) ∙ ap One (val-Int x)

int_given : (look : Look Reference) (t : Tree Reference) (x : ℤ) (k : Accum) → FitsSigned w64 x → IsInt look t x → TakesInts k → input_of look k (Plain t) ≡ Gives (One (Int x))
int_given look t x k fits is takes =
    ap (λ o. found o >>= λ b. value_as look b t >>= λ v. Gives (One v)) takes.typed
    ∙ ap (λ o. (o >>= converted_to INT) >>= λ v. Gives (One v)) is
    ∙ ap (λ b. of_result (if b then Ok (Int x) else Err Range) >>= λ v. Gives (One v)) (within_int x fits)

pub int_fed : (look : Look Reference) (t : Tree Reference) (x : ℤ) → FitsSigned w64 x → IsInt look t x → IsFed look (Plain t) taken.Int (scalar.Int x)
int_fed look t x fits is = record { each = λ k takes. record { input = int_given look t x k fits is takes ∙ sym (ap Gives (given_int x)); suited = ap (suits k) (given_int x) ∙ takes.suited x fits } }

pub element_fed : (look : Look Reference) (t : Tree Reference) (x : ℤ) → FitsSigned w64 x → IsInt look t x → IsFed look (Plain t) taken.Element (scalar.Element x)
element_fed look t x fits is = record { each = λ k takes. record { input = int_given look t x k fits is takes ∙ sym (ap Gives (given_int x)); suited = ap (suits k) (given_int x) ∙ takes.suited x fits } }

-- an expression that is a truth has that value
truth_value : (look : Look Reference) (t : Tree Reference) (b : Bool) → truth_of look t ≡ Gives b → value_of look t ≡ Gives (Truth b)
truth_value look t b e = go (value_of look t) e
  where
    of_value : (v : Val) → as_truth v ≡ Gives b → v ≡ Truth b
    of_value (Truth d) h = cc
    of_value _ h = absurd (cc)

    go : (o : Answer Wrong Val) → (o >>= as_truth) ≡ Gives b → o ≡ Gives (Truth b)
    go (Gives v) h = ap Gives (of_value v h)
    go (Faults w) h = absurd (cc)
    go Stuck h = absurd (cc)

given_truth : (b : Bool) → given (input.One (value.Bool b)) ≡ One (Truth b)
given_truth b = given-One (value.Bool b) ∙ ap One (val-Bool b)

pub truth_fed : (look : Look Reference) (t : Tree Reference) (b : Bool) → IsTruth look t b → IsFed look (Plain t) taken.Truth (scalar.Truth b)
truth_fed look t b is = record {
  each = λ k takes. record {
    input = ap (λ o. found o >>= λ b. value_as look b t >>= λ v. Gives (One v)) takes.typed ∙ ap (λ o. (o >>= converted_to BOOL) >>= λ v. Gives (One v)) (truth_value look t b is) ∙ sym (ap Gives (given_truth b));
    suited = ap (suits k) (given_truth b) ∙ takes.suited b;
  };
}

vals_int : (xs : List ℤ) → map val (map value.Int xs) ≡ map Int xs
vals_int [] = refl
vals_int (x ∷ xs) = ap₂ ◌∷◌ (val-Int x) (vals_int xs)

given_tuple : (xs : List ℤ) → given (input.One (value.Tuple (map value.Int xs))) ≡ One (Tuple (vals_of (map Int xs)))
given_tuple xs = given-One (value.Tuple (map value.Int xs)) ∙ ap One (val-Tuple (map value.Int xs) ∙ ap (λ l. Tuple (vals_of l)) (vals_int xs))

pub tuple_fed : (look : Look Reference) (t : Tree Reference) (n : ℕ) (row : Ints) → IsTuple look t n row → IsFed look (Plain t) (taken.Tuple n) (scalar.Tuple row)
tuple_fed look t n row is = record {
  each = λ k takes. record {
    input =
        ap (λ o. found o >>= λ b. value_as look b t >>= λ v. Gives (One v)) takes.typed
        ∙ ap (λ o. (o >>= converted_to (TUPLE takes.number takes.fields)) >>= λ v. Gives (One v)) is.is
        ∙ sym (ap Gives (given_tuple (ints_of row)));
    suited = ap (suits k) (given_tuple (ints_of row)) ∙ takes.suited (ints_of row) is.many is.fit;
  };
}

pub ruleset one_laws = (int_fed, element_fed, truth_fed, tuple_fed)

-- one value as a feed
pub one_moved : (look : Look Reference) (f : Feed) (e : Expr) (takes : Taken) (x : ScalarInput) → f ≡ feed.One e → IsFed look (Plain (view e)) takes x → IsFed look (view_feed f) takes x
one_moved look f e takes x is fed = subst (λ (g : plain.Input Reference). IsFed look g takes x) (sym (ap view_feed is ∙ view_feed-One e)) fed

-- ---- keys and parts

module _ (look : Look Reference) where
  abbrev Key : Expr → ℤ → Type 0
  Key e x = IsNumber look (view e) x

  one_wanted : (b : Base) (x : ℤ) → b ≡ INT → FitsSigned w64 x → wanted (Some b) (Int x) ≡ Gives (Int x)
  one_wanted b x e fits = ap (λ (b : Base). wanted (Some b) (Int x)) e ∙ ap (λ b. of_result (if b then Ok (Int x) else Err Range)) (within_int x fits)

  -- INTs as arguments of type INT
  ints_wanted : (ws : List Base) (es : List Expr) (xs : List ℤ) → All (λ (b : Base). b ≡ INT) ws → length es ≡ length ws → AllPairs Key es xs → arguments look (map Some ws) (views es) ≡ Gives (map Int xs)
  ints_wanted ws [] [] h l p = refl
  ints_wanted ws [] (x ∷ xs) h l p = absurd p
  ints_wanted [] (e ∷ es) xs h l p = absurd (omega (arith, l))
  ints_wanted (w ∷ ws) (e ∷ es) [] h l p = absurd p
  ints_wanted (w ∷ ws) (e ∷ es) (x ∷ xs) h l p =
      ap (λ o. o >>= wanted (Some w) >>= λ v. arguments look (map Some ws) (views es) >>= λ vs. Gives (v ∷ vs)) p.0.is
      ∙ ap (λ o. o >>= λ v. arguments look (map Some ws) (views es) >>= λ vs. Gives (v ∷ vs)) (one_wanted w x (All-head (λ (b : Base). b ≡ INT) w ws h) p.0.fits)
      ∙ ap (λ o. o >>= λ vs. Gives (Int x ∷ vs)) (ints_wanted ws es xs (All-tail (λ (b : Base). b ≡ INT) w ws h) (omega (arith, l)) p.1)

  -- INTs as inputs of parts that take INTs
  ints_given : (ks : List Accum) (fs : List Feed) (ys : List ℤ) → All TakesInts ks → length fs ≡ length ks → AllPairs (IsPart look) fs ys → inputs_of look ks (listed (map view_feed fs)) ≡ Gives (parts_given ys)
  ints_given [] [] [] h l p = refl
  ints_given (k ∷ ks) [] ys h l p = absurd (omega (arith, l))
  ints_given [] [] (y ∷ ys) h l p = absurd p
  ints_given [] (f ∷ fs) ys h l p = absurd (omega (arith, l))
  ints_given (k ∷ ks) (f ∷ fs) [] h l p = absurd p
  ints_given (k ∷ ks) (f ∷ fs) (y ∷ ys) h l p =
      ap (λ x. input_of look k x >>= λ y. inputs_of look ks (listed (map view_feed fs)) >>= λ ys. Gives (Rattle.gq_value.specs.Accums.given_and y ys)) p.0.one
      ∙ ap (λ o. o >>= λ y. inputs_of look ks (listed (map view_feed fs)) >>= λ ys. Gives (Rattle.gq_value.specs.Accums.given_and y ys)) (int_given look p.0.tree y k p.0.number.fits p.0.number.is (All-head TakesInts k ks h))
      ∙ ap (λ o. o >>= λ ys. Gives (Rattle.gq_value.specs.Accums.given_and (One (Int y)) ys)) (ints_given ks fs ys (All-tail TakesInts k ks h) (omega (arith, l)) p.1)

parts_shown : (ys : List ℤ) → givens (map given (map one_int ys)) ≡ parts_given ys
parts_shown [] = refl
parts_shown (y ∷ ys) = ap₂ Rattle.gq_value.specs.Accums.given_and (given_int y) (parts_shown ys)

given_keyed : (xs ys : List ℤ) → given (input.Keyed (map value.Int xs) (map one_int ys)) ≡ Keyed (map Int xs) (parts_given ys)
given_keyed xs ys = given-Keyed (map value.Int xs) (map one_int ys) ∙ ap₂ Keyed (vals_int xs) (parts_shown ys)

made_keyed : (n : ℕ) (row : Ints) (xs ys : List ℤ) → ints_of row ≡ xs ++ ys → length xs ≡ n → given (made_of (scalar.Keyed n row)) ≡ Keyed (map Int xs) (parts_given ys)
made_keyed n row xs ys e l =
    ap₂ (λ (us vs : List ℤ). given (input.Keyed (map value.Int us) (map one_int vs)))
    (ap (take n) e ∙ ap (λ (m : ℕ). take m (xs ++ ys)) (sym l) ∙ take-append_seam xs ys)
    (ap (drop n) e ∙ ap (λ (m : ℕ). drop m (xs ++ ys)) (sym l) ∙ drop-append_seam xs ys)
    ∙ given_keyed xs ys

keys_fed : (look : Look Reference) (keys : List Expr) (parts : List Feed) (n m : ℕ) (row : Ints) (xs ys : List ℤ) → length keys ≡ n → length parts ≡ m → ints_of row ≡ xs ++ ys → AllPairs (λ e x. IsNumber look (view e) x) keys xs → AllPairs (IsPart look) parts ys
    → IsFed look (Keys (views keys) (listed (map view_feed parts))) (taken.Keyed n m) (scalar.Keyed n row)
keys_fed look keys parts n m row xs ys a b e p q =
    let l = sym (pairs_long (λ e x. IsNumber look (view e) x) keys xs p) ∙ a in let r = sym (pairs_long (IsPart look) parts ys q) ∙ b in record {
      each = λ k takes. record {
        input =
            ap (λ o. o >>= λ vs. inputs_of look (part_kinds k) (listed (map view_feed parts)) >>= λ ys. Gives (Keyed vs ys)) (ints_wanted look (key_types k) keys xs takes.keys (a ∙ sym takes.key_count) p)
            ∙ ap (λ o. o >>= λ ys. Gives (Keyed (map Int xs) ys)) (ints_given look (part_kinds k) parts ys takes.parts (b ∙ sym takes.part_count) q)
            ∙ sym (ap Gives (made_keyed n row xs ys e l));
        suited =
            ap (suits k) (made_keyed n row xs ys e l)
            ∙ takes.suited xs ys l r (pairs_each (λ e x. IsNumber look (view e) x) (FitsSigned w64) (λ e x h. h.fits) keys xs p) (pairs_each (IsPart look) (FitsSigned w64) (λ f y h. h.number.fits) parts ys q);
      };
    }

pub keyed_fed : (look : Look Reference) (keys : List Expr) (parts : List Feed) (n m : ℕ) (none some all : Ints) → length keys ≡ n → length parts ≡ m → ints_of none ≡ [] → AddsKeys look keys none some → AddsParts look parts some all
    → IsFed look (Keys (views keys) (listed (map view_feed parts))) (taken.Keyed n m) (scalar.Keyed n all)
keyed_fed look keys parts n m none some all a b e p q = keys_fed look keys parts n m all p.ints q.ints a b (q.added ∙ ap (λ l. l ++ q.ints) (p.added ∙ ap (λ l. l ++ p.ints) e)) p.are q.are

pub ruleset keyed_laws = (keyed_fed)

-- ---- tuples

pub tuple_made : (clock : Calendar) (o : Over) (l : Leaves) (accums : Accums) (c : Candidate) (es : List Expr) (n count : ℕ) (none row : Ints) → length es ≡ count → HasInts o n count → ints_of none ≡ [] → AddsKeys (sees_in clock o l accums c) es none row
    → IsTuple (sees_in clock o l accums c) (tree.Call (TupleType n) (views es)) count row
tuple_made clock o l accums c es n count none row long has e p = let all : ints_of row ≡ p.ints = p.added ∙ ap (λ l. l ++ p.ints) e in record {
  is =
      ap (λ o. o >>= value_of_meant) (made_goes (sees_in clock o l accums c) (TupleType n) (views es) n (map base_of has.type.types) (map Int p.ints)
      (tuple_there clock (viewed o (bound_to l.ends.now l.edge c) accums o.frame.accums) n has.type has.there)
      (ints_wanted (sees_in clock o l accums c) (map base_of has.type.types) es p.ints (bases_all has.type.types has.ints) (long ∙ sym has.many ∙ sym (bases_many has.type.types)) p.are))
      ∙ sym (ap (λ xs. Gives (Tuple (vals_of (map Int xs)))) all);
  many = ap length all ∙ sym (pairs_long (λ e x. IsNumber (sees_in clock o l accums c) (view e) x) es p.ints p.are) ∙ long;
  fit = subst (All (FitsSigned w64)) (sym all) (pairs_each (λ e x. IsNumber (sees_in clock o l accums c) (view e) x) (FitsSigned w64) (λ e x h. h.fits) es p.ints p.are);
}
  where
    bases_all : (bs : List BaseType) → All (λ (b : BaseType). base_of b ≡ INT) bs → All (λ (b : Base). b ≡ INT) (map base_of bs)
    bases_all [] h = All-nil (λ (b : Base). b ≡ INT)
    bases_all (b ∷ bs) h = All-cons (λ (b : Base). b ≡ INT) (base_of b) (map base_of bs) (All-head (λ (b : BaseType). base_of b ≡ INT) b bs h) (bases_all bs (All-tail (λ (b : BaseType). base_of b ≡ INT) b bs h))

    bases_many : (bs : List BaseType) → length (map base_of bs) ≡ length bs
    bases_many [] = refl
    bases_many (b ∷ bs) = ap suc (bases_many bs)

pub has_ints : (o : Over) (n count : ℕ) (t : TypeOfTuples) (bs : List BaseType) → slice_get o.tuples n ≡ Some t → bs ≡ t.types → length t.types ≡ count → All (λ (b : BaseType). base_of b ≡ INT) bs → HasInts o n count
has_ints o n count t bs there same many ints = record { type = t; there = there; many = many; ints = subst (All (λ (b : BaseType). base_of b ≡ INT)) same ints }

-- ---- the plan's own trees

pub call_view : (e : Expr) (f : code_function.Function) (arguments es : List Expr) (n : ℕ) (fs : List BaseType) → e ≡ expr.Call f arguments → f ≡ a_function.Tuple n fs → es ≡ arguments → view e ≡ tree.Call (TupleType n) (views es)
call_view e f arguments es n fs is made same = ap view is ∙ view-Call f arguments ∙ ap (λ f. tree.Call (function_of f) (views arguments)) made ∙ sym (ap (λ es. tree.Call (TupleType n) (views es)) same)

pub keys_view : (f : Feed) (keys es : List Expr) (parts fs : List Feed) → f ≡ feed.Keyed keys parts → es ≡ keys → fs ≡ parts → view_feed f ≡ Keys (views es) (listed (map view_feed fs))
keys_view f keys es parts fs is a b = ap view_feed is ∙ view_feed-Keyed keys parts ∙ sym (ap₂ (λ es fs. Keys (views es) (listed (map view_feed fs))) a b)
