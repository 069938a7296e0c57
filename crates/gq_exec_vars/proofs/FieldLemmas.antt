-- FieldLemmas: declared types, and the fields of a tuple type one after the other.
use Rattle.std.proofs.Common.{◌≡◌, ℕ, ◌+◌, ◌<◌, ◌≤◌, ◌==◌, Bool, true, false, not, List, [], ◌∷◌, ◌++◌, drop, map, length, get_or, Ok, Err, refl, sym, ap, ap₂, subst, ◌∙◌, arith}
use Rattle.std.specs.List.{list_any, zip}
use Rattle.std.specs.Prelude.{nat_lt}
use Rattle.std.proofs.lemmas.Bool.Decides.{nat_tests}
use Rattle.std.proofs.lemmas.List.{append_assoc, append-nil, drop_more, drop_all}
use Rattle.gq_value.specs.declared.kind.BaseType.{BaseType}
use Rattle.gq_value.specs.declared.kind.BaseType.TheVariants as base
use Rattle.gq_value.specs.Accums.{Base, VERTEX_OF}
use Rattle.gq_value.specs.AccumViews.{base_of}
use Rattle.gq_rules_typing.specs.Statements.{BaseTree, Bytes}
use Rattle.gq_rules_typing.specs.Sorts.{Fields}
use Rattle.gq_rules_typing.specs.Judging as judging
use Rattle.gq_rules_typing.specs.Judging.{Judged, ◌>>=◌, ◌>>◌, or_fault, unless}
use Rattle.gq_rules_typing.specs.Scopes.{base_written, unknown}
use Rattle.gq_rules_typing.specs.KindTypes.{fields_written, own_name, stands_in}
use Rattle.gq_value.specs.declared.value.Wrong.{Wrong}
use Rattle.gq_rules_meaning.specs.Answers.{Gives, Stuck}
use Rattle.gq_rules_meaning.specs.Expressions.{World, setting}
use Rattle.gq_rules_meaning.specs.Queries.{judged, scope_of}
use Rattle.gq_plan_ir.specs.declared.plan.Declared.{Declared}
use Rattle.gq_plan_ir.specs.declared.plan.Declared.TheVariants as declared
use Rattle.gq_plan_ir.specs.PlanView.{view_declared}
use Rattle.gq_plan_ir.specs.Reference.{Reference, VertexType}
use Rattle.gq_eval_operand.proofs.ConvertLemmas.{base_of-Int, base_of-UInt, base_of-Bool, base_of-Text, base_of-AnyVertex, base_of-VertexOf}
use Rattle.gq_eval_attributes.specs.declared.tuple_type.TupleType.{TupleType}
use Rattle.gq_eval_operand.specs.declared.halt.Halt.TheVariants as halt
use Rattle.gq_exec_vars.specs.Begun.{FieldsHalt, HasFields, IsDeclared, IsForeign, KnowsTypes, is_refused}
use Rattle.gq_exec_vars.proofs.NameLemmas.{no_vertex_runs, vertex_runs}

-- ---- declared types

same_declared : (own : List ℕ) (d d' : Declared) (b b' : BaseType) → d ≡ d' → b ≡ b' → IsDeclared own d' b' → IsDeclared own d b
same_declared own d d' b b' e is h = subst (λ x. IsDeclared own x b) (sym e) (subst (IsDeclared own d') (sym is) h)

pub is_int : (own : List ℕ) (d : Declared) (b : BaseType) → d ≡ declared.Int → b ≡ base.Int → IsDeclared own d b
is_int own d b e is = same_declared own d declared.Int b base.Int e is (record { runs = λ world known. ap Gives (sym base_of-Int); written = λ world known. ap Ok (sym base_of-Int) })

pub is_uint : (own : List ℕ) (d : Declared) (b : BaseType) → d ≡ declared.UInt → b ≡ base.UInt → IsDeclared own d b
is_uint own d b e is = same_declared own d declared.UInt b base.UInt e is (record { runs = λ world known. ap Gives (sym base_of-UInt); written = λ world known. ap Ok (sym base_of-UInt) })

pub is_bool : (own : List ℕ) (d : Declared) (b : BaseType) → d ≡ declared.Bool → b ≡ base.Bool → IsDeclared own d b
is_bool own d b e is = same_declared own d declared.Bool b base.Bool e is (record { runs = λ world known. ap Gives (sym base_of-Bool); written = λ world known. ap Ok (sym base_of-Bool) })

pub is_text : (own : List ℕ) (d : Declared) (b : BaseType) → d ≡ declared.Text → b ≡ base.Text → IsDeclared own d b
is_text own d b e is = same_declared own d declared.Text b base.Text e is (record { runs = λ world known. ap Gives (sym base_of-Text); written = λ world known. ap Ok (sym base_of-Text) })

pub is_vertex : (own : List ℕ) (d : Declared) (b : BaseType) → d ≡ declared.AnyVertex → b ≡ base.AnyVertex → IsDeclared own d b
is_vertex own d b e is = same_declared own d declared.AnyVertex b base.AnyVertex e is (record { runs = λ world known. ap Gives (sym base_of-AnyVertex); written = λ world known. ap Ok (sym base_of-AnyVertex) })

pub is_vertex_of : (own : List ℕ) (d : Declared) (b : BaseType) (t : ℕ) → d ≡ declared.VertexOf t → b ≡ base.VertexOf t → list_any (λ m. m == t) own ≡ true → IsDeclared own d b
is_vertex_of own d b t e is known_one = same_declared own d (declared.VertexOf t) b (base.VertexOf t) e is (record {
  runs = λ world known. vertex_runs own t world known known_one ∙ ap Gives (sym (base_of-VertexOf t));
  written = λ world known. ap (λ o. or_fault (unknown (scope_of (setting world)) (VertexType t)) o >>= λ n. Ok (VERTEX_OF n)) (known.each t known_one) ∙ ap Ok (sym (base_of-VertexOf t));
})

pub foreign_type : (own : List ℕ) (d : Declared) (t : ℕ) → d ≡ declared.VertexOf t → list_any (λ m. m == t) own ≡ false → IsForeign own d
foreign_type own d t e none = subst (IsForeign own) (sym e) (record {
  runs = λ world known. no_vertex_runs own t world known none;
  written = λ world known. ap (λ o. is_refused (or_fault (unknown (scope_of (setting world)) (VertexType t)) o >>= λ n. Ok (VERTEX_OF n))) (known.none t none);
})

pub ruleset declared_laws = (is_int, is_uint, is_bool, is_text, is_vertex, is_vertex_of)

-- ---- fields

abbrev pub field_view : Declared × Bytes → BaseTree Reference × Bytes
field_view f = (view_declared f.0, f.1)

-- written fields, after others
abbrev before : Fields → Judged Fields → Judged Fields
before done j = j >>= λ rest. Ok (done ++ rest)

abbrev pub paired : List Bytes → List BaseType → Fields
paired names types = map (λ f. (f.0, base_of f.1)) (zip names types)

-- the names and types so far, and the remaining ones
pub record Written (own : List ℕ) (fields : List (Declared × Bytes)) (i : ℕ) (names : List Bytes) (types : List BaseType) : Type 0 where
  pub same : length names ≡ length types
  pub each : (world : World Reference) → KnowsTypes own world
      → fields_written (scope_of (setting world)) 16 [] (map field_view fields) ≡ before (paired names types) (fields_written (scope_of (setting world)) 16 names (map field_view (drop i fields)))

before_none : (j : Judged Fields) → j ≡ before [] j
before_none (Ok fs) = refl
before_none (Err e) = refl

before_one : (done : Fields) (f : Bytes × Base) (j : Judged Fields) → before done (j >>= λ rest. Ok (f ∷ rest)) ≡ before (done ++ f ∷ []) j
before_one done f (Ok fs) = ap Ok (sym (append_assoc done (f ∷ []) fs))
before_one done f (Err e) = refl

paired_more : (names : List Bytes) (types : List BaseType) (n : Bytes) (b : BaseType) → length names ≡ length types → paired (names ++ n ∷ []) (types ++ b ∷ []) ≡ paired names types ++ (n, base_of b) ∷ []
paired_more [] [] n b e = refl
paired_more [] (t ∷ types) n b e = let no : ⊥ = omega (arith, e) in absurd no
paired_more (m ∷ names) [] n b e = let no : ⊥ = omega (arith, e) in absurd no
paired_more (m ∷ names) (t ∷ types) n b e = ap (λ fs. (m, base_of t) ∷ fs) (paired_more names types n b (omega (arith, e)))

length_one : {A : Type 0} (xs : List A) (x : A) → length (xs ++ x ∷ []) ≡ length xs + 1
length_one [] x = refl
length_one (y ∷ xs) x = let e = length_one xs x in omega (arith, e)

-- a name that none of so few has
pub free_name : (names : List Bytes) (n : Bytes) → length names < 16 → stands_in names n ≡ false → own_name 16 names n ≡ Ok (names ++ n ∷ [])
free_name names n few none =
    ap (λ b. unless (judging.NameTwice n) (not b) >> unless judging.TooMany (nat_lt (length names) 16) >> Ok (names ++ n ∷ [])) none
    ∙ ap (λ b. unless judging.TooMany b >> Ok (names ++ n ∷ [])) (let t : nat_lt (length names) 16 ≡ true = grind (arith, nat_tests) in t)

-- a name that another field has, or that is one too many
pub taken_name : (names : List Bytes) (n : Bytes) → stands_in names n ≡ true → is_refused (own_name 16 names n) ≡ true
taken_name names n taken = ap (λ b. is_refused (unless (judging.NameTwice n) (not b) >> unless judging.TooMany (nat_lt (length names) 16) >> Ok (names ++ n ∷ []))) taken

pub too_many : (names : List Bytes) (n : Bytes) → 16 ≤ length names → is_refused (own_name 16 names n) ≡ true
too_many names n many =
    ap (λ b. is_refused (unless (judging.NameTwice n) (not (stands_in names n)) >> unless judging.TooMany b >> Ok (names ++ n ∷ []))) (let t : nat_lt (length names) 16 ≡ false = grind (arith, nat_tests) in t)
    ∙ either (stands_in names n)
  where
    either : (b : Bool) → is_refused (unless (judging.NameTwice n) (not b) >> unless judging.TooMany false >> Ok (names ++ n ∷ [])) ≡ true
    either true = refl
    either false = refl

-- what is refused stays refused
refused_on : {A B : Type 0} (j : Judged A) (f : A → Judged B) → is_refused j ≡ true → is_refused (j >>= f) ≡ true
refused_on (Ok a) f e = absurd (let no : ⊥ = cc in no)
refused_on (Err e) f is = refl

refused_judged : {A : Type 0} (j : Judged A) → is_refused j ≡ true → judged {F = Wrong} j ≡ Stuck
refused_judged (Ok a) e = absurd (let no : ⊥ = cc in no)
refused_judged (Err e) is = refl

pub no_memory : (own : List ℕ) (fields : List (Declared × Bytes)) → FieldsHalt own fields halt.OutOfMemory
no_memory own fields = record { each = λ world known. tt }

module _ (own : List ℕ) (fields : List (Declared × Bytes)) where
  pub written_none : Written own fields 0 [] []
  written_none = record { same = refl; each = λ world known. before_none (fields_written (scope_of (setting world)) 16 [] (map field_view fields)) }

  pub written_more : (i : ℕ) (f : Declared × Bytes) (b : BaseType) (names names' : List Bytes) (types types' : List BaseType) → i < length fields → f ≡ get_or fields i f
      → IsDeclared own f.0 b → own_name 16 names f.1 ≡ Ok (names ++ f.1 ∷ []) → names' ≡ names ++ f.1 ∷ [] → types' ≡ types ++ b ∷ []
      → Written own fields i names types → Written own fields (i + 1) names' types'
  written_more i f b names names' types types' n is d free ne te w = record {
    same = ap length ne ∙ length_one names f.1 ∙ ap (λ (k : ℕ). k + 1) w.same ∙ sym (ap length te ∙ length_one types b);
    each = λ world known.
        w.each world known
        ∙ ap (λ fs. before (paired names types) (fields_written (scope_of (setting world)) 16 names (map field_view fs))) (drop_more fields i f n ∙ ap (λ g. g ∷ drop (i + 1) fields) (sym is))
        ∙ ap (λ j. before (paired names types) (j >>= λ c. own_name 16 names f.1 >>= λ more. fields_written (scope_of (setting world)) 16 more (map field_view (drop (i + 1) fields)) >>= λ rest. Ok ((f.1, c) ∷ rest))) (d.written world known)
        ∙ ap (λ j. before (paired names types) (j >>= λ more. fields_written (scope_of (setting world)) 16 more (map field_view (drop (i + 1) fields)) >>= λ rest. Ok ((f.1, base_of b) ∷ rest))) free
        ∙ before_one (paired names types) (f.1, base_of b) (fields_written (scope_of (setting world)) 16 (names ++ f.1 ∷ []) (map field_view (drop (i + 1) fields)))
        ∙ ap₂ (λ fs ns. before fs (fields_written (scope_of (setting world)) 16 ns (map field_view (drop (i + 1) fields))))
        (sym (ap₂ paired ne te ∙ paired_more names types f.1 b w.same)) (sym ne);
  }

  -- the same for the names that the code borrows and copies
  pub written_next : (i : ℕ) (f : Declared × Bytes) (b : BaseType) (names lent names' : List Bytes) (types types' : List BaseType) (said copy : Bytes) → i < length fields → f ≡ get_or fields i f
      → IsDeclared own f.0 b → lent ≡ names → said ≡ f.1 → copy ≡ f.1 → own_name 16 lent said ≡ Ok (lent ++ said ∷ []) → names' ≡ names ++ copy ∷ [] → types' ≡ types ++ b ∷ []
      → Written own fields i names types → Written own fields (i + 1) names' types'
  written_next i f b names lent names' types types' said copy n is d l s c free ne te w =
      written_more i f b names names' types types' n is d
      (subst (λ ns. own_name 16 ns f.1 ≡ Ok (ns ++ f.1 ∷ [])) l (subst (λ t. own_name 16 lent t ≡ Ok (lent ++ t ∷ [])) s free)) (ne ∙ ap (λ t. names ++ t ∷ []) c) te w

  pub written_all : (i : ℕ) (names : List Bytes) (types : List BaseType) (t : TupleType) → length fields ≤ i → t.names ≡ names → t.types ≡ types → Written own fields i names types → HasFields own fields t
  written_all i names types t l ne te w = record {
    each = λ world known.
        ap judged (w.each world known
        ∙ ap (λ fs. before (paired names types) (fields_written (scope_of (setting world)) 16 names (map field_view fs))) (drop_all i fields l)
        ∙ ap Ok (append-nil (paired names types)))
        ∙ ap Gives (sym (ap₂ paired ne te));
  }

  -- the next field is refused
  stopped : (i : ℕ) (f : Declared × Bytes) (names : List Bytes) (types : List BaseType) → i < length fields → f ≡ get_or fields i f → Written own fields i names types
      → ((world : World Reference) → KnowsTypes own world → is_refused (base_written (scope_of (setting world)) (view_declared f.0) >>= λ b. own_name 16 names f.1 >>= λ more. fields_written (scope_of (setting world)) 16 more (map field_view (drop (i + 1) fields)) >>= λ rest. Ok ((f.1, b) ∷ rest)) ≡ true)
      → FieldsHalt own fields halt.Stuck
  stopped i f names types n is w refused = record {
    each = λ world known.
        ap judged (w.each world known ∙ ap (λ fs. before (paired names types) (fields_written (scope_of (setting world)) 16 names (map field_view fs))) (drop_more fields i f n ∙ ap (λ g. g ∷ drop (i + 1) fields) (sym is)))
        ∙ refused_judged (before (paired names types) (fields_written (scope_of (setting world)) 16 names (map field_view (f ∷ drop (i + 1) fields))))
        (refused_on (fields_written (scope_of (setting world)) 16 names (map field_view (f ∷ drop (i + 1) fields))) (λ rest. Ok (paired names types ++ rest)) (refused world known));
  }

  pub type_refused : (i : ℕ) (f : Declared × Bytes) (names : List Bytes) (types : List BaseType) → i < length fields → f ≡ get_or fields i f → IsForeign own f.0 → Written own fields i names types → FieldsHalt own fields halt.Stuck
  type_refused i f names types n is foreign w = stopped i f names types n is w (λ world known.
      refused_on (base_written (scope_of (setting world)) (view_declared f.0)) (λ b. own_name 16 names f.1 >>= λ more. fields_written (scope_of (setting world)) 16 more (map field_view (drop (i + 1) fields)) >>= λ rest. Ok ((f.1, b) ∷ rest)) (foreign.written world known))

  pub name_refused : (i : ℕ) (f : Declared × Bytes) (b : BaseType) (names lent : List Bytes) (types : List BaseType) (said : Bytes) → i < length fields → f ≡ get_or fields i f → IsDeclared own f.0 b → lent ≡ names → said ≡ f.1
      → is_refused (own_name 16 lent said) ≡ true → Written own fields i names types → FieldsHalt own fields halt.Stuck
  name_refused i f b names lent types said n is d l e refused w = stopped i f names types n is w (λ world known.
      ap (λ j. is_refused (j >>= λ c. own_name 16 names f.1 >>= λ more. fields_written (scope_of (setting world)) 16 more (map field_view (drop (i + 1) fields)) >>= λ rest. Ok ((f.1, c) ∷ rest))) (d.written world known)
      ∙ refused_on (own_name 16 names f.1) (λ more. fields_written (scope_of (setting world)) 16 more (map field_view (drop (i + 1) fields)) >>= λ rest. Ok ((f.1, base_of b) ∷ rest))
      (subst (λ ns. is_refused (own_name 16 ns f.1) ≡ true) l (subst (λ t. is_refused (own_name 16 lent t) ≡ true) e refused)))

pub ruleset field_laws = (written_none, written_more, written_all)
