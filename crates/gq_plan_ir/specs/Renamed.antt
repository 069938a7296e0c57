-- Renamed: the same expression with other names, as a plan has references for names, and when the same is seen under them.
-- Each use of a name has its own.
use Rattle.std.specs.Prelude.{◌≡◌, ℕ}
use Rattle.gq_rules_meaning.specs.Tree.{Tree, Behind, Trees, Parts, Factors, Terms, Number, Text, Truth, Global, Name, Call, Post, Neg, Mul, Sum, Cmp, Not, And, Or, Field, Method, Attached, Before, no_tree, tree, no_part, part, no_factor, factor, no_term, term}
use Rattle.gq_rules_meaning.specs.Words.{function_named}
use Rattle.gq_rules_meaning.specs.Meanings.{Meant}
use Rattle.gq_rules_meaning.specs.Expressions.{Look, setting, meaning}

-- the new name for each use of an old one
pub record Renaming (M N : Type 0) : Type 0 where
  pub name : M → N
  pub accum : M → N
  pub field : M → N
  pub method : M → N
  pub function : M → N

abbrev mutual
  pub renamed : {M N : Type 0} → Renaming M N → Tree M → Tree N
  renamed r (Number n) = Number n
  renamed r (Text s) = Text s
  renamed r (Truth b) = Truth b
  renamed r (Global a) = Global (r.accum a)
  renamed r (Name x) = Name (r.name x)
  renamed r (Call f ts) = Call (r.function f) (renamed_trees r ts)
  renamed r (Post t ps) = Post (renamed r t) (renamed_parts r ps)
  renamed r (Neg n t) = Neg n (renamed r t)
  renamed r (Mul t fs) = Mul (renamed r t) (renamed_factors r fs)
  renamed r (Sum t ts) = Sum (renamed r t) (renamed_terms r ts)
  renamed r (Cmp s sign t) = Cmp (renamed r s) sign (renamed r t)
  renamed r (Not n t) = Not n (renamed r t)
  renamed r (And t ts) = And (renamed r t) (renamed_trees r ts)
  renamed r (Or t ts) = Or (renamed r t) (renamed_trees r ts)

  pub renamed_part : {M N : Type 0} → Renaming M N → Behind M → Behind N
  renamed_part r (Field f) = Field (r.field f)
  renamed_part r (Method m ts) = Method (r.method m) (renamed_trees r ts)
  renamed_part r (Attached a) = Attached (r.accum a)
  renamed_part r (Before a) = Before (r.accum a)

  pub renamed_trees : {M N : Type 0} → Renaming M N → Trees M → Trees N
  renamed_trees r no_tree = no_tree
  renamed_trees r (tree t ts) = tree (renamed r t) (renamed_trees r ts)

  pub renamed_parts : {M N : Type 0} → Renaming M N → Parts M → Parts N
  renamed_parts r no_part = no_part
  renamed_parts r (part p ps) = part (renamed_part r p) (renamed_parts r ps)

  pub renamed_factors : {M N : Type 0} → Renaming M N → Factors M → Factors N
  renamed_factors r no_factor = no_factor
  renamed_factors r (factor sign t fs) = factor sign (renamed r t) (renamed_factors r fs)

  pub renamed_terms : {M N : Type 0} → Renaming M N → Terms M → Terms N
  renamed_terms r no_term = no_term
  renamed_terms r (term sign t ts) = term sign (renamed r t) (renamed_terms r ts)

-- the new names show what the old ones showed
pub record SeesAlike {M N : Type 0} (r : Renaming M N) (old : Look M) (new : Look N) : Type 0 where
  pub named : (x : M) → new.named (r.name x) ≡ old.named x
  pub global : (a : M) → new.global (r.accum a) ≡ old.global a
  pub attached : (a : M) (v : ℕ) → new.attached (r.accum a) v ≡ old.attached a v
  pub before : (a : M) (v : ℕ) → new.before (r.accum a) v ≡ old.before a v
  pub field : (m : Meant) (f : M) → new.field m (r.field f) ≡ old.field m f
  pub function : (f : M) → function_named (setting new.world) (r.function f) ≡ function_named (setting old.world) f
  pub method : (m : M) → new.world.words.method (r.method m) ≡ old.world.words.method m
  pub graph : new.world.graph ≡ old.world.graph
  pub calendar : new.world.calendar ≡ old.world.calendar

-- then an expression means what it meant
abbrev pub RenamedLaw : Type 0 → Type 0 → Type 0
RenamedLaw M N = (r : Renaming M N) (old : Look M) (new : Look N) → SeesAlike r old new → (t : Tree M) → meaning new (renamed r t) ≡ meaning old t
