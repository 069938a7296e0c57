-- Lemmas on how a run that writes one line after another keeps to its outcome.
use Rattle.std.proofs.Common.{◌≡◌, ℕ, zero, suc, ◌+◌, ◌<◌, ◌≤◌, List, [], ◌∷◌, ◌++◌, length, take, Option, Some, None, inl, inr, refl, ap, sym, ◌∙◌, subst, arith, length-append, append_assoc}
use Rattle.std.specs.List.{concat}
use Rattle.std.proofs.lemmas.List.{append-nil}
use Rattle.std.proofs.lemmas.List.Folds.{concat-append}
use Rattle.gq_io.specs.Sink.{Appends, AppendsPrefix}
use Rattle.gq_io.proofs.Appending.{appends_then}
use Rattle.gq_diagnostics.specs.declared.status.Status.{Status}
use Rattle.gq_diagnostics.specs.declared.status.Status.TheVariants.{Done, Refused, Usage, ReadFault, WriteFault, OutOfMemory}
use Rattle.gq_diagnostics.specs.Outcome.{Outcome, KeepsTo, IsFinal, Ends, AppendsLines, lines_then, done}

-- ---- a single status keeps to an outcome

module _ (outcome : Outcome) (old new : Option (List ℕ)) (A B : Type 0) where
  pub keeps_done : Ends outcome Done old new → KeepsTo outcome Done old new A B
  keeps_done ends = record { final = λ final. ends; read_fault = λ is. cc is; write_fault = λ is. cc is; memory = λ is. cc is }

  not_final : (status : Status) → (status ≡ Done → ⊥) → (status ≡ Refused → ⊥) → (status ≡ Usage → ⊥) → IsFinal status → ⊥
  not_final status a b c (inl is) = a is
  not_final status a b c (inr (inl is)) = b is
  not_final status a b c (inr (inr is)) = c is

  pub keeps_read_fault : A → AppendsLines old new outcome.lines → KeepsTo outcome ReadFault old new A B
  keeps_read_fault rose some = record {
    final = λ final. absurd (not_final ReadFault (λ is. cc is) (λ is. cc is) (λ is. cc is) final);
    read_fault = λ is. (rose, some);
    write_fault = λ is. cc is;
    memory = λ is. cc is;
  }

  pub keeps_write_fault : B → AppendsPrefix old new (concat outcome.lines) → KeepsTo outcome WriteFault old new A B
  keeps_write_fault rose prefix = record {
    final = λ final. absurd (not_final WriteFault (λ is. cc is) (λ is. cc is) (λ is. cc is) final);
    read_fault = λ is. cc is;
    write_fault = λ is. (rose, prefix);
    memory = λ is. cc is;
  }

  pub keeps_memory : AppendsPrefix old new (concat outcome.lines) → KeepsTo outcome OutOfMemory old new A B
  keeps_memory prefix = record {
    final = λ final. absurd (not_final OutOfMemory (λ is. cc is) (λ is. cc is) (λ is. cc is) final);
    read_fault = λ is. cc is;
    write_fault = λ is. cc is;
    memory = λ is. prefix;
  }

-- a status of a run that ended early isn't final
pub read_fault_not_final : IsFinal ReadFault → ⊥
read_fault_not_final (inl is) = cc is
read_fault_not_final (inr (inl is)) = cc is
read_fault_not_final (inr (inr is)) = cc is

pub write_fault_not_final : IsFinal WriteFault → ⊥
write_fault_not_final (inl is) = cc is
write_fault_not_final (inr (inl is)) = cc is
write_fault_not_final (inr (inr is)) = cc is

pub memory_not_final : IsFinal OutOfMemory → ⊥
memory_not_final (inl is) = cc is
memory_not_final (inr (inl is)) = cc is
memory_not_final (inr (inr is)) = cc is

-- ---- causes

-- weaker causes
pub keeps_more : (outcome : Outcome) (status : Status) (old new : Option (List ℕ)) (A B C D : Type 0) → (A → C) → (B → D) → KeepsTo outcome status old new A B → KeepsTo outcome status old new C D
keeps_more outcome status old new A B C D f g keeps = record {
  final = keeps.final;
  read_fault = λ is. (f (keeps.read_fault is).0, (keeps.read_fault is).1);
  write_fault = λ is. (g (keeps.write_fault is).0, (keeps.write_fault is).1);
  memory = keeps.memory;
}

-- what keeps to an outcome keeps to an equal one
pub keeps_same : (one outcome : Outcome) (status : Status) (old new : Option (List ℕ)) (A B : Type 0) → outcome ≡ one → KeepsTo one status old new A B → KeepsTo outcome status old new A B
keeps_same one outcome status old new A B same keeps = subst (λ o. KeepsTo o status old new A B) (sym same) keeps

-- ---- what was written

pub wrote_none : (old : Option (List ℕ)) → Appends old old []
wrote_none None = refl
wrote_none (Some written) = ap (λ w. Some w) (sym (append-nil written))

pub none_of : (old : Option (List ℕ)) (bytes : List ℕ) → AppendsPrefix old old bytes
none_of old bytes = (0, omega arith, wrote_none old)

pub no_lines_of : (old : Option (List ℕ)) (lines : List (List ℕ)) → AppendsLines old old lines
no_lines_of old lines = (0, omega arith, wrote_none old)

-- a prefix of some lines is a prefix of more lines
take_head : (xs ys : List ℕ) (n : ℕ) → n ≤ length xs → take n (xs ++ ys) ≡ take n xs
take_head xs ys zero le = refl
take_head [] ys (suc n) le = absurd (omega arith)
take_head (x ∷ xs) ys (suc n) le = ap (λ l. x ∷ l) (take_head xs ys n (omega arith))

pub prefix_of_more : (old new : Option (List ℕ)) (line more : List ℕ) → AppendsPrefix old new line → AppendsPrefix old new (line ++ more)
prefix_of_more old new line more (n, le, wrote) = (n, omega (arith, le, length-append line more), subst (Appends old new) (sym (take_head line more n le)) wrote)

module _ {X : Type 0} where
  pub take_front : (xs ys : List X) (n : ℕ) → take (length xs + n) (xs ++ ys) ≡ xs ++ take n ys
  take_front [] ys n = let same : 0 + n ≡ n = omega arith in rw same refl
  take_front (x ∷ xs) ys n = let same : suc (length xs) + n ≡ suc (length xs + n) = omega arith in rw same (ap (λ l. x ∷ l) (take_front xs ys n))

-- ---- lines, and then a rest that keeps to its outcome

module _ (lines : List (List ℕ)) (old mid new : Option (List ℕ)) (wrote : Appends old mid (concat lines)) where
  pub appends_after : (bytes : List (List ℕ)) → Appends mid new (concat bytes) → Appends old new (concat (lines ++ bytes))
  appends_after bytes then = subst (Appends old new) (sym (concat-append lines bytes)) (appends_then old mid new (concat lines) (concat bytes) wrote then)

  pub prefix_after : (bytes : List (List ℕ)) → AppendsPrefix mid new (concat bytes) → AppendsPrefix old new (concat (lines ++ bytes))
  prefix_after bytes (n, le, then) = (
    length (concat lines) + n,
    omega (arith, le, ap length (concat-append lines bytes), length-append (concat lines) (concat bytes)),
    subst (Appends old new) (sym (ap (take (length (concat lines) + n)) (concat-append lines bytes) ∙ take_front (concat lines) (concat bytes) n)) (appends_then old mid new (concat lines) (take n (concat bytes)) wrote then),
  )

  pub lines_after : (bytes : List (List ℕ)) → AppendsLines mid new bytes → AppendsLines old new (lines ++ bytes)
  lines_after bytes (n, le, then) = (
    length lines + n,
    omega (arith, le, length-append lines bytes),
    subst (Appends old new) (sym (ap concat (take_front lines bytes n) ∙ concat-append lines (take n bytes))) (appends_then old mid new (concat lines) (concat (take n bytes)) wrote then),
  )

  pub ends_after : (rest : Outcome) (status : Status) → Ends rest status mid new → Ends (lines_then lines rest) status old new
  ends_after rest status ends = (ends.0, appends_after rest.lines ends.1)

  pub keeps_after : (rest : Outcome) (status : Status) (A B : Type 0) → KeepsTo rest status mid new A B → KeepsTo (lines_then lines rest) status old new A B
  keeps_after rest status A B keeps = record {
    final = λ final. ends_after rest status (keeps.final final);
    read_fault = λ is. ((keeps.read_fault is).0, lines_after rest.lines (keeps.read_fault is).1);
    write_fault = λ is. ((keeps.write_fault is).0, prefix_after rest.lines (keeps.write_fault is).1);
    memory = λ is. prefix_after rest.lines (keeps.memory is);
  }

-- lines followed by lines
pub lines_then_more : (a b : List (List ℕ)) (rest : Outcome) → lines_then a (lines_then b rest) ≡ lines_then (a ++ b) rest
lines_then_more a b rest = ap (λ lines. record { lines = lines; status = rest.status }) (sym (append_assoc a b rest.lines))
