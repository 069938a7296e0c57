-- FileLemmas: the files of a job by the places of their names.
use Rattle.std.proofs.Common.{ℕ, suc, ◌+◌, ◌-◌, ◌<◌, ◌≡◌, Bool, true, false, cond, ◌||◌, List, [], ◌∷◌, ◌++◌, length, drop, get_or, Option, Some, None, refl, ap, sym, subst, ◌∙◌, arith, nat_cmp}
use Rattle.std.specs.Prelude.{String, Result, Ok, Err, OnOk, is_some, slice_get, position, bytes_eq}
use Rattle.std.specs.List.{position_from, position_or_len}
use Rattle.std.specs.Cmp.Lexicographic.{slice_cmp}
use Rattle.std.specs.Map.{lookup, update}
use Rattle.std.specs.String.{string_bytes}
use Rattle.std.specs.Option.{option_or}
use Rattle.std.specs.BTreeMap.{BTreeMap, IsEmpty, get_by_text, is_at}
use Rattle.std.proofs.lemmas.Iterator.Adapters.{position_from-zero}
use Rattle.std.proofs.lemmas.List.{drop_more}
use Rattle.std.proofs.lemmas.List.Folds.{find_at, list_any-append}
use Rattle.std.proofs.lemmas.Grind.{common_steps}
use Rattle.std.proofs.lemmas.Slice.Eq.{bytes_eq-Decides}
use Rattle.gq_tree.specs.declared.job.FileTree.{FileTree}
use Rattle.gq_tree.specs.declared.job.FileTree.TheVariants as trees
use Rattle.gq_tree.specs.declared.job.JobLine.{JobLine}
use Rattle.gq_tree.specs.declared.job.JobLine.TheVariants.{Define, Load}
use Rattle.gq_graph.specs.declared.types.GraphType.{GraphType}
use Rattle.gq_graph.specs.Catalog.{Schema}
use Rattle.gq_load_check.specs.declared.fault.JobFault.{JobFault}
use Rattle.gq_load_check.specs.declared.fault.JobFault.TheVariants as fault
use Rattle.gq_load_check.specs.Lines.{defines, files_of}
use Rattle.gq_load_check.specs.Paths.{File, file_of, has_file}
use Rattle.gq_load_check.specs.Placed.{FilesPlaced, defining, file_added, is_file, with_file}
use Rattle.gq_load_check.specs.Refusals.{bad_option, destination_refusal, first_due, line_refusal, unknown_file}

-- ---- the first file with a name

module _ (name : List ℕ) where
  pub file_at : (files : List File) (n : ℕ) → position (is_file name) files ≡ Some n → slice_get files n ≡ file_of files name
  file_at files n e = let at : position_or_len (is_file name) files ≡ n = grind (arith, common_steps) in ap (slice_get files) (sym at) ∙ sym (find_at (is_file name) files)

  none_from : (i : ℕ) (files : List File) → position_from (is_file name) i files ≡ None → None ≡ file_of files name
  none_from i [] e = refl
  none_from i (file ∷ files) e = go (is_file name file) (position_from (is_file name) (i + 1) files) (file_of files name) e (none_from (i + 1) files)
    where
      go : (b : Bool) (r : Option ℕ) (f : Option File) → cond b (Some i) r ≡ None → (r ≡ None → None ≡ f) → None ≡ cond b (Some file) f
      go true r f e h = absurd (cc)
      go false r f e h = h e

  pub file_nowhere : (files : List File) → position (is_file name) files ≡ None → None ≡ file_of files name
  file_nowhere files e = none_from 0 files (sym (position_from-zero (is_file name) files) ∙ e)

  any_from : (i : ℕ) (files : List File) → is_some (position_from (is_file name) i files) ≡ has_file files name
  any_from i [] = refl
  any_from i (file ∷ files) = go (is_file name file) (position_from (is_file name) (i + 1) files) (has_file files name) (any_from (i + 1) files)
    where
      go : (b : Bool) (r : Option ℕ) (t : Bool) → is_some r ≡ t → is_some (cond b (Some i) r) ≡ (b || t)
      go true r t h = refl
      go false r t h = h

  pub file_any : (files : List File) → is_some (position (is_file name) files) ≡ has_file files name
  file_any files = ap is_some (position_from-zero (is_file name) files) ∙ any_from 0 files

  -- a file that is there isn't added again
  pub file_kept : (files : List File) (path : Option (List ℕ)) (n : ℕ) → position (is_file name) files ≡ Some n → files ≡ with_file files name path
  file_kept files path n e = ap (λ b. cond b files (files ++ (name, path) ∷ [])) (sym (ap is_some e) ∙ file_any files)

  -- a new one is
  pub file_new : (files : List File) (path : Option (List ℕ)) → position (is_file name) files ≡ None → files ++ (name, path) ∷ [] ≡ with_file files name path
  file_new files path e = ap (λ b. cond b files (files ++ (name, path) ∷ [])) (sym (ap is_some e) ∙ file_any files)

-- ---- no file, and no name

pub files_none : {Y : Type 0} (places : BTreeMap (String Y) ℕ) → IsEmpty places → FilesPlaced [] places
files_none places empty = λ name. ap (λ es. lookup (is_at (λ k. slice_cmp nat_cmp name (string_bytes k))) es) empty

-- ---- one more file, whose name was added to the tree

or_none : {A : Type 0} (o : Option A) → option_or o None ≡ o
or_none None = refl
or_none (Some x) = refl

module _ (p : File → Bool) where
  from_push : (i : ℕ) (files : List File) (file : File) → position_from p i (files ++ file ∷ []) ≡ option_or (position_from p i files) (cond (p file) (Some (i + length files)) None)
  from_push i [] file = let e : i ≡ i + 0 = omega arith in ap (λ n. cond (p file) (Some n) None) e
  from_push i (x ∷ files) file =
      let e : i + 1 + length files ≡ i + suc (length files) = omega arith in
      go (p x) (position_from p (i + 1) (files ++ file ∷ [])) (position_from p (i + 1) files)
      (from_push (i + 1) files file ∙ ap (λ n. option_or (position_from p (i + 1) files) (cond (p file) (Some n) None)) e)
    where
      go : (b : Bool) (l r : Option ℕ) → l ≡ option_or r (cond (p file) (Some (i + suc (length files))) None)
          → cond b (Some i) l ≡ option_or (cond b (Some i) r) (cond (p file) (Some (i + suc (length files))) None)
      go true l r h = refl
      go false l r h = h

  position_push : (files : List File) (file : File) → position p (files ++ file ∷ []) ≡ option_or (position p files) (cond (p file) (Some (length files)) None)
  position_push files file =
      let e : 0 + length files ≡ length files = omega arith in
      position_from-zero p (files ++ file ∷ []) ∙ from_push 0 files file
      ∙ ap (λ n. option_or (position_from p 0 files) (cond (p file) (Some n) None)) e
      ∙ ap (λ o. option_or o (cond (p file) (Some (length files)) None)) (sym (position_from-zero p files))

module _ {Y : Type 0} (files : List File) (places more : BTreeMap (String Y) ℕ) (name key : List ℕ) (path : Option (List ℕ)) (n : ℕ)
    (new : position (is_file name) files ≡ None) (key_is : key ≡ name) (n_is : n ≡ length files)
    (put : (other : List ℕ) → get_by_text more other ≡ update bytes_eq (get_by_text places) key (Some n) other) where
  pub files_pushed : FilesPlaced files places → FilesPlaced (files ++ (name, path) ∷ []) more
  files_pushed placed = λ other.
      put other ∙ ap (λ k. cond (bytes_eq k other) (Some n) (get_by_text places other)) key_is
      ∙ ap (λ m. cond (bytes_eq name other) (Some m) (get_by_text places other)) n_is
      ∙ ap (cond (bytes_eq name other) (Some (length files))) (placed other)
      ∙ by other (bytes_eq name other) refl ∙ sym (position_push (is_file other) files (name, path))
    where
      by : (other : List ℕ) (b : Bool) → bytes_eq name other ≡ b
          → cond b (Some (length files)) (position (is_file other) files) ≡ option_or (position (is_file other) files) (cond b (Some (length files)) None)
      by other true is =
          let same : name ≡ other = (bytes_eq-Decides name other).0 is in
          ap (λ (o : Option ℕ). option_or o (Some (length files))) (sym (subst (λ l. position (is_file l) files ≡ None) same new))
      by other false is = sym (or_none (position (is_file other) files))

  pub files_added : {A E : Type 0} (copy : List ℕ) (now : List File) (result : Result A E) → copy ≡ name → OnOk result (now ≡ files ++ (copy, path) ∷ []) → FilesPlaced files places
      → OnOk result (FilesPlaced now more)
  files_added copy now (Ok done) same is placed = subst (λ (l : List File). FilesPlaced l more) (sym (is ∙ ap (λ k. files ++ (k, path) ∷ []) same)) (files_pushed placed)
  files_added copy now (Err fault) same is placed = tt

-- ---- the files of lines

-- a file is listed if a line defines it
pub has_defined : (lines : List JobLine) (name : List ℕ) → has_file (files_of lines) name ≡ defines lines name
unfolding defines
has_defined [] name = refl
has_defined (Load load ∷ lines) name = has_defined lines name
has_defined (Define defined path ∷ lines) name = by (defines lines defined) refl (has_defined lines name)
  where
    known : (b : Bool) → bytes_eq defined name ≡ b → defines lines defined ≡ true → has_file (files_of lines) name ≡ defines lines name
        → has_file (files_of lines) name ≡ (b || defines lines name)
    known true is has rest = rest ∙ subst (λ l. defines lines l ≡ true) ((bytes_eq-Decides defined name).0 is) has
    known false is has rest = rest

    turned : (a b : Bool) → (a || (b || false)) ≡ (b || a)
    turned true true = refl
    turned true false = refl
    turned false true = refl
    turned false false = refl

    by : (b : Bool) → defines lines defined ≡ b → has_file (files_of lines) name ≡ defines lines name
        → has_file (cond b (files_of lines) (files_of lines ++ (defined, path) ∷ [])) name ≡ (bytes_eq defined name || defines lines name)
    by true has rest = known (bytes_eq defined name) refl has rest
    by false has rest =
        list_any-append (is_file name) (files_of lines) ((defined, path) ∷ []) ∙ turned (has_file (files_of lines) name) (bytes_eq defined name)
        ∙ ap (λ t. bytes_eq defined name || t) rest

pub files_more : (line : JobLine) (lines : List JobLine) → file_added line (files_of lines) ≡ files_of (line ∷ lines)
files_more (Load load) lines = refl
files_more (Define name path) lines = ap (λ b. cond b (files_of lines) (files_of lines ++ (name, path) ∷ [])) (has_defined lines name)

-- the files of one line more, going back
pub files_back : (lines : List JobLine) (n : ℕ) (line : JobLine) (files now : List File) → 0 < n → n - 1 < length lines → line ≡ get_or lines (n - 1) line
    → files ≡ files_of (drop n lines) → now ≡ file_added line files → now ≡ files_of (drop (n - 1) lines)
files_back lines n line files now over low at is added =
    let on : n ≡ n - 1 + 1 = omega (arith, over) in
    added ∙ ap (file_added line) is ∙ files_more line (drop n lines) ∙ ap (λ k. files_of (line ∷ drop k lines)) on
    ∙ ap (λ (x : JobLine). files_of (x ∷ drop (n - 1 + 1) lines)) at ∙ ap (λ (l : List JobLine). files_of l) (sym (drop_more lines (n - 1) line low))

-- ---- a job of one DEFINE for each file is refused alike

pub defined_again : (files : List File) (name : List ℕ) → has_file files name ≡ defines (defining files) name
unfolding defines
defined_again [] name = refl
defined_again (file ∷ files) name = ap (λ b. bytes_eq file.0 name || b) (defined_again files name)

module _ (schema : Schema) (graph : GraphType) (job : List JobLine) where
  same_file : (file : FileTree) → unknown_file (defining (files_of job)) file ≡ unknown_file job file
  same_file (trees.Path path) = refl
  same_file (trees.Defined name) = ap (λ b. cond b None (Some (fault.UnknownFile name))) (sym (defined_again (files_of job) name) ∙ has_defined job name)

  same_line : (line : JobLine) → line_refusal schema graph (defining (files_of job)) line ≡ line_refusal schema graph job line
  same_line (Define name path) = refl
  same_line (Load load) =
      ap (λ (o : Option JobFault). option_or (bad_option load.options) (option_or o (first_due (destination_refusal schema graph) load.destinations))) (same_file load.file)

  pub same_refusal : (lines : List JobLine) → first_due (line_refusal schema graph (defining (files_of job))) lines ≡ first_due (line_refusal schema graph job) lines
  same_refusal [] = refl
  same_refusal (line ∷ lines) =
      ap (λ (o : Option JobFault). option_or o (first_due (line_refusal schema graph (defining (files_of job))) lines)) (same_line line)
      ∙ ap (option_or (line_refusal schema graph job line)) (same_refusal lines)

-- so the rule that fails first is that of the job
pub same_due : (schema : Schema) (graph g : GraphType) (files : List File) (lines again job : List JobLine) → g ≡ graph → files ≡ files_of lines → lines ≡ job → again ≡ job
    → first_due (line_refusal schema graph job) job ≡ first_due (line_refusal schema g (defining files)) again
same_due schema graph g files lines again job g_is files_is lines_is again_is =
    sym (same_refusal schema graph job job) ∙ ap (λ l. first_due (line_refusal schema graph (defining l)) job) (sym (files_is ∙ ap (λ (l : List JobLine). files_of l) lines_is))
    ∙ ap (λ (h : GraphType). first_due (line_refusal schema h (defining files)) job) (sym g_is)
    ∙ ap (λ (l : List JobLine). first_due (line_refusal schema g (defining files)) l) (sym again_is)

pub ruleset file_laws = (file_at, file_nowhere, file_any, file_kept, file_new, defined_again)
