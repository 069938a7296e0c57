-- PartLemmas: the part of a group's row, in the cases of the code.
use Rattle.std.proofs.Common.{◌≡◌, ℕ, zero, suc, Bool, true, false, ◌&&◌, ◌||◌, List, [], ◌∷◌, map, Option, Some, None, Result, refl, sym, ap, subst, ◌∙◌}
use Rattle.std.specs.List.{slice_get, list_all, position}
use Rattle.std.specs.Prelude.{if◌then◌else◌}
use Rattle.std.specs.Option.{option_map}
use Rattle.std.specs.Ordering.{is_eq}
use Rattle.std.specs.Str.{bytes_eq}
use Rattle.gq_value.specs.Val.{Val}
use Rattle.gq_value.specs.Accums.{Accum, GroupByAccum, Parts, no_part, part_and}
use Rattle.gq_value.specs.AccumViews.{accum_of, parts_of}
use Rattle.gq_value.specs.declared.kind.GroupShape.{GroupShape}
use Rattle.gq_value.specs.declared.kind.Kind.{Kind}
use Rattle.gq_accum_laws.specs.Gather.{among}
use Rattle.gq_accum_laws.specs.Holds.{HoldsEach, row_cmp}
use Rattle.gq_accum_laws.specs.After.{fresh_each}
use Rattle.gq_accum_laws.specs.Fits.{fits, fit}
use Rattle.gq_nest.specs.declared.content.Content.{Content, out-Content}
use Rattle.gq_nest.specs.Forms.{view}
use Rattle.gq_nest.specs.Shows.{Shows}
use Rattle.gq_nest.specs.Tells.{ShowsPart, has_part, LacksPart, HasPart}
use Rattle.gq_nest.proofs.EntryLemmas.{same_row}
use Rattle.gq_rules_typing.specs.Statements.{Bytes}
use Rattle.gq_rules_typing.specs.Kinds.{kinds_in}
use Rattle.gq_rules_typing.specs.Words.{place_of, names_of_parts}
use Rattle.gq_rules_meaning.specs.Answers.{Gives, Stuck, ◌>>=◌, found}
use Rattle.gq_rules_meaning.specs.Meanings.{Outcome, read}
use Rattle.gq_rules_meaning.specs.States.{part_at}
use Rattle.gq_eval_operand.specs.declared.seen.Seen.{Seen}
use Rattle.gq_eval_operand.specs.declared.halt.Halt.{Halt}
use Rattle.gq_eval_operand.specs.Meant.{meant, read_of, opening_of, keys_are, parts_are, parts_at, Tells}
use Rattle.gq_eval_operand.specs.Sound.{IsSound, HoldsForms, HoldForms}
use Rattle.gq_eval_attributes.specs.Parts.{part_named}
use Rattle.gq_eval_attributes.proofs.NameLemmas.{among_mapped}

-- ---- names

pub among_parts : (name : Bytes) (ps : List (Bytes × Kind)) (r : Option ℕ) → r ≡ position (λ (p : Bytes × Kind). bytes_eq name p.0) ps → r ≡ place_of (map (λ (p : Bytes × Kind). p.0) ps) name
among_parts name ps r e = e ∙ among_mapped (λ (p : Bytes × Kind). p.0) (bytes_eq name) ps

pub ruleset place_laws = (among_parts)

parts_named : (ps : List (Bytes × Kind)) → names_of_parts (parts_of (map {A = Bytes × Kind} {B = Bytes × Accum} (λ p. (p.0, accum_of p.1)) ps)) ≡ map (λ (p : Bytes × Kind). p.0) ps
parts_named [] = refl
parts_named (p ∷ ps) = ap (λ ns. p.0 ∷ ns) (parts_named ps)

parts_kinds : (ps : List (Bytes × Kind)) (i : ℕ) → slice_get (kinds_in (parts_of (map {A = Bytes × Kind} {B = Bytes × Accum} (λ p. (p.0, accum_of p.1)) ps))) i ≡ option_map (λ (p : Bytes × Kind). accum_of p.1) (slice_get ps i)
parts_kinds [] i = refl
parts_kinds (p ∷ ps) zero = refl
parts_kinds (p ∷ ps) (suc i) = parts_kinds ps i

kind_at : (s : GroupShape) (i : ℕ) (p : Bytes × Kind) → slice_get s.parts i ≡ Some p → slice_get (kinds_in (parts_are s)) i ≡ Some (accum_of p.1)
kind_at s i p e = parts_kinds s.parts i ∙ ap (option_map (λ (p : Bytes × Kind). accum_of p.1)) e

-- ---- the part at a place

some_inj : {A : Type 0} {a b : A} → Some a ≡ Some b → a ≡ b
some_inj h = cc

part_read : (ps : Parts) (i : ℕ) (cs : HoldsEach ps) (c : Content) (k : Accum) → slice_get (kinds_in ps) i ≡ Some k → ShowsPart ps i cs c → part_at ps cs i ≡ Gives (read_of k c)
part_read no_part i cs c k e s = absurd s
part_read (part_and name j ps) zero cs c k e s = subst (λ k. ◌≡◌ {A = Outcome} (Gives (read j cs.0)) (Gives (read_of k c))) (some_inj e) (ap (λ h. Gives (read j h)) (sym s.holds))
part_read (part_and name j ps) (suc i) cs c k e s = part_read ps i cs.1 c k e s

and_left : (a b : Bool) → (a && b) ≡ true → a ≡ true
and_left true b h = refl
and_left false b h = cc

and_right : (a b : Bool) → (a && b) ≡ true → b ≡ true
and_right true b h = h
and_right false b h = cc

part_sound : (ps : Parts) (i : ℕ) (cs : HoldsEach ps) (c : Content) (k : Accum) → slice_get (kinds_in ps) i ≡ Some k → ShowsPart ps i cs c → HoldForms ps cs → fit ps cs ≡ true → IsSound k c
part_sound no_part i cs c k e s f t = absurd s
part_sound (part_and name j ps) zero cs c k e s f t = subst (λ k. IsSound k c) (some_inj e) (record {
  shows = subst (Shows j c) (sym s.holds) s;
  forms = subst (HoldsForms j) (sym s.holds) f.0;
  fit = ap (fits j) s.holds ∙ and_left (fits j cs.0) (fit ps cs.1) t;
})
part_sound (part_and name j ps) (suc i) cs c k e s f t = part_sound ps i cs.1 c k e s f.1 (and_right (fits j cs.0) (fit ps cs.1) t)

part_opening : (ps : Parts) (i : ℕ) (k : Accum) → slice_get (kinds_in ps) i ≡ Some k → part_at ps (fresh_each ps) i ≡ Gives (opening_of k)
part_opening no_part i k e = cc
part_opening (part_and name j ps) zero k e = ap (λ k. Gives (opening_of k)) (some_inj e)
part_opening (part_and name j ps) (suc i) k e = part_opening ps i k e

part_there : (ps : Parts) (i : ℕ) (k : Accum) → slice_get (kinds_in ps) i ≡ Some k → has_part ps i ≡ true
part_there no_part i k e = cc
part_there (part_and name j ps) zero k e = refl
part_there (part_and name j ps) (suc i) k e = part_there ps i k e

part_past : (ps : Parts) (i : ℕ) (cs : HoldsEach ps) → slice_get (kinds_in ps) i ≡ None → part_at ps cs i ≡ Stuck
part_past no_part i cs e = refl
part_past (part_and name j ps) zero cs e = cc
part_past (part_and name j ps) (suc i) cs e = part_past ps i cs.1 e

-- ---- the contents of a group at a row

at_rows : (P : List Val → Bool) (row : List Val) (rows : List (List Val)) → list_all P rows ≡ true → among row_cmp row rows ≡ true → P row ≡ true
at_rows P row [] h g = absurd (cc)
at_rows P row (q ∷ rows) h g = go (is_eq (row_cmp row q)) refl (at_rows P row rows)
  where
    go : (t : Bool) → is_eq (row_cmp row q) ≡ t → (list_all P rows ≡ true → among row_cmp row rows ≡ true → P row ≡ true) → P row ≡ true
    go true e rest = ap P (same_row row q e) ∙ and_left (P q) (list_all P rows) h
    go false e rest = rest (and_right (P q) (list_all P rows) h) (ap (λ t. t || among row_cmp row rows) (sym e) ∙ g)

module _ (s : GroupShape) (c : Content) (row : List Val) where
  abbrev kind : Accum
  kind = GroupByAccum (keys_are s) (parts_are s)

  abbrev held : List (List Val) × (List Val → HoldsEach (parts_are s))
  held = view (GroupByAccum (keys_are s) (parts_are s)) (out-Content c)

  at_held : among row_cmp row held.0 ≡ true → parts_at s c row ≡ held.1 row
  at_held e = ap (λ t. if t then held.1 row else fresh_each (parts_are s)) e

  at_none : among row_cmp row held.0 ≡ false → parts_at s c row ≡ fresh_each (parts_are s)
  at_none e = ap (λ t. if t then held.1 row else fresh_each (parts_are s)) e

named_part : (s : GroupShape) (cs : HoldsEach (parts_are s)) (name : Bytes) (o : Option ℕ) → o ≡ place_of (map (λ (p : Bytes × Kind). p.0) s.parts) name → part_named (parts_are s) cs name ≡ (found o >>= part_at (parts_are s) cs)
named_part s cs name o e = ap (λ ns. found (place_of ns name) >>= part_at (parts_are s) cs) (parts_named s.parts) ∙ ap (λ o. found o >>= part_at (parts_are s) cs) (sym e)

-- ---- in the cases of the code

pub no_part_named : (s : GroupShape) (cs : HoldsEach (parts_are s)) (name : Bytes) → None ≡ place_of (map (λ (p : Bytes × Kind). p.0) s.parts) name → part_named (parts_are s) cs name ≡ Stuck
no_part_named s cs name e = named_part s cs name None e

pub no_part_there : (s : GroupShape) (cs : HoldsEach (parts_are s)) (name : Bytes) (i : ℕ) → Some i ≡ place_of (map (λ (p : Bytes × Kind). p.0) s.parts) name → slice_get s.parts i ≡ None → part_named (parts_are s) cs name ≡ Stuck
no_part_there s cs name i e past = named_part s cs name (Some i) e ∙ part_past (parts_are s) i cs (parts_kinds s.parts i ∙ ap (option_map (λ (p : Bytes × Kind). accum_of p.1)) past)

pub held_sound : (s : GroupShape) (c held : Content) (row : List Val) (i : ℕ) (p : Bytes × Kind) → IsSound (GroupByAccum (keys_are s) (parts_are s)) c → slice_get s.parts i ≡ Some p → HasPart c row i held → IsSound (accum_of p.1) held
held_sound s c part row i p sound e h =
    let w = h.each (keys_are s) (parts_are s) (held s c row) sound.shows in
    part_sound (parts_are s) i ((held s c row).1 row) part (accum_of p.1) (kind_at s i p e) w.1 (sound.forms row) (at_rows (λ q. fit (parts_are s) ((held s c row).1 q)) row (held s c row).0 sound.fit w.0)

pub held_read : (s : GroupShape) (c held : Content) (row : List Val) (name : Bytes) (i : ℕ) (p : Bytes × Kind) (r : Result Seen Halt) → IsSound (GroupByAccum (keys_are s) (parts_are s)) c → Some i ≡ place_of (map (λ (p : Bytes × Kind). p.0) s.parts) name → slice_get s.parts i ≡ Some p
    → HasPart c row i held → Tells meant (Gives (read_of (accum_of p.1) held)) r → Tells meant (part_named (parts_are s) (parts_at s c row) name) r
held_read s c part row name i p r sound at e h t =
    let w = h.each (keys_are s) (parts_are s) (held s c row) sound.shows in
    subst (λ o. Tells meant o r) (sym (named_part s (parts_at s c row) name (Some i) at ∙ ap (λ cs. part_at (parts_are s) cs i) (at_held s c row w.0) ∙ part_read (parts_are s) i ((held s c row).1 row) part (accum_of p.1) (kind_at s i p e) w.1)) t

pub none_opens : (s : GroupShape) (c : Content) (row : List Val) (name : Bytes) (i : ℕ) (p : Bytes × Kind) (b : Seen) → IsSound (GroupByAccum (keys_are s) (parts_are s)) c → Some i ≡ place_of (map (λ (p : Bytes × Kind). p.0) s.parts) name → slice_get s.parts i ≡ Some p
    → LacksPart c row i → meant b ≡ opening_of (accum_of p.1) → part_named (parts_are s) (parts_at s c row) name ≡ Gives (meant b)
none_opens s c row name i p b sound at e h m =
    let w = h.each (keys_are s) (parts_are s) (held s c row) sound.shows (part_there (parts_are s) i (accum_of p.1) (kind_at s i p e)) in
    named_part s (parts_at s c row) name (Some i) at ∙ ap (λ cs. part_at (parts_are s) cs i) (at_none s c row w) ∙ part_opening (parts_are s) i (accum_of p.1) (kind_at s i p e) ∙ ap Gives (sym m)

pub fresh_opens : (s : GroupShape) (name : Bytes) (i : ℕ) (p : Bytes × Kind) (b : Seen) → Some i ≡ place_of (map (λ (p : Bytes × Kind). p.0) s.parts) name → slice_get s.parts i ≡ Some p
    → meant b ≡ opening_of (accum_of p.1) → part_named (parts_are s) (fresh_each (parts_are s)) name ≡ Gives (meant b)
fresh_opens s name i p b at e m = named_part s (fresh_each (parts_are s)) name (Some i) at ∙ part_opening (parts_are s) i (accum_of p.1) (kind_at s i p e) ∙ ap Gives (sym m)

pub ruleset part_laws = (no_part_named, no_part_there, held_sound, held_read, none_opens)

pub ruleset opening_laws = (no_part_named, no_part_there, fresh_opens)
