-- NameLaws: a look-up by a reference finds what the look-up by its name finds, also as names come into view and end.
use Rattle.gq_plan_expr.proofs.PlanLaws.{some_inj}
use Rattle.std.proofs.Common.{◌≡◌, Bool, true, false, List, [], ◌∷◌, Option, Some, refl, sym, ap, ◌∙◌, suc, ◌++◌, length, arith, None}
use Rattle.std.proofs.lemmas.List.{length-append}
use Rattle.std.specs.Prelude.{if◌then◌else◌, is_some, ◌-◌, drop}
use Rattle.gq_rules_typing.specs.Words.{under}
use Rattle.gq_rules_meaning.specs.States.{Thing, State, with_name, changed}
use Rattle.gq_rules_meaning.specs.Statements.{is_set}
use Rattle.gq_rules_meaning.specs.StateFits.{AllOf}
use Rattle.gq_rules_safety.proofs.NameLaws.{all_with}
use Rattle.gq_plan_ir.specs.Naming.{Visible, View, visible_at, set_flag, reference_or_nothing, is_set_at, reference_at, AreDistinct, with_name as view_with}
use Rattle.gq_plan_ir.specs.Alike.{Sides, WordsAlike, NamesAlike, old_world, new_world}
use Rattle.gq_plan_ir.specs.StandsFor.{TargetStands, with_target}

-- ---- a look-up by a reference finds what the look-up by its name finds

pub both_all : {A : Type 0} (P Q : A → Type 0) (xs : List A) → AllOf P xs → AllOf Q xs → AllOf (λ x. P x × Q x) xs
both_all P Q [] h g = tt
both_all P Q (x ∷ xs) h g = ((h.0, g.0), both_all P Q xs h.1 g.1)

module _ {M N : Type 0} (s : Sides M N) (w : WordsAlike s) where
  abbrev same : M → M → Bool
  same = s.fixed.names.same

  abbrev like : N → N → Bool
  like = s.fixed.references.same

  -- a look-up by the references that f gives finds this one exactly if the look-up by name does
  abbrev pub Told : (M → N) → N → M → Type 0
  Told f r x = (y : M) → like r (f y) ≡ same x y

  abbrev pub AllTold : (M → N) → View M N → Type 0
  AllTold f view = AllOf (λ (v : Visible M N). Told f v.reference v.name) view

  -- a fact on nothing and on all references is one on the reference of any name
  of_reference : (P : N → Type 0) (view : View M N) (y : M) → P s.fixed.nothing → AllOf (λ (v : Visible M N). P v.reference) view → P (reference_at s.fixed view y)
  of_reference P [] y n h = n
  of_reference P (v ∷ view) y n h = go (same v.name y) (of_reference P view y n h.1)
    where
      go : (q : Bool) → P (reference_at s.fixed view y) → P (reference_or_nothing s.fixed (if q then Some v else visible_at s.fixed view y))
      go true r = h.0
      go false r = r

  -- the reference if one more name is visible
  with_first : (v : Visible M N) (view : View M N) (y : M) (q : Bool) → same v.name y ≡ q → reference_at s.fixed (v ∷ view) y ≡ (if q then v.reference else reference_at s.fixed view y)
  with_first v view y true e = ap (λ b. reference_or_nothing s.fixed (if b then Some v else visible_at s.fixed view y)) e
  with_first v view y false e = ap (λ b. reference_or_nothing s.fixed (if b then Some v else visible_at s.fixed view y)) e

  pub all_told : (view : View M N) → AreDistinct s.fixed view → AllTold (reference_at s.fixed view) view
  all_told [] d = tt
  all_told (v ∷ view) d = (head, all_with _ _ view tail (both_all _ _ view (both_all _ _ view d.0.name d.0.reference) (all_told view d.1)))
    where
      head_at : (y : M) (q : Bool) → same v.name y ≡ q → like v.reference (if q then v.reference else reference_at s.fixed view y) ≡ q
      head_at y true e = d.0.itself
      head_at y false e = of_reference (λ r. like v.reference r ≡ false) view y (w.nothing v.reference) (all_with _ _ view (λ u h. h.1) d.0.reference)

      head : Told (reference_at s.fixed (v ∷ view)) v.reference v.name
      head y = ap (like v.reference) (with_first v view y (same v.name y) refl) ∙ head_at y (same v.name y) refl

      tail : (u : Visible M N) → ((same u.name v.name ≡ false) × ((like u.reference v.reference ≡ false) × (like v.reference u.reference ≡ false))) × Told (reference_at s.fixed view) u.reference u.name → Told (reference_at s.fixed (v ∷ view)) u.reference u.name
      tail u h y = ap (like u.reference) (with_first v view y (same v.name y) refl) ∙ tail_at (same v.name y) refl
        where
          tail_at : (q : Bool) → same v.name y ≡ q → like u.reference (if q then v.reference else reference_at s.fixed view y) ≡ same u.name y
          tail_at true e = h.0.1.0 ∙ sym (sym (ap (same u.name) (w.same v.name y e)) ∙ h.0.0)
          tail_at false e = h.1 y

  -- ---- the contents of names

  -- the same is found by name and by the references that f gives
  abbrev pub LooksAlike : (M → N) → List (M × Thing) → List (N × Thing) → Type 0
  LooksAlike f as' bs = (y : M) → under like (f y) bs ≡ under same y as'

  pub looks : (f : M → N) (view : View M N) (as' : List (M × Thing)) (bs : List (N × Thing)) → AllTold f view → NamesAlike s view as' bs → LooksAlike f as' bs
  looks f [] [] [] t h y = refl
  looks f (v ∷ view) (a ∷ as') (b ∷ bs) t h y =
      let e : like b.0 (f y) ≡ same a.0 y = ap (λ r. like r (f y)) h.0.reference ∙ t.0 y ∙ ap (λ n. same n y) (sym h.0.name) in
      let g : under like (f y) bs ≡ under same y as' = looks f view as' bs t.1 h.1 y in
      ap (λ q. if q then Some b.1 else under like (f y) bs) e ∙ (ap (λ o. if same a.0 y then Some b.1 else o) g ∙ ap (λ th. if same a.0 y then Some th else under same y as') h.0.thing)
  looks f view as' bs t h y = absurd h

  -- one more name
  pub looks_new : (f : M → N) (as' : List (M × Thing)) (bs : List (N × Thing)) (x : M) (r : N) (thing : Thing) → Told f r x → LooksAlike f as' bs → LooksAlike f ((x, thing) ∷ as') ((r, thing) ∷ bs)
  looks_new f as' bs x r thing t h y = ap (λ q. if q then Some thing else under like (f y) bs) (t y) ∙ ap (λ o. if same x y then Some thing else o) (h y)

  -- a name that is found is visible
  pub found_visible : (view : View M N) (as' : List (M × Thing)) (bs : List (N × Thing)) → NamesAlike s view as' bs → (x : M) → is_some (visible_at s.fixed view x) ≡ is_some (under same x as')
  found_visible [] [] [] h x = refl
  found_visible (v ∷ view) (a ∷ as') (b ∷ bs) h x = ap (λ n. is_some (if same n x then Some v else visible_at s.fixed view x)) (sym h.0.name) ∙ go (same a.0 x) (found_visible view as' bs h.1 x)
    where
      go : (q : Bool) → is_some (visible_at s.fixed view x) ≡ is_some (under same x as') → is_some (if q then Some v else visible_at s.fixed view x) ≡ is_some (if q then Some a.1 else under same x as')
      go true r = refl
      go false r = r
  found_visible view as' bs h x = absurd h

  -- a set is visible as one
  pub found_set : (view : View M N) (as' : List (M × Thing)) (bs : List (N × Thing)) → NamesAlike s view as' bs → (x : M) → is_set_at s.fixed view x ≡ is_set (under same x as')
  found_set [] [] [] h x = refl
  found_set (v ∷ view) (a ∷ as') (b ∷ bs) h x = ap (λ n. set_flag s.fixed (if same n x then Some v else visible_at s.fixed view x)) (sym h.0.name) ∙ go (same a.0 x) (found_set view as' bs h.1 x)
    where
      go : (q : Bool) → is_set_at s.fixed view x ≡ is_set (under same x as') → set_flag s.fixed (if q then Some v else visible_at s.fixed view x) ≡ is_set (if q then Some a.1 else under same x as')
      go true r = sym h.0.set
      go false r = r
  found_set view as' bs h x = absurd h

  -- the reference of a visible name is looked for as the name is
  pub told_at : (f : M → N) (view : View M N) → AllTold f view → (x : M) (v : Visible M N) → visible_at s.fixed view x ≡ Some v → Told f v.reference x
  told_at f [] t x v e = cc
  told_at f (u ∷ view) t x v e = go (same u.name x) refl e (told_at f view t.1 x v)
    where
      go : (q : Bool) → same u.name x ≡ q → (if q then Some u else visible_at s.fixed view x) ≡ Some v → (visible_at s.fixed view x ≡ Some v → Told f v.reference x) → Told f v.reference x
      go true g h r y = ap (λ r. like r (f y)) (sym (ap (λ (z : Visible M N). z.reference) (some_inj h))) ∙ (t.0 y ∙ ap (λ n. same n y) (w.same u.name x g))
      go false g h r y = r h y

  -- ---- names that come into view, that are assigned, and that end with a body

  abbrev Names : Type 0
  Names = List (M × Thing)

  abbrev References : Type 0
  References = List (N × Thing)

  -- ---- look-ups

  pub seen : (view : View M N) (as' : Names) (bs : References) → AreDistinct s.fixed view → NamesAlike s view as' bs → LooksAlike (reference_at s.fixed view) as' bs
  seen view as' bs d h = looks (reference_at s.fixed view) view as' bs (all_told view d) h

  -- a new reference isn't there
  pub new_reference : (view : View M N) (as' : Names) (bs : References) (r : N) → AllOf (λ (v : Visible M N). (like v.reference r ≡ false) × (like r v.reference ≡ false)) view → NamesAlike s view as' bs → under like r bs ≡ None
  new_reference [] [] [] r n h = refl
  new_reference (v ∷ view) (a ∷ as') (b ∷ bs) r n h = ap (λ q. if q then Some b.1 else under like r bs) (ap (λ z. like z r) h.0.reference ∙ n.0.0) ∙ new_reference view as' bs r n.1 h.1
  new_reference view as' bs r n h = absurd h

  -- nor is its name
  pub not_visible : (view : View M N) (x : M) → AllOf (λ (v : Visible M N). same v.name x ≡ false) view → visible_at s.fixed view x ≡ None
  not_visible [] x h = refl
  not_visible (v ∷ view) x h = ap (λ q. if q then Some v else visible_at s.fixed view x) h.0 ∙ not_visible view x h.1

  pub no_thing : {A : Type 0} (o : Option A) → is_some o ≡ false → o ≡ None
  no_thing None h = refl
  no_thing (Some a) h = cc

  -- ---- one name more

  pub new_alike : (view : View M N) (as' : Names) (bs : References) (x : M) (r : N) (thing : Thing) (q : Bool) → is_set (Some thing) ≡ q → NamesAlike s view as' bs → NamesAlike s (view_with s.fixed view x r q) ((x, thing) ∷ as') ((r, thing) ∷ bs)
  new_alike view as' bs x r thing q e h = (record { name = refl; reference = refl; thing = refl; set = e }, h)

  -- ---- a name that holds something else

  changed_alike : (view : View M N) (as' : Names) (bs : References) (x : M) (u : Visible M N) (thing : Thing) → visible_at s.fixed view x ≡ Some u
      → AllOf (λ (v : Visible M N). like v.reference u.reference ≡ same v.name x) view → is_set (Some thing) ≡ u.is_set → NamesAlike s view as' bs → NamesAlike s view (changed same x thing as') (changed like u.reference thing bs)
  changed_alike [] [] [] x u thing e t i h = tt
  changed_alike (v ∷ view) (a ∷ as') (b ∷ bs) x u thing e t i h =
      rw (ap (λ n. same n x) h.0.name, ap (λ z. like z u.reference) h.0.reference ∙ t.0) (go (same v.name x) refl e (λ e. changed_alike view as' bs x u thing e t.1 i h.1))
    where
      go : (q : Bool) → same v.name x ≡ q → (if q then Some v else visible_at s.fixed view x) ≡ Some u → (visible_at s.fixed view x ≡ Some u → NamesAlike s view (changed same x thing as') (changed like u.reference thing bs))
          → NamesAlike s (v ∷ view) (if q then (x, thing) ∷ as' else a ∷ changed same x thing as') (if q then (u.reference, thing) ∷ bs else b ∷ changed like u.reference thing bs)
      go true g e r =
          let is : v ≡ u = some_inj e in
          (record { name = sym (w.same v.name x g); reference = ap (λ (z : Visible M N). z.reference) (sym is); thing = refl; set = i ∙ ap (λ (z : Visible M N). z.is_set) (sym is) }, h.1)
      go false g e r = (h.0, r e)
  changed_alike view as' bs x u thing e t i h = absurd h

  -- a visible name and its reference have the same thing
  pub at_target : (view : View M N) (as' : Names) (bs : References) (x : M) (r : N) (q : Bool) → AreDistinct s.fixed view → NamesAlike s view as' bs → TargetStands s.fixed view x r q → under like r bs ≡ under same x as'
  at_target view as' bs x r q d h t = go (visible_at s.fixed view x) refl
    where
      go : (o : Option (Visible M N)) → visible_at s.fixed view x ≡ o → under like r bs ≡ under same x as'
      go (Some v) e = let u = rw (e, TargetStands) at t in ap (λ z. under like z bs) (u.0 ∙ sym (ap (reference_or_nothing s.fixed) e)) ∙ seen view as' bs d h x
      go None e =
          let u = rw (e, TargetStands) at t in
          new_reference view as' bs r u.1.reference h ∙ sym (no_thing (under same x as') (sym (found_visible view as' bs h x) ∙ ap is_some e))

  -- a name that is assigned
  pub assigned_alike : (view : View M N) (old : State M) (new : State N) (x : M) (r : N) (q : Bool) (thing : Thing) → AreDistinct s.fixed view → NamesAlike s view old.names new.names → TargetStands s.fixed view x r q → is_set (Some thing) ≡ q
      → NamesAlike s (with_target s.fixed view x r) (with_name (old_world s) x thing old).names (with_name (new_world s) r thing new).names
  assigned_alike view old new x r q thing d h t i = go (visible_at s.fixed view x) refl
    where
      there : under like r new.names ≡ under same x old.names
      there = at_target view old.names new.names x r q d h t

      is_there : is_some (under same x old.names) ≡ is_some (visible_at s.fixed view x)
      is_there = sym (found_visible view old.names new.names h x)

      go : (o : Option (Visible M N)) → visible_at s.fixed view x ≡ o → NamesAlike s (with_target s.fixed view x r) (with_name (old_world s) x thing old).names (with_name (new_world s) r thing new).names
      go (Some v) e =
          let b : is_some (under same x old.names) ≡ true = is_there ∙ ap is_some e in
          let u = rw (e, TargetStands) at t in
          rw (e, with_target, b, ap is_some there ∙ b, u.0, with_name) (changed_alike view old.names new.names x v thing e told (i ∙ sym u.1) h)
        where
          told : AllOf (λ (u : Visible M N). like u.reference v.reference ≡ same u.name x) view
          told = all_with (λ (u : Visible M N). Told (reference_at s.fixed view) u.reference u.name) (λ (u : Visible M N). like u.reference v.reference ≡ same u.name x) view (λ u k. sym (ap (λ o. like u.reference (reference_or_nothing s.fixed o)) e) ∙ k x) (all_told view d)
      go None e =
          let b : is_some (under same x old.names) ≡ false = is_there ∙ ap is_some e in
          let u = rw (e, TargetStands) at t in
          rw (e, with_target, b, ap is_some there ∙ b, with_name) (new_alike view old.names new.names x r thing true (i ∙ u.0) h)

  -- ---- names that end

  pub names_length : (view : View M N) (as' : Names) (bs : References) → NamesAlike s view as' bs → (length as' ≡ length view) × (length bs ≡ length view)
  names_length [] [] [] h = (refl, refl)
  names_length (v ∷ view) (a ∷ as') (b ∷ bs) h = let r = names_length view as' bs h.1 in (ap suc r.0, ap suc r.1)
  names_length view as' bs h = absurd h

  dropped_alike : (added view : View M N) (as' : Names) (bs : References) → NamesAlike s (added ++ view) as' bs → NamesAlike s view (drop (length added) as') (drop (length added) bs)
  dropped_alike [] view as' bs h = h
  dropped_alike (v ∷ added) view (a ∷ as') (b ∷ bs) h = dropped_alike added view as' bs h.1
  dropped_alike added view as' bs h = absurd h

  -- after a body only the names that were visible before it are visible
  pub ended_alike : (added view : View M N) (before as' : Names) (old bs : References) → NamesAlike s view before old → NamesAlike s (added ++ view) as' bs
      → NamesAlike s view (drop (length as' - length before) as') (drop (length bs - length old) bs)
  ended_alike added view before as' old bs h g =
      let m = names_length view before old h in
      let n = names_length (added ++ view) as' bs g in
      let l = length-append added view in
      let p : length as' - length before ≡ length added = omega (arith, m.0, n.0, l) in
      let q : length bs - length old ≡ length added = omega (arith, m.1, n.1, l) in
      rw (p, q) (dropped_alike added view as' bs g)
