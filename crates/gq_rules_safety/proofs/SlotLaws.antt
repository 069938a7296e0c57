-- SlotLaws: accumulators that keep fitting while their contents change.
use Rattle.std.proofs.Common.{◌≡◌, ℕ, zero, suc, Bool, true, List, [], ◌∷◌, length, arith, Option, Some, None, refl, ap, sym, ◌∙◌, subst}
use Rattle.std.specs.Prelude.{slice_get}
use Rattle.std.specs.List.{position_or_len}
use Rattle.gq_value.specs.Accums.{Accum}
use Rattle.gq_accum_laws.specs.Holds.{Holds}
use Rattle.gq_accum_laws.specs.Fits.{fits}
use Rattle.gq_rules_typing.specs.Scopes.{Scope}
use Rattle.gq_rules_meaning.specs.Expressions.{World}
use Rattle.gq_rules_meaning.specs.States.{Thing, Slot, slot_number, slot_named}
use Rattle.gq_rules_meaning.specs.Writes.{Making, changed_at, passes_at, slot_changed, fits_at}
use Rattle.gq_rules_meaning.specs.StateFits.{SlotFits, AccumFits, ContentFits, NamesFit}
use Rattle.gq_rules_meaning.proofs.AnswerLaws.{some_inj}

-- ---- one item of a list that changes

changed_length : {A : Type 0} (f : A → A) (n : ℕ) (xs : List A) → length (changed_at f n xs) ≡ length xs
changed_length f n [] = refl
changed_length f zero (x ∷ xs) = refl
changed_length f (suc n) (x ∷ xs) = let r = changed_length f n xs in omega (arith, r)

-- all items are so, also the one that changes and passes
changed_items : {A : Type 0} (P : A → Type 0) (p : A → Bool) (f : A → A) (n : ℕ) (xs : List A) → ((i : ℕ) (a : A) → slice_get xs i ≡ Some a → P a) → ((a : A) → P a → p (f a) ≡ true → P (f a)) → passes_at p n (changed_at f n xs) ≡ true
    → (i : ℕ) (a : A) → slice_get (changed_at f n xs) i ≡ Some a → P a
changed_items P p f n [] old new h i a e = cc
changed_items P p f zero (x ∷ xs) old new h zero a e = subst P (some_inj e) (new x (old 0 x refl) h)
changed_items P p f zero (x ∷ xs) old new h (suc i) a e = old (suc i) a e
changed_items P p f (suc n) (x ∷ xs) old new h zero a e = old 0 a e
changed_items P p f (suc n) (x ∷ xs) old new h (suc i) a e = changed_items P p f n xs (λ j. old (suc j)) new h i a e

module _ {N : Type 0} (world : World N) where
  -- an accumulator keeps its name, and still fits if it did before
  pub record SlotKeeps (s t : Slot N) : Type 0 where
    pub name : t.name ≡ s.name
    pub kind : t.kind ≡ s.kind
    pub fit : (k : Accum) (attached : Bool) → SlotFits world k attached s → SlotFits world k attached t

  abbrev pub Keeps : List (Slot N) → List (Slot N) → Type 0
  Keeps [] [] = Unit {0}
  Keeps (s ∷ ss) (t ∷ ts) = SlotKeeps s t × Keeps ss ts
  Keeps _ _ = ⊥

  pub keeps_same : (ss : List (Slot N)) → Keeps ss ss
  keeps_same [] = tt
  keeps_same (s ∷ ss) = (record { name = refl; kind = refl; fit = λ k attached h. h }, keeps_same ss)

  pub keeps_then : (ss ts us : List (Slot N)) → Keeps ss ts → Keeps ts us → Keeps ss us
  keeps_then [] [] [] h g = tt
  keeps_then (s ∷ ss) (t ∷ ts) (u ∷ us) h g = (record { name = g.0.name ∙ h.0.name; kind = g.0.kind ∙ h.0.kind; fit = λ k attached f. g.0.fit k attached (h.0.fit k attached f) }, keeps_then ss ts us h.1 g.1)
  keeps_then [] [] (u ∷ us) h g = absurd g
  keeps_then [] (t ∷ ts) us h g = absurd h
  keeps_then (s ∷ ss) [] us h g = absurd h
  keeps_then (s ∷ ss) (t ∷ ts) [] h g = absurd g

  kept_count : (ss ts : List (Slot N)) → Keeps ss ts → length ts ≡ length ss
  kept_count [] [] h = refl
  kept_count (s ∷ ss) (t ∷ ts) h = let r = kept_count ss ts h.1 in omega (arith, r)
  kept_count [] (t ∷ ts) h = absurd h
  kept_count (s ∷ ss) [] h = absurd h

  kept_place : (a : N) (ss ts : List (Slot N)) → Keeps ss ts → position_or_len (λ (s : Slot N). world.words.same s.name a) ts ≡ position_or_len (λ (s : Slot N). world.words.same s.name a) ss
  kept_place a [] [] h = refl
  kept_place a (s ∷ ss) (t ∷ ts) h = let r = kept_place a ss ts h.1 in let q = ap (λ n. world.words.same n a) h.0.name in cc
  kept_place a [] (t ∷ ts) h = absurd h
  kept_place a (s ∷ ss) [] h = absurd h

  pub kept_number : (a : N) (ss ts : List (Slot N)) → Keeps ss ts → slot_number world ts a ≡ slot_number world ss a
  kept_number a ss ts h = let n = kept_count ss ts h in let m = kept_place a ss ts h in cc

  pub kept_slot : (n : ℕ) (ss ts : List (Slot N)) → Keeps ss ts → (s : Slot N) → slice_get ss n ≡ Some s → (t : Slot N) × (slice_get ts n ≡ Some t) × SlotKeeps s t
  kept_slot n [] [] h s e = cc
  kept_slot zero (r ∷ ss) (t ∷ ts) h s e = (t, refl, subst (λ s. SlotKeeps s t) (some_inj e) h.0)
  kept_slot (suc n) (r ∷ ss) (t ∷ ts) h s e = kept_slot n ss ts h.1 s e
  kept_slot n [] (t ∷ ts) h s e = absurd h
  kept_slot n (s ∷ ss) [] h r e = absurd h

  -- an accumulator that is there has a number
  pub numbered : (ss : List (Slot N)) (a : N) (slot : Slot N) → slot_named world ss a ≡ Some slot → (n : ℕ) × (slot_number world ss a ≡ Some n) × (slice_get ss n ≡ Some slot)
  numbered ss a slot e = go (slot_number world ss a) refl e
    where
      at : Option ℕ → Option (Slot N)
      at None = None
      at (Some n) = slice_get ss n

      go : (o : Option ℕ) → slot_number world ss a ≡ o → at o ≡ Some slot → (n : ℕ) × (slot_number world ss a ≡ Some n) × (slice_get ss n ≡ Some slot)
      go (Some n) d e = (n, d, e)
      go None d e = cc

  pub named_by : (ss : List (Slot N)) (a : N) (n : ℕ) (slot : Slot N) → slot_number world ss a ≡ Some n → slice_get ss n ≡ Some slot → slot_named world ss a ≡ Some slot
  named_by ss a n slot d e = ap at d ∙ e
    where
      at : Option ℕ → Option (Slot N)
      at None = None
      at (Some n) = slice_get ss n

  pub keeps_accum : (ss ts : List (Slot N)) → Keeps ss ts → (a : N) (k : Accum) (attached : Bool) → AccumFits world ss a k attached → AccumFits world ts a k attached
  keeps_accum ss ts h a k attached f =
      let n = numbered ss a f.slot f.found in let t = kept_slot n.0 ss ts h f.slot n.2 in
      record { slot = t.0; found = named_by ts a n.0 t.0 (kept_number a ss ts h ∙ n.1) t.1; fit = t.2.fit k attached f.fit }

  pub keeps_names : (s : Scope N) (names : List (N × Thing)) (ss ts : List (Slot N)) → Keeps ss ts → NamesFit world s names ss → NamesFit world s names ts
  keeps_names s names ss ts h f = record { store = f.store; setting = f.setting; named = f.named; accum = λ a k attached e. keeps_accum ss ts h a k attached (f.accum a k attached e) }

  -- ---- one content that changes

  -- the result of a making on a content still fits
  abbrev pub Makes : Accum → Making → Type 0
  Makes k f = (c : Holds k) → ContentFits world k c → fits k (f k c) ≡ true → ContentFits world k (f k c)

  pub slot_kept : (f : Making) (v : ℕ) (s : Slot N) → Makes s.kind f → fits_at v (slot_changed f v s) ≡ true → SlotKeeps s (slot_changed f v s)
  slot_kept f v s makes h = record {
    name = refl;
    kind = refl;
    fit = λ k attached g. record {
      kind = g.kind;
      attaches = g.attaches;
      count = changed_length (f s.kind) v s.contents ∙ g.count;
      contents = λ i c e. changed_items (ContentFits world s.kind) (fits s.kind) (f s.kind) v s.contents g.contents makes h i c e;
    };
  }

  pub slots_kept : (g : Slot N → Slot N) (n : ℕ) (ss : List (Slot N)) (s : Slot N) → slice_get ss n ≡ Some s → SlotKeeps s (g s) → Keeps ss (changed_at g n ss)
  slots_kept g n [] s e h = tt
  slots_kept g zero (r ∷ ss) s e h = (subst (λ s. SlotKeeps s (g s)) (sym (some_inj e)) h, keeps_same ss)
  slots_kept g (suc n) (r ∷ ss) s e h = (record { name = refl; kind = refl; fit = λ k attached f. f }, slots_kept g n ss s e h)
