-- ShowSteps: from levels to whole contents.
use Rattle.std.proofs.Common.{[], ◌∷◌, sym, ap, ◌∙◌, subst}
use Rattle.gq_value.specs.Accums.{Accum, Given}
use Rattle.gq_accum_laws.specs.Holds.{Holds}
use Rattle.gq_accum_laws.specs.After.{fresh, after, merged}
use Rattle.gq_accum_laws.specs.Fits.{HasRoom, IsProper}
use Rattle.gq_accum_laws.proofs.ProperLaws.{proper_law, merged_part}
use Rattle.gq_nest.specs.declared.content.Content.{Content, out-Content}
use Rattle.gq_nest.specs.Forms.{Feeds, Merges, Copies}
use Rattle.gq_nest.specs.Shows.{Shows, TakesInput, TakesContent, ShowsTheSame}

pub takes_input : (old new : Content) (x : Given) → Feeds (out-Content old) x (out-Content new) → TakesInput old x new
takes_input old new x f = record {
  each = λ k h s room suit.
      let r = f.each k s.of_kind (subst (IsProper k) (sym s.holds) s.proper) (subst (HasRoom k) (sym s.holds) room) suit in
      record { of_kind = r.0; holds = r.1 ∙ ap (λ c. after k c (x ∷ [])) s.holds; proper = proper_law.fed k h (x ∷ []) s.proper };
}

merges : (old other new : Content) → Merges (out-Content old) (out-Content other) (out-Content new) → (k : Accum) (h d : Holds k) → Shows k old h → Shows k other d → HasRoom k h → HasRoom k d → Shows k new (merged k h d)
merges old other new m k h d s o room also =
    let r = m.each k s.of_kind o.of_kind (subst (IsProper k) (sym s.holds) s.proper) (subst (HasRoom k) (sym s.holds) room) (subst (HasRoom k) (sym o.holds) also) in
    record { of_kind = r.0; holds = r.1 ∙ (λ i. merged k (s.holds i) (o.holds i)); proper = proper_law.joint k h d s.proper o.proper }

pub takes_content : (old other new : Content) → Merges (out-Content old) (out-Content other) (out-Content new) → TakesContent old other new
takes_content old other new m = record {
  each = merges old other new m;
  gathers = λ k h xs s o room also. subst (Shows k new) (merged_part k h xs s.proper) (merges old other new m k h (after k (fresh k) xs) s o room also);
}

pub shows_the_same : (old new : Content) → Copies (out-Content old) (out-Content new) → ShowsTheSame old new
shows_the_same old new c = record { each = λ k h s. let r = c.each k s.of_kind in record { of_kind = r.0; holds = r.1 ∙ s.holds; proper = s.proper } }
