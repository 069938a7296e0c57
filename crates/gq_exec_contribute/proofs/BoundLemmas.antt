-- BoundLemmas: rows of a candidate's aliases.
use Rattle.std.proofs.Common.{◌≡◌, ℕ, zero, suc, ◌+◌, ◌<◌, List, [], ◌∷◌, ◌++◌, map, take, set, length, Option, refl, sym, ap, ap₂, ◌∙◌, arith, append-nil, append_assoc}
use Rattle.std.specs.Option.{option_to_list}
use Rattle.gq_frame.specs.declared.frame.Alias.{Alias}
use Rattle.gq_frame.specs.Names.{Placed, alias_of}

-- ---- a row that is filled from its start

pub put_more : (row : List Alias) (n : ℕ) (a : Alias) → n < length row → map alias_of (take (n + 1) (set row n a)) ≡ map alias_of (take n row) ++ (alias_of a ∷ [])
put_more [] n a h = absurd (omega (arith, h))
put_more (x ∷ row) zero a h = refl
put_more (x ∷ row) (suc n) a h = (let e : suc n + 1 ≡ suc (n + 1) = omega arith in ap (λ (m : ℕ). map alias_of (take m (set (x ∷ row) (suc n) a))) e) ∙ ap (λ l. alias_of x ∷ l) (put_more row n a (omega (arith, h)))

pub put_none : (row : List Alias) (n : ℕ) → map alias_of (take n row) ≡ map alias_of (take n row) ++ []
put_none row n = sym (append-nil (map alias_of (take n row)))

pub bind_all : (x0 x1 x2 x3 : List (ℕ × Placed)) (t e s t' e' s' : Option (ℕ × Placed)) → x0 ≡ [] → x1 ≡ x0 ++ option_to_list t → x2 ≡ x1 ++ option_to_list e → x3 ≡ x2 ++ option_to_list s → t ≡ t' → e ≡ e' → s ≡ s'
    → x3 ≡ option_to_list t' ++ (option_to_list e' ++ option_to_list s')
bind_all x0 x1 x2 x3 t e s t' e' s' p0 p1 p2 p3 pt pe ps =
    p3 ∙ ap (λ l. l ++ option_to_list s) (p2 ∙ ap (λ l. l ++ option_to_list e) (p1 ∙ ap (λ l. l ++ option_to_list t) p0))
    ∙ append_assoc (option_to_list t) (option_to_list e) (option_to_list s)
    ∙ ap₂ (λ u v. option_to_list u ++ v) pt (ap₂ (λ u v. option_to_list u ++ option_to_list v) pe ps)

pub ruleset put_laws = (put_more, put_none)

pub ruleset bind_laws = (bind_all)
