-- ScopeGrowth: scopes with the same names over two settings.
use Rattle.std.proofs.Common.{◌≡◌, Bool, List, [], ◌∷◌, Ok, refl, sym, subst}
use Rattle.gq_rules_typing.specs.Words.{Setting}
use Rattle.gq_rules_typing.specs.Judging.{Judged, ◌>>=◌, through_judged}
use Rattle.gq_rules_typing.specs.Scopes.{Entry, Scope}
use Rattle.gq_rules_safety.proofs.Leads.{Leads, leads_then}

abbrev pub scoped : {N : Type 0} → Setting N → List (N × Entry) → Bool → Scope N
scoped setting names paths = record { setting = setting; names = names; with_paths = paths }

-- the same names over one setting and the other
abbrev pub Scopes : {N : Type 0} → Setting N → Setting N → Bool → Scope N → Scope N → Type 0
Scopes {N = N} x y paths s t = (names : List (N × Entry)) × (s ≡ scoped x names paths) × (t ≡ scoped y names paths)

pub ok_same : {A : Type 0} {a b : A} → ◌≡◌ {A = Judged A} (Ok a) (Ok b) → a ≡ b
ok_same h = cc

pub scopes_ok : {N : Type 0} (x y : Setting N) (paths : Bool) (names : List (N × Entry)) → Leads (Scopes x y paths) (Ok (scoped x names paths)) (Ok (scoped y names paths))
scopes_ok x y paths names = record { leads = λ s e. (scoped y names paths, refl, (names, sym (ok_same e), refl)) }

pub scopes_then : {N C D : Type 0} {Q : C → D → Type 0} (x y : Setting N) (paths : Bool) (j k : Judged (Scope N)) (f : Scope N → Judged C) (g : Scope N → Judged D) → Leads (Scopes x y paths) j k
    → ((names : List (N × Entry)) → Leads Q (f (scoped x names paths)) (g (scoped y names paths))) → Leads Q (j >>= f) (k >>= g)
scopes_then {Q = Q} x y paths j k f g h n =
    leads_then (Scopes x y paths) Q j k f g h (λ s t e r. subst (λ s. Leads Q (f s) (g t)) (sym r.1) (subst (λ t. Leads Q (f (scoped x r.0 paths)) (g t)) (sym r.2) (n r.0)))

pub scopes_through : {N A : Type 0} (x y : Setting N) (paths : Bool) (f g : Scope N → A → Judged (Scope N)) → ((names : List (N × Entry)) (a : A) → Leads (Scopes x y paths) (f (scoped x names paths) a) (g (scoped y names paths) a))
    → (xs : List A) (names : List (N × Entry)) → Leads (Scopes x y paths) (through_judged f (scoped x names paths) xs) (through_judged g (scoped y names paths) xs)
scopes_through x y paths f g h [] names = scopes_ok x y paths names
scopes_through x y paths f g h (a ∷ rest) names = scopes_then x y paths (f (scoped x names paths) a) (g (scoped y names paths) a) _ _ (h names a) (λ ns. scopes_through x y paths f g h rest ns)
