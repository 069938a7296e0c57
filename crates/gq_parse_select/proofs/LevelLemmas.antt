-- LevelLemmas: one more level of inputs and of acts, and enough levels for the lexemes that remain.
use Rattle.std.proofs.Common.{◌≡◌, ℕ, suc, ◌-◌, ◌<◌, length, drop, Option, Some, None, Result, Ok, Err, IfOk, ap, subst, arith, length-drop, refl}
use Rattle.gq_tree.specs.declared.select.InputTree.{InputTree}
use Rattle.gq_tree.specs.declared.select.ActTree.{ActTree}
use Rattle.gq_grammar.specs.Lexemes.{Lexemes}
use Rattle.gq_grammar.specs.Parsers.{Parser, Found}
use Rattle.gq_parse_select.specs.Acts.{input_in_parser, nested_input_parser, input_parser, act_in_parser, nested_act_parser, act_parser}

pub no_input_levels : (n : ℕ) (l : Lexemes) → n ≡ 0 → nested_input_parser n l ≡ None
unfolding nested_input_parser
no_input_levels n l e = ap (λ n. nested_input_parser n l) e

pub no_act_levels : (n : ℕ) (l : Lexemes) → n ≡ 0 → nested_act_parser n l ≡ None
unfolding nested_act_parser
no_act_levels n l e = ap (λ n. nested_act_parser n l) e

deeper_input : (n : ℕ) (all : Lexemes) (at : ℕ) (o : Option (InputTree × ℕ)) → Found (input_in_parser (nested_input_parser n)) all at o → Found (nested_input_parser (suc n)) all at o
unfolding nested_input_parser
deeper_input n all at None h = h
deeper_input n all at (Some x) h = h

deeper_act : (n : ℕ) (all : Lexemes) (at : ℕ) (o : Option (ActTree × ℕ)) → Found (act_in_parser (nested_act_parser n)) all at o → Found (nested_act_parser (suc n)) all at o
unfolding nested_act_parser
deeper_act n all at None h = h
deeper_act n all at (Some x) h = h

pub input_level : {E : Type 0} (n : ℕ) (all : Lexemes) (at : ℕ) (r : Result (Option (InputTree × ℕ)) E) → 0 < n → IfOk r (Found (input_in_parser (nested_input_parser (n - 1))) all at) → IfOk r (Found (nested_input_parser n) all at)
input_level n all at (Err e) some h = h
input_level n all at (Ok o) some h =
    let e : suc (n - 1) ≡ n = omega arith in
    subst (λ m. Found (nested_input_parser m) all at o) e (deeper_input (n - 1) all at o h)

pub act_level : {E : Type 0} (n : ℕ) (all : Lexemes) (at : ℕ) (r : Result (Option (ActTree × ℕ)) E) → 0 < n → IfOk r (Found (act_in_parser (nested_act_parser (n - 1))) all at) → IfOk r (Found (nested_act_parser n) all at)
act_level n all at (Err e) some h = h
act_level n all at (Ok o) some h =
    let e : suc (n - 1) ≡ n = omega arith in
    subst (λ m. Found (nested_act_parser m) all at o) e (deeper_act (n - 1) all at o h)

-- as many levels as there are lexemes left
left : (all : Lexemes) (at n : ℕ) → n ≡ length all → n - at ≡ length (drop at all)
left all at n e = omega (arith, length-drop at all, e)

enough : {A : Type 0} (nested : ℕ → Parser A) (p : Parser A) (all : Lexemes) (at n : ℕ) (o : Option (A × ℕ)) → ((l : Lexemes) → nested (length l) l ≡ p l) → n ≡ length all → Found (nested (n - at)) all at o → Found p all at o
enough nested p all at n None same e f = subst (λ o. o ≡ None) (same (drop at all)) (subst (λ m. nested m (drop at all) ≡ None) (left all at n e) f)
enough nested p all at n (Some x) same e f =
    (subst (λ o. o ≡ Some (x.0, drop x.1 all)) (same (drop at all)) (subst (λ m. nested m (drop at all) ≡ Some (x.0, drop x.1 all)) (left all at n e) f.0), f.1, f.2)

same_input : (l : Lexemes) → nested_input_parser (length l) l ≡ input_parser l
unfolding input_parser
same_input l = refl

same_act : (l : Lexemes) → nested_act_parser (length l) l ≡ act_parser l
unfolding act_parser
same_act l = refl

pub input_result : {E : Type 0} (all : Lexemes) (at n : ℕ) (r : Result (Option (InputTree × ℕ)) E) → n ≡ length all → IfOk r (Found (nested_input_parser (n - at)) all at) → IfOk r (Found input_parser all at)
input_result all at n (Err e) is h = h
input_result all at n (Ok o) is h = enough nested_input_parser input_parser all at n o same_input is h

pub act_result : {E : Type 0} (all : Lexemes) (at n : ℕ) (r : Result (Option (ActTree × ℕ)) E) → n ≡ length all → IfOk r (Found (nested_act_parser (n - at)) all at) → IfOk r (Found act_parser all at)
act_result all at n (Err e) is h = h
act_result all at n (Ok o) is h = enough nested_act_parser act_parser all at n o same_act is h
