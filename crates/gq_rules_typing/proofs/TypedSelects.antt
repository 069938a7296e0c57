-- TypedSelects: for SELECT, which rule fails first, and which blocks are accepted.
use Rattle.std.proofs.Common.{◌≡◌, true, false, [], ◌∷◌, Some, None, refl}
use Rattle.std.specs.Prelude.{codes}
use Rattle.gq_tree.specs.declared.expr.AddSign.TheVariants as add
use Rattle.gq_tree.specs.declared.expr.CmpSign.TheVariants as cmp
use Rattle.gq_tree.specs.declared.select.Way.TheVariants as way
use Rattle.gq_tree.specs.declared.kind.Plain.TheVariants as plain
use Rattle.gq_tree.specs.Tree.{Number, Text, Global, Name, Post, Sum, Cmp, And, Field, Method, Attached, Before}
use Rattle.gq_tree.specs.View.{trees_of, parts_of, terms_of}
use Rattle.gq_rules_typing.specs.Selecting.{Plain, Adds, Puts, AtAlias, AtGlobal, Choose, no_act, otherwise, when, Every, These, Nowhere, Path}
use Rattle.gq_rules_typing.specs.Statements.{Ints, Strings, OfBase, OverElem, Averaged, AllOf, Seeds, Selects, Sets, Whole, Selection, Local, Assign, Print, TupleType, Accums}
use Rattle.gq_rules_typing.specs.Judging.{Mismatch, NotAllowedHere, TwoAliases, TooMany, UnknownName, NoAttribute, OrderDependent, WiderSet, NameTwice}
use Rattle.gq_rules_typing.proofs.Written.{acts, stmts, item, hop, selecting}
use Rattle.gq_rules_typing.proofs.Judged.{refused, repeated}

-- S = {person.*}; T = SELECT t FROM S:s -(knows:e)-> person:t ;
a_select : refused false [] (stmts (Assign (codes "S") None (Sets (Seeds (AllOf (codes "person") ∷ [])) []) ∷
    Assign (codes "T") None (Selects (selecting (codes "t") (codes "S") (Some (codes "s")) (hop (These (codes "knows" ∷ [])) (Some (codes "e")) (These (codes "person" ∷ [])) (Some (codes "t"))))) ∷
    [])) ≡ None
a_select = refl

-- T = SELECT s FROM ghost:s;
an_unknown_source : refused false [] (stmts (Assign (codes "T") None (Selects (selecting (codes "s") (codes "ghost") (Some (codes "s")) Nowhere)) ∷
    [])) ≡ Some (UnknownName (codes "ghost"))
an_unknown_source = refl

-- T = SELECT s FROM person:s;
a_type_as_source : refused false [] (stmts (Assign (codes "T") None (Selects (selecting (codes "s") (codes "person") (Some (codes "s")) Nowhere)) ∷
    [])) ≡ None
a_type_as_source = refl

-- person = {city.*}; T = SELECT s FROM person:s WHERE s.age > 1;
a_set_goes_before_a_type : refused false [] (stmts (Assign (codes "person") None (Sets (Seeds (AllOf (codes "city") ∷ [])) []) ∷
    Assign (codes "T") None (Selects (record (selecting (codes "s") (codes "person") (Some (codes "s")) Nowhere) { filter = (Some (Cmp (Post (Name (codes "s")) (parts_of ((Field (codes "age")) ∷ []))) cmp.Greater (Number 1))) })) ∷
    [])) ≡ Some (NoAttribute (codes "age"))
a_set_goes_before_a_type = refl

-- S = {person.*}; T = SELECT t FROM S:t -(knows:t)-> person:u;
an_alias_twice : refused false [] (stmts (Assign (codes "S") None (Sets (Seeds (AllOf (codes "person") ∷ [])) []) ∷
    Assign (codes "T") None (Selects (selecting (codes "t") (codes "S") (Some (codes "t")) (hop (These (codes "knows" ∷ [])) (Some (codes "t")) (These (codes "person" ∷ [])) (Some (codes "u"))))) ∷
    [])) ≡ Some (NameTwice (codes "t"))
an_alias_twice = refl

-- S = {person.*}; INT t; T = SELECT t FROM S:s -(knows:e)-> person:t;
an_alias_that_is_visible : refused false [] (stmts (Assign (codes "S") None (Sets (Seeds (AllOf (codes "person") ∷ [])) []) ∷
    Local Ints ((codes "t", None) ∷ []) ∷
    Assign (codes "T") None (Selects (selecting (codes "t") (codes "S") (Some (codes "s")) (hop (These (codes "knows" ∷ [])) (Some (codes "e")) (These (codes "person" ∷ [])) (Some (codes "t"))))) ∷
    [])) ≡ Some (NameTwice (codes "t"))
an_alias_that_is_visible = refl

-- S = {person.*}; t = SELECT t FROM S:s -(knows:e)-> person:t;
an_alias_like_the_new_set : refused false [] (stmts (Assign (codes "S") None (Sets (Seeds (AllOf (codes "person") ∷ [])) []) ∷
    Assign (codes "t") None (Selects (selecting (codes "t") (codes "S") (Some (codes "s")) (hop (These (codes "knows" ∷ [])) (Some (codes "e")) (These (codes "person" ∷ [])) (Some (codes "t"))))) ∷
    [])) ≡ None
an_alias_like_the_new_set = refl

-- S = {person.*}; S = SELECT S FROM S:S;
an_alias_like_the_old_set : refused false [] (stmts (Assign (codes "S") None (Sets (Seeds (AllOf (codes "person") ∷ [])) []) ∷
    Assign (codes "S") None (Selects (selecting (codes "S") (codes "S") (Some (codes "S")) Nowhere)) ∷
    [])) ≡ Some (NameTwice (codes "S"))
an_alias_like_the_old_set = refl

-- S = {person.*}; T = SELECT t FROM S:s -(ghost:e)-> person:t;
an_unknown_edge_type : refused false [] (stmts (Assign (codes "S") None (Sets (Seeds (AllOf (codes "person") ∷ [])) []) ∷
    Assign (codes "T") None (Selects (selecting (codes "t") (codes "S") (Some (codes "s")) (hop (These (codes "ghost" ∷ [])) (Some (codes "e")) (These (codes "person" ∷ [])) (Some (codes "t"))))) ∷
    [])) ≡ Some (UnknownName (codes "ghost"))
an_unknown_edge_type = refl

-- S = {person.*}; T = SELECT t FROM S:s -(knows:e)-> ghost:t;
an_unknown_target_type : refused false [] (stmts (Assign (codes "S") None (Sets (Seeds (AllOf (codes "person") ∷ [])) []) ∷
    Assign (codes "T") None (Selects (selecting (codes "t") (codes "S") (Some (codes "s")) (hop (These (codes "knows" ∷ [])) (Some (codes "e")) (These (codes "ghost" ∷ [])) (Some (codes "t"))))) ∷
    [])) ≡ Some (UnknownName (codes "ghost"))
an_unknown_target_type = refl

-- S = {person.*}; T = SELECT e FROM S:s -(knows:e)-> person:t WHERE q;
the_selected_name_before_where : refused false [] (stmts (Assign (codes "S") None (Sets (Seeds (AllOf (codes "person") ∷ [])) []) ∷
    Assign (codes "T") None (Selects (record (selecting (codes "e") (codes "S") (Some (codes "s")) (hop (These (codes "knows" ∷ [])) (Some (codes "e")) (These (codes "person" ∷ [])) (Some (codes "t")))) { filter = (Some (Name (codes "q"))) })) ∷
    [])) ≡ Some (UnknownName (codes "e"))
the_selected_name_before_where = refl

-- S = {person.*}; T = SELECT S FROM S:s;
a_selected_name_of_another_block : refused false [] (stmts (Assign (codes "S") None (Sets (Seeds (AllOf (codes "person") ∷ [])) []) ∷
    Assign (codes "T") None (Selects (selecting (codes "S") (codes "S") (Some (codes "s")) Nowhere)) ∷
    [])) ≡ Some (UnknownName (codes "S"))
a_selected_name_of_another_block = refl

-- S = {person.*}; T = SELECT t FROM S:s -(knows:e)-> person:t WHERE 1;
where_is_a_truth : refused false [] (stmts (Assign (codes "S") None (Sets (Seeds (AllOf (codes "person") ∷ [])) []) ∷
    Assign (codes "T") None (Selects (record (selecting (codes "t") (codes "S") (Some (codes "s")) (hop (These (codes "knows" ∷ [])) (Some (codes "e")) (These (codes "person" ∷ [])) (Some (codes "t")))) { filter = (Some (Number 1)) })) ∷
    [])) ≡ Some (Mismatch)
where_is_a_truth = refl

-- S = {person.*}; T = SELECT t FROM S:s -(knows:e)-> person:t WHERE e == e;
an_edge_alone : refused false [] (stmts (Assign (codes "S") None (Sets (Seeds (AllOf (codes "person") ∷ [])) []) ∷
    Assign (codes "T") None (Selects (record (selecting (codes "t") (codes "S") (Some (codes "s")) (hop (These (codes "knows" ∷ [])) (Some (codes "e")) (These (codes "person" ∷ [])) (Some (codes "t")))) { filter = (Some (Cmp (Name (codes "e")) cmp.Equal (Name (codes "e")))) })) ∷
    [])) ≡ Some (NotAllowedHere)
an_edge_alone = refl

-- S = {person.*}; T = SELECT t FROM S:s -(knows:e)-> person:t WHERE e.w > 1 AND e.type == "knows";
an_edges_attribute : refused false [] (stmts (Assign (codes "S") None (Sets (Seeds (AllOf (codes "person") ∷ [])) []) ∷
    Assign (codes "T") None (Selects (record (selecting (codes "t") (codes "S") (Some (codes "s")) (hop (These (codes "knows" ∷ [])) (Some (codes "e")) (These (codes "person" ∷ [])) (Some (codes "t")))) { filter = (Some (And (Cmp (Post (Name (codes "e")) (parts_of ((Field (codes "w")) ∷ []))) cmp.Greater (Number 1)) (trees_of ((Cmp (Post (Name (codes "e")) (parts_of ((Field (codes "type")) ∷ []))) cmp.Equal (Text (codes "knows"))) ∷ [])))) })) ∷
    [])) ≡ None
an_edges_attribute = refl

-- S = {person.*}; T = SELECT t FROM S:s -(knows:e)-> person:t WHERE e.v > 1;
no_such_attribute_of_an_edge : refused false [] (stmts (Assign (codes "S") None (Sets (Seeds (AllOf (codes "person") ∷ [])) []) ∷
    Assign (codes "T") None (Selects (record (selecting (codes "t") (codes "S") (Some (codes "s")) (hop (These (codes "knows" ∷ [])) (Some (codes "e")) (These (codes "person" ∷ [])) (Some (codes "t")))) { filter = (Some (Cmp (Post (Name (codes "e")) (parts_of ((Field (codes "v")) ∷ []))) cmp.Greater (Number 1))) })) ∷
    [])) ≡ Some (NoAttribute (codes "v"))
no_such_attribute_of_an_edge = refl

-- S = {person.*}; T = SELECT t FROM S:s -(lives)-> :t WHERE t.size > 1;
a_directed_edge_leads_to_its_end : refused false [] (stmts (Assign (codes "S") None (Sets (Seeds (AllOf (codes "person") ∷ [])) []) ∷
    Assign (codes "T") None (Selects (record (selecting (codes "t") (codes "S") (Some (codes "s")) (hop (These (codes "lives" ∷ [])) None Every (Some (codes "t")))) { filter = (Some (Cmp (Post (Name (codes "t")) (parts_of ((Field (codes "size")) ∷ []))) cmp.Greater (Number 1))) })) ∷
    [])) ≡ None
a_directed_edge_leads_to_its_end = refl

-- C = {city.*}; T = SELECT t FROM C:c -(near)-> :t WHERE t.size > 1;
an_undirected_edge_leads_to_both_ends : refused false [] (stmts (Assign (codes "C") None (Sets (Seeds (AllOf (codes "city") ∷ [])) []) ∷
    Assign (codes "T") None (Selects (record (selecting (codes "t") (codes "C") (Some (codes "c")) (hop (These (codes "near" ∷ [])) None Every (Some (codes "t")))) { filter = (Some (Cmp (Post (Name (codes "t")) (parts_of ((Field (codes "size")) ∷ []))) cmp.Greater (Number 1))) })) ∷
    [])) ≡ Some (NoAttribute (codes "size"))
an_undirected_edge_leads_to_both_ends = refl

-- C = {city.*}; T = SELECT t FROM C:c -(near)-> city:t WHERE t.size > 1;
a_target_type_narrows : refused false [] (stmts (Assign (codes "C") None (Sets (Seeds (AllOf (codes "city") ∷ [])) []) ∷
    Assign (codes "T") None (Selects (record (selecting (codes "t") (codes "C") (Some (codes "c")) (hop (These (codes "near" ∷ [])) None (These (codes "city" ∷ [])) (Some (codes "t")))) { filter = (Some (Cmp (Post (Name (codes "t")) (parts_of ((Field (codes "size")) ∷ []))) cmp.Greater (Number 1))) })) ∷
    [])) ≡ None
a_target_type_narrows = refl

-- C = {city.*}; T = SELECT t FROM C:c -(near)-> city|city:t WHERE t.size > 1;
one_target_type_twice : refused false [] (stmts (Assign (codes "C") None (Sets (Seeds (AllOf (codes "city") ∷ [])) []) ∷
    Assign (codes "T") None (Selects (record (selecting (codes "t") (codes "C") (Some (codes "c")) (hop (These (codes "near" ∷ [])) None (These (codes "city" ∷ codes "city" ∷ [])) (Some (codes "t")))) { filter = (Some (Cmp (Post (Name (codes "t")) (parts_of ((Field (codes "size")) ∷ []))) cmp.Greater (Number 1))) })) ∷
    [])) ≡ None
one_target_type_twice = refl

-- SumAccum<INT> @n; S = {person.*}; T = SELECT t FROM S:s -(knows:e)-> person:t ACCUM v.@n += 1;
an_unknown_alias_of_an_accumulator : refused false (Accums (OverElem plain.Sum (OfBase Ints)) ((true, codes "@n", None) ∷ []) ∷ []) (stmts (Assign (codes "S") None (Sets (Seeds (AllOf (codes "person") ∷ [])) []) ∷
    Assign (codes "T") None (Selects (record (selecting (codes "t") (codes "S") (Some (codes "s")) (hop (These (codes "knows" ∷ [])) (Some (codes "e")) (These (codes "person" ∷ [])) (Some (codes "t")))) { accum = (acts ((AtAlias (codes "v") (codes "@n") (Adds (Plain (Number 1)))) ∷ [])) })) ∷
    [])) ≡ Some (UnknownName (codes "v"))
an_unknown_alias_of_an_accumulator = refl

-- SumAccum<INT> @n; INT i; S = {person.*}; T = SELECT t FROM S:s -(knows:e)-> person:t ACCUM i.@n += 1;
a_number_as_an_alias : refused false (Accums (OverElem plain.Sum (OfBase Ints)) ((true, codes "@n", None) ∷ []) ∷ []) (stmts (Local Ints ((codes "i", None) ∷ []) ∷
    Assign (codes "S") None (Sets (Seeds (AllOf (codes "person") ∷ [])) []) ∷
    Assign (codes "T") None (Selects (record (selecting (codes "t") (codes "S") (Some (codes "s")) (hop (These (codes "knows" ∷ [])) (Some (codes "e")) (These (codes "person" ∷ [])) (Some (codes "t")))) { accum = (acts ((AtAlias (codes "i") (codes "@n") (Adds (Plain (Number 1)))) ∷ [])) })) ∷
    [])) ≡ Some (NotAllowedHere)
a_number_as_an_alias = refl

-- SumAccum<INT> @n; S = {person.*}; T = SELECT t FROM S:s -(knows:e)-> person:t ACCUM e.@n += 1;
an_edge_with_an_accumulator : refused false (Accums (OverElem plain.Sum (OfBase Ints)) ((true, codes "@n", None) ∷ []) ∷ []) (stmts (Assign (codes "S") None (Sets (Seeds (AllOf (codes "person") ∷ [])) []) ∷
    Assign (codes "T") None (Selects (record (selecting (codes "t") (codes "S") (Some (codes "s")) (hop (These (codes "knows" ∷ [])) (Some (codes "e")) (These (codes "person" ∷ [])) (Some (codes "t")))) { accum = (acts ((AtAlias (codes "e") (codes "@n") (Adds (Plain (Number 1)))) ∷ [])) })) ∷
    [])) ≡ Some (NotAllowedHere)
an_edge_with_an_accumulator = refl

-- SumAccum<INT> @n, @@s; S = {person.*}; T = SELECT t FROM S:s -(knows:e)-> person:t ACCUM @@s += e.@n;
reading_an_edges_accumulator : refused false (Accums (OverElem plain.Sum (OfBase Ints)) ((true, codes "@n", None) ∷ (false, codes "@@s", None) ∷ []) ∷ []) (stmts (Assign (codes "S") None (Sets (Seeds (AllOf (codes "person") ∷ [])) []) ∷
    Assign (codes "T") None (Selects (record (selecting (codes "t") (codes "S") (Some (codes "s")) (hop (These (codes "knows" ∷ [])) (Some (codes "e")) (These (codes "person" ∷ [])) (Some (codes "t")))) { accum = (acts ((AtGlobal (codes "@@s") (Adds (Plain (Post (Name (codes "e")) (parts_of ((Attached (codes "@n")) ∷ [])))))) ∷ [])) })) ∷
    [])) ≡ Some (NotAllowedHere)
reading_an_edges_accumulator = refl

-- S = {person.*}; T = SELECT t FROM S:s -(knows:e)-> person:t ACCUM t.@n += q;
an_unknown_accumulator : refused false [] (stmts (Assign (codes "S") None (Sets (Seeds (AllOf (codes "person") ∷ [])) []) ∷
    Assign (codes "T") None (Selects (record (selecting (codes "t") (codes "S") (Some (codes "s")) (hop (These (codes "knows" ∷ [])) (Some (codes "e")) (These (codes "person" ∷ [])) (Some (codes "t")))) { accum = (acts ((AtAlias (codes "t") (codes "@n") (Adds (Plain (Name (codes "q"))))) ∷ [])) })) ∷
    [])) ≡ Some (UnknownName (codes "@n"))
an_unknown_accumulator = refl

-- SumAccum<INT> @n; S = {person.*}; T = SELECT t FROM S:s -(knows:e)-> person:t ACCUM t.@n = q;
setting_in_accum : refused false (Accums (OverElem plain.Sum (OfBase Ints)) ((true, codes "@n", None) ∷ []) ∷ []) (stmts (Assign (codes "S") None (Sets (Seeds (AllOf (codes "person") ∷ [])) []) ∷
    Assign (codes "T") None (Selects (record (selecting (codes "t") (codes "S") (Some (codes "s")) (hop (These (codes "knows" ∷ [])) (Some (codes "e")) (These (codes "person" ∷ [])) (Some (codes "t")))) { accum = (acts ((AtAlias (codes "t") (codes "@n") (Puts (Name (codes "q")))) ∷ [])) })) ∷
    [])) ≡ Some (NotAllowedHere)
setting_in_accum = refl

-- S = {person.*}; T = SELECT t FROM S:s -(knows:e)-> person:t ACCUM t.@m = q;
setting_an_unknown_one_in_accum : refused false [] (stmts (Assign (codes "S") None (Sets (Seeds (AllOf (codes "person") ∷ [])) []) ∷
    Assign (codes "T") None (Selects (record (selecting (codes "t") (codes "S") (Some (codes "s")) (hop (These (codes "knows" ∷ [])) (Some (codes "e")) (These (codes "person" ∷ [])) (Some (codes "t")))) { accum = (acts ((AtAlias (codes "t") (codes "@m") (Puts (Name (codes "q")))) ∷ [])) })) ∷
    [])) ≡ Some (UnknownName (codes "@m"))
setting_an_unknown_one_in_accum = refl

-- AvgAccum @n; S = {person.*}; T = SELECT t FROM S:s -(knows:e)-> person:t ACCUM t.@n = q;
setting_an_average_in_accum : refused false (Accums Averaged ((true, codes "@n", None) ∷ []) ∷ []) (stmts (Assign (codes "S") None (Sets (Seeds (AllOf (codes "person") ∷ [])) []) ∷
    Assign (codes "T") None (Selects (record (selecting (codes "t") (codes "S") (Some (codes "s")) (hop (These (codes "knows" ∷ [])) (Some (codes "e")) (These (codes "person" ∷ [])) (Some (codes "t")))) { accum = (acts ((AtAlias (codes "t") (codes "@n") (Puts (Name (codes "q")))) ∷ [])) })) ∷
    [])) ≡ Some (NotAllowedHere)
setting_an_average_in_accum = refl

-- ListAccum<INT> @@l; S = {person.*}; T = SELECT t FROM S:s -(knows:e)-> person:t ACCUM @@l += q;
a_list_in_accum : refused false (Accums (OverElem plain.List (OfBase Ints)) ((false, codes "@@l", None) ∷ []) ∷ []) (stmts (Assign (codes "S") None (Sets (Seeds (AllOf (codes "person") ∷ [])) []) ∷
    Assign (codes "T") None (Selects (record (selecting (codes "t") (codes "S") (Some (codes "s")) (hop (These (codes "knows" ∷ [])) (Some (codes "e")) (These (codes "person" ∷ [])) (Some (codes "t")))) { accum = (acts ((AtGlobal (codes "@@l") (Adds (Plain (Name (codes "q"))))) ∷ [])) })) ∷
    [])) ≡ Some (OrderDependent (codes "@@l"))
a_list_in_accum = refl

-- ListAccum<INT> @@l; SumAccum<INT> @@s; S = {person.*}; T = SELECT t FROM S:s -(knows:e)-> person:t ACCUM @@s += @@l.size();
reading_a_list_in_accum : refused false (Accums (OverElem plain.List (OfBase Ints)) ((false, codes "@@l", None) ∷ []) ∷ Accums (OverElem plain.Sum (OfBase Ints)) ((false, codes "@@s", None) ∷ []) ∷ []) (stmts (Assign (codes "S") None (Sets (Seeds (AllOf (codes "person") ∷ [])) []) ∷
    Assign (codes "T") None (Selects (record (selecting (codes "t") (codes "S") (Some (codes "s")) (hop (These (codes "knows" ∷ [])) (Some (codes "e")) (These (codes "person" ∷ [])) (Some (codes "t")))) { accum = (acts ((AtGlobal (codes "@@s") (Adds (Plain (Post (Global (codes "@@l")) (parts_of ((Method (codes "size") (trees_of [])) ∷ [])))))) ∷ [])) })) ∷
    [])) ≡ None
reading_a_list_in_accum = refl

-- ListAccum<INT> @@l; S = {person.*}; T = SELECT t FROM S:s -(knows:e)-> person:t POST-ACCUM @@l += t.age;
a_list_in_post_accum : refused false (Accums (OverElem plain.List (OfBase Ints)) ((false, codes "@@l", None) ∷ []) ∷ []) (stmts (Assign (codes "S") None (Sets (Seeds (AllOf (codes "person") ∷ [])) []) ∷
    Assign (codes "T") None (Selects (record (selecting (codes "t") (codes "S") (Some (codes "s")) (hop (These (codes "knows" ∷ [])) (Some (codes "e")) (These (codes "person" ∷ [])) (Some (codes "t")))) { post = (acts ((AtGlobal (codes "@@l") (Adds (Plain (Post (Name (codes "t")) (parts_of ((Field (codes "age")) ∷ [])))))) ∷ [])) })) ∷
    [])) ≡ None
a_list_in_post_accum = refl

-- SumAccum<INT> @n, @@s; S = {person.*}; T = SELECT t FROM S:s -(knows:e)-> person:t ACCUM @@s += t.@n';
before_the_block_in_accum : refused false (Accums (OverElem plain.Sum (OfBase Ints)) ((true, codes "@n", None) ∷ (false, codes "@@s", None) ∷ []) ∷ []) (stmts (Assign (codes "S") None (Sets (Seeds (AllOf (codes "person") ∷ [])) []) ∷
    Assign (codes "T") None (Selects (record (selecting (codes "t") (codes "S") (Some (codes "s")) (hop (These (codes "knows" ∷ [])) (Some (codes "e")) (These (codes "person" ∷ [])) (Some (codes "t")))) { accum = (acts ((AtGlobal (codes "@@s") (Adds (Plain (Post (Name (codes "t")) (parts_of ((Before (codes "@n")) ∷ [])))))) ∷ [])) })) ∷
    [])) ≡ Some (NotAllowedHere)
before_the_block_in_accum = refl

-- SumAccum<INT> @n, @@s; S = {person.*}; T = SELECT t FROM S:s -(knows:e)-> person:t POST-ACCUM @@s += t.@n';
before_the_block_in_post_accum : refused false (Accums (OverElem plain.Sum (OfBase Ints)) ((true, codes "@n", None) ∷ (false, codes "@@s", None) ∷ []) ∷ []) (stmts (Assign (codes "S") None (Sets (Seeds (AllOf (codes "person") ∷ [])) []) ∷
    Assign (codes "T") None (Selects (record (selecting (codes "t") (codes "S") (Some (codes "s")) (hop (These (codes "knows" ∷ [])) (Some (codes "e")) (These (codes "person" ∷ [])) (Some (codes "t")))) { post = (acts ((AtGlobal (codes "@@s") (Adds (Plain (Post (Name (codes "t")) (parts_of ((Before (codes "@n")) ∷ [])))))) ∷ [])) })) ∷
    [])) ≡ None
before_the_block_in_post_accum = refl

-- SumAccum<INT> @@s; S = {person.*}; T = SELECT t FROM S:s -(knows:e)-> person:t ACCUM IF t.age THEN @@s += 1 END;
an_if_in_accum : refused false (Accums (OverElem plain.Sum (OfBase Ints)) ((false, codes "@@s", None) ∷ []) ∷ []) (stmts (Assign (codes "S") None (Sets (Seeds (AllOf (codes "person") ∷ [])) []) ∷
    Assign (codes "T") None (Selects (record (selecting (codes "t") (codes "S") (Some (codes "s")) (hop (These (codes "knows" ∷ [])) (Some (codes "e")) (These (codes "person" ∷ [])) (Some (codes "t")))) { accum = (acts ((Choose (when (Post (Name (codes "t")) (parts_of ((Field (codes "age")) ∷ []))) (acts ((AtGlobal (codes "@@s") (Adds (Plain (Number 1)))) ∷ [])) (otherwise no_act))) ∷ [])) })) ∷
    [])) ≡ Some (Mismatch)
an_if_in_accum = refl

-- SumAccum<INT> @n; S = {person.*}; T = SELECT t FROM S:s -(knows:e)-> person:t POST-ACCUM s.@n += t.age;
two_aliases_in_post_accum : refused false (Accums (OverElem plain.Sum (OfBase Ints)) ((true, codes "@n", None) ∷ []) ∷ []) (stmts (Assign (codes "S") None (Sets (Seeds (AllOf (codes "person") ∷ [])) []) ∷
    Assign (codes "T") None (Selects (record (selecting (codes "t") (codes "S") (Some (codes "s")) (hop (These (codes "knows" ∷ [])) (Some (codes "e")) (These (codes "person" ∷ [])) (Some (codes "t")))) { post = (acts ((AtAlias (codes "s") (codes "@n") (Adds (Plain (Post (Name (codes "t")) (parts_of ((Field (codes "age")) ∷ [])))))) ∷ [])) })) ∷
    [])) ≡ Some (TwoAliases)
two_aliases_in_post_accum = refl

-- SumAccum<INT> @@n; S = {person.*}; T = SELECT t FROM S:s -(knows:e)-> person:t POST-ACCUM IF s.age > 1 THEN @@n += t.age END;
two_aliases_in_one_if : refused false (Accums (OverElem plain.Sum (OfBase Ints)) ((false, codes "@@n", None) ∷ []) ∷ []) (stmts (Assign (codes "S") None (Sets (Seeds (AllOf (codes "person") ∷ [])) []) ∷
    Assign (codes "T") None (Selects (record (selecting (codes "t") (codes "S") (Some (codes "s")) (hop (These (codes "knows" ∷ [])) (Some (codes "e")) (These (codes "person" ∷ [])) (Some (codes "t")))) { post = (acts ((Choose (when (Cmp (Post (Name (codes "s")) (parts_of ((Field (codes "age")) ∷ []))) cmp.Greater (Number 1)) (acts ((AtGlobal (codes "@@n") (Adds (Plain (Post (Name (codes "t")) (parts_of ((Field (codes "age")) ∷ [])))))) ∷ [])) (otherwise no_act))) ∷ [])) })) ∷
    [])) ≡ Some (TwoAliases)
two_aliases_in_one_if = refl

-- SumAccum<INT> @@n; S = {person.*}; T = SELECT t FROM S:s -(knows:e)-> person:t POST-ACCUM @@n += s.age, @@n += t.age;
two_aliases_behind_each_other : refused false (Accums (OverElem plain.Sum (OfBase Ints)) ((false, codes "@@n", None) ∷ []) ∷ []) (stmts (Assign (codes "S") None (Sets (Seeds (AllOf (codes "person") ∷ [])) []) ∷
    Assign (codes "T") None (Selects (record (selecting (codes "t") (codes "S") (Some (codes "s")) (hop (These (codes "knows" ∷ [])) (Some (codes "e")) (These (codes "person" ∷ [])) (Some (codes "t")))) { post = (acts ((AtGlobal (codes "@@n") (Adds (Plain (Post (Name (codes "s")) (parts_of ((Field (codes "age")) ∷ [])))))) ∷ (AtGlobal (codes "@@n") (Adds (Plain (Post (Name (codes "t")) (parts_of ((Field (codes "age")) ∷ [])))))) ∷ [])) })) ∷
    [])) ≡ None
two_aliases_behind_each_other = refl

-- SumAccum<INT> @n; S = {person.*}; T = SELECT t FROM S:s -(knows:e)-> person:t POST-ACCUM s.@n += t.agee;
a_fault_before_two_aliases : refused false (Accums (OverElem plain.Sum (OfBase Ints)) ((true, codes "@n", None) ∷ []) ∷ []) (stmts (Assign (codes "S") None (Sets (Seeds (AllOf (codes "person") ∷ [])) []) ∷
    Assign (codes "T") None (Selects (record (selecting (codes "t") (codes "S") (Some (codes "s")) (hop (These (codes "knows" ∷ [])) (Some (codes "e")) (These (codes "person" ∷ [])) (Some (codes "t")))) { post = (acts ((AtAlias (codes "s") (codes "@n") (Adds (Plain (Post (Name (codes "t")) (parts_of ((Field (codes "agee")) ∷ [])))))) ∷ [])) })) ∷
    [])) ≡ Some (NoAttribute (codes "agee"))
a_fault_before_two_aliases = refl

-- SumAccum<INT> @@n; S = {person.*}; T = SELECT t FROM S:s -(knows:e)-> person:t POST-ACCUM @@n += e.w;
an_edge_in_post_accum : refused false (Accums (OverElem plain.Sum (OfBase Ints)) ((false, codes "@@n", None) ∷ []) ∷ []) (stmts (Assign (codes "S") None (Sets (Seeds (AllOf (codes "person") ∷ [])) []) ∷
    Assign (codes "T") None (Selects (record (selecting (codes "t") (codes "S") (Some (codes "s")) (hop (These (codes "knows" ∷ [])) (Some (codes "e")) (These (codes "person" ∷ [])) (Some (codes "t")))) { post = (acts ((AtGlobal (codes "@@n") (Adds (Plain (Post (Name (codes "e")) (parts_of ((Field (codes "w")) ∷ [])))))) ∷ [])) })) ∷
    [])) ≡ Some (NotAllowedHere)
an_edge_in_post_accum = refl

-- SumAccum<INT> @@n; S = {person.*}; T = SELECT t FROM S:s -(knows:e)-> person:t POST-ACCUM @@n = q;
setting_a_global_in_post_accum : refused false (Accums (OverElem plain.Sum (OfBase Ints)) ((false, codes "@@n", None) ∷ []) ∷ []) (stmts (Assign (codes "S") None (Sets (Seeds (AllOf (codes "person") ∷ [])) []) ∷
    Assign (codes "T") None (Selects (record (selecting (codes "t") (codes "S") (Some (codes "s")) (hop (These (codes "knows" ∷ [])) (Some (codes "e")) (These (codes "person" ∷ [])) (Some (codes "t")))) { post = (acts ((AtGlobal (codes "@@n") (Puts (Name (codes "q")))) ∷ [])) })) ∷
    [])) ≡ Some (NotAllowedHere)
setting_a_global_in_post_accum = refl

-- AvgAccum @n; S = {person.*}; T = SELECT t FROM S:s -(knows:e)-> person:t POST-ACCUM t.@n = q;
setting_an_average_in_post_accum : refused false (Accums Averaged ((true, codes "@n", None) ∷ []) ∷ []) (stmts (Assign (codes "S") None (Sets (Seeds (AllOf (codes "person") ∷ [])) []) ∷
    Assign (codes "T") None (Selects (record (selecting (codes "t") (codes "S") (Some (codes "s")) (hop (These (codes "knows" ∷ [])) (Some (codes "e")) (These (codes "person" ∷ [])) (Some (codes "t")))) { post = (acts ((AtAlias (codes "t") (codes "@n") (Puts (Name (codes "q")))) ∷ [])) })) ∷
    [])) ≡ Some (Mismatch)
setting_an_average_in_post_accum = refl

-- SumAccum<INT> @n; S = {person.*}; T = SELECT t FROM S:s -(knows:e)-> person:t POST-ACCUM t.@n = t.age;
setting_in_post_accum : refused false (Accums (OverElem plain.Sum (OfBase Ints)) ((true, codes "@n", None) ∷ []) ∷ []) (stmts (Assign (codes "S") None (Sets (Seeds (AllOf (codes "person") ∷ [])) []) ∷
    Assign (codes "T") None (Selects (record (selecting (codes "t") (codes "S") (Some (codes "s")) (hop (These (codes "knows" ∷ [])) (Some (codes "e")) (These (codes "person" ∷ [])) (Some (codes "t")))) { post = (acts ((AtAlias (codes "t") (codes "@n") (Puts (Post (Name (codes "t")) (parts_of ((Field (codes "age")) ∷ []))))) ∷ [])) })) ∷
    [])) ≡ None
setting_in_post_accum = refl

-- S = {person.*}; T = SELECT t FROM S:s -(knows:e)-> person:t HAVING s.age > 1;
having_by_another_alias : refused false [] (stmts (Assign (codes "S") None (Sets (Seeds (AllOf (codes "person") ∷ [])) []) ∷
    Assign (codes "T") None (Selects (record (selecting (codes "t") (codes "S") (Some (codes "s")) (hop (These (codes "knows" ∷ [])) (Some (codes "e")) (These (codes "person" ∷ [])) (Some (codes "t")))) { having = (Some (Cmp (Post (Name (codes "s")) (parts_of ((Field (codes "age")) ∷ []))) cmp.Greater (Number 1))) })) ∷
    [])) ≡ Some (NotAllowedHere)
having_by_another_alias = refl

-- S = {person.*}; T = SELECT t FROM S:s -(knows:e)-> person:t HAVING t.age > 1 ORDER BY t.age DESC LIMIT 2;
having_by_the_selected_alias : refused false [] (stmts (Assign (codes "S") None (Sets (Seeds (AllOf (codes "person") ∷ [])) []) ∷
    Assign (codes "T") None (Selects (record (selecting (codes "t") (codes "S") (Some (codes "s")) (hop (These (codes "knows" ∷ [])) (Some (codes "e")) (These (codes "person" ∷ [])) (Some (codes "t")))) { having = (Some (Cmp (Post (Name (codes "t")) (parts_of ((Field (codes "age")) ∷ []))) cmp.Greater (Number 1))); order = (((Post (Name (codes "t")) (parts_of ((Field (codes "age")) ∷ []))), true) ∷ []); limit = (Some (Number 2)) })) ∷
    [])) ≡ None
having_by_the_selected_alias = refl

-- S = {person.*}; T = SELECT t FROM S:s -(knows:e)-> person:t ORDER BY s.age;
order_by_another_alias : refused false [] (stmts (Assign (codes "S") None (Sets (Seeds (AllOf (codes "person") ∷ [])) []) ∷
    Assign (codes "T") None (Selects (record (selecting (codes "t") (codes "S") (Some (codes "s")) (hop (These (codes "knows" ∷ [])) (Some (codes "e")) (These (codes "person" ∷ [])) (Some (codes "t")))) { order = (((Post (Name (codes "s")) (parts_of ((Field (codes "age")) ∷ []))), false) ∷ []) })) ∷
    [])) ≡ Some (NotAllowedHere)
order_by_another_alias = refl

-- S = {person.*}; T = SELECT t FROM S:s -(knows:e)-> person:t ORDER BY t.age > 1;
order_by_a_truth : refused false [] (stmts (Assign (codes "S") None (Sets (Seeds (AllOf (codes "person") ∷ [])) []) ∷
    Assign (codes "T") None (Selects (record (selecting (codes "t") (codes "S") (Some (codes "s")) (hop (These (codes "knows" ∷ [])) (Some (codes "e")) (These (codes "person" ∷ [])) (Some (codes "t")))) { order = (((Cmp (Post (Name (codes "t")) (parts_of ((Field (codes "age")) ∷ []))) cmp.Greater (Number 1)), false) ∷ []) })) ∷
    [])) ≡ Some (Mismatch)
order_by_a_truth = refl

-- S = {person.*}; T = SELECT t FROM S:s -(knows:e)-> person:t ORDER BY t;
order_by_a_vertex : refused false [] (stmts (Assign (codes "S") None (Sets (Seeds (AllOf (codes "person") ∷ [])) []) ∷
    Assign (codes "T") None (Selects (record (selecting (codes "t") (codes "S") (Some (codes "s")) (hop (These (codes "knows" ∷ [])) (Some (codes "e")) (These (codes "person" ∷ [])) (Some (codes "t")))) { order = (((Name (codes "t")), false) ∷ []) })) ∷
    [])) ≡ Some (Mismatch)
order_by_a_vertex = refl

-- AvgAccum @a; S = {person.*}; T = SELECT t FROM S:s -(knows:e)-> person:t ORDER BY t.@a, t.type;
order_by_an_average : refused false (Accums Averaged ((true, codes "@a", None) ∷ []) ∷ []) (stmts (Assign (codes "S") None (Sets (Seeds (AllOf (codes "person") ∷ [])) []) ∷
    Assign (codes "T") None (Selects (record (selecting (codes "t") (codes "S") (Some (codes "s")) (hop (These (codes "knows" ∷ [])) (Some (codes "e")) (These (codes "person" ∷ [])) (Some (codes "t")))) { order = (((Post (Name (codes "t")) (parts_of ((Attached (codes "@a")) ∷ []))), false) ∷ ((Post (Name (codes "t")) (parts_of ((Field (codes "type")) ∷ []))), false) ∷ []) })) ∷
    [])) ≡ None
order_by_an_average = refl

-- T = SELECT v FROM event:v ORDER BY v.at;
order_by_a_time : refused false [] (stmts (Assign (codes "T") None (Selects (record (selecting (codes "v") (codes "event") (Some (codes "v")) Nowhere) { order = (((Post (Name (codes "v")) (parts_of ((Field (codes "at")) ∷ []))), false) ∷ []) })) ∷
    [])) ≡ Some (Mismatch)
order_by_a_time = refl

-- S = {person.*}; T = SELECT t FROM S:s -(knows:e)-> person:t LIMIT t.age;
a_limit_by_an_alias : refused false [] (stmts (Assign (codes "S") None (Sets (Seeds (AllOf (codes "person") ∷ [])) []) ∷
    Assign (codes "T") None (Selects (record (selecting (codes "t") (codes "S") (Some (codes "s")) (hop (These (codes "knows" ∷ [])) (Some (codes "e")) (These (codes "person" ∷ [])) (Some (codes "t")))) { limit = (Some (Post (Name (codes "t")) (parts_of ((Field (codes "age")) ∷ [])))) })) ∷
    [])) ≡ Some (NotAllowedHere)
a_limit_by_an_alias = refl

-- S = {person.*}; T = SELECT t FROM S:s -(knows:e)-> person:t LIMIT "x";
a_limit_by_a_text : refused false [] (stmts (Assign (codes "S") None (Sets (Seeds (AllOf (codes "person") ∷ [])) []) ∷
    Assign (codes "T") None (Selects (record (selecting (codes "t") (codes "S") (Some (codes "s")) (hop (These (codes "knows" ∷ [])) (Some (codes "e")) (These (codes "person" ∷ [])) (Some (codes "t")))) { limit = (Some (Text (codes "x"))) })) ∷
    [])) ≡ Some (Mismatch)
a_limit_by_a_text = refl

-- S = {person.*}; T = SELECT t FROM S:s -(knows:e)-> person:t ; PRINT t;
an_alias_ends_with_its_block : refused false [] (stmts (Assign (codes "S") None (Sets (Seeds (AllOf (codes "person") ∷ [])) []) ∷
    Assign (codes "T") None (Selects (selecting (codes "t") (codes "S") (Some (codes "s")) (hop (These (codes "knows" ∷ [])) (Some (codes "e")) (These (codes "person" ∷ [])) (Some (codes "t"))))) ∷
    Print (Whole (item (Name (codes "t")) (codes "t")) ∷ []) ∷
    [])) ≡ Some (UnknownName (codes "t"))
an_alias_ends_with_its_block = refl

-- S = {person.*}; S = SELECT t FROM S:s -(lives)-> :t;
a_wider_select : refused false [] (stmts (Assign (codes "S") None (Sets (Seeds (AllOf (codes "person") ∷ [])) []) ∷
    Assign (codes "S") None (Selects (selecting (codes "t") (codes "S") (Some (codes "s")) (hop (These (codes "lives" ∷ [])) None Every (Some (codes "t"))))) ∷
    [])) ≡ Some (WiderSet (codes "S"))
a_wider_select = refl

-- S = {person.*}; T = SELECT s FROM S:s WHERE s.outdegree("ghost") > 1;
outdegree_by_an_unknown_type : refused false [] (stmts (Assign (codes "S") None (Sets (Seeds (AllOf (codes "person") ∷ [])) []) ∷
    Assign (codes "T") None (Selects (record (selecting (codes "s") (codes "S") (Some (codes "s")) Nowhere) { filter = (Some (Cmp (Post (Name (codes "s")) (parts_of ((Method (codes "outdegree") (trees_of ((Text (codes "ghost")) ∷ []))) ∷ []))) cmp.Greater (Number 1))) })) ∷
    [])) ≡ Some (UnknownName (codes "ghost"))
outdegree_by_an_unknown_type = refl

-- S = {person.*}; T = SELECT s FROM S:s WHERE s.outdegree(knows) > 1;
outdegree_by_a_name : refused false [] (stmts (Assign (codes "S") None (Sets (Seeds (AllOf (codes "person") ∷ [])) []) ∷
    Assign (codes "T") None (Selects (record (selecting (codes "s") (codes "S") (Some (codes "s")) Nowhere) { filter = (Some (Cmp (Post (Name (codes "s")) (parts_of ((Method (codes "outdegree") (trees_of ((Name (codes "knows")) ∷ []))) ∷ []))) cmp.Greater (Number 1))) })) ∷
    [])) ≡ Some (UnknownName (codes "knows"))
outdegree_by_a_name = refl

-- STRING k; S = {person.*}; T = SELECT s FROM S:s WHERE s.outdegree(k) > 1;
outdegree_by_a_variable : refused false [] (stmts (Local Strings ((codes "k", None) ∷ []) ∷
    Assign (codes "S") None (Sets (Seeds (AllOf (codes "person") ∷ [])) []) ∷
    Assign (codes "T") None (Selects (record (selecting (codes "s") (codes "S") (Some (codes "s")) Nowhere) { filter = (Some (Cmp (Post (Name (codes "s")) (parts_of ((Method (codes "outdegree") (trees_of ((Name (codes "k")) ∷ []))) ∷ []))) cmp.Greater (Number 1))) })) ∷
    [])) ≡ Some (Mismatch)
outdegree_by_a_variable = refl

-- PRINT 1.outdegree() AS x;
outdegree_of_a_number : refused false [] (stmts (Print (Whole (item (Post (Number 1) (parts_of ((Method (codes "outdegree") (trees_of [])) ∷ []))) (codes "x")) ∷ []) ∷
    [])) ≡ Some (Mismatch)
outdegree_of_a_number = refl

-- SumAccum<INT> @@s; S = {person.*}; T = SELECT t FROM S:s -(knows:e)-> person:t ACCUM @@s += 1, @@s += 1, @@s + ..
the_thousandth_statement : refused false (Accums (OverElem plain.Sum (OfBase Ints)) ((false, codes "@@s", None) ∷ []) ∷ []) (stmts (Assign (codes "S") None (Sets (Seeds (AllOf (codes "person") ∷ [])) []) ∷
    Assign (codes "T") None (Selects (record (selecting (codes "t") (codes "S") (Some (codes "s")) (hop (These (codes "knows" ∷ [])) (Some (codes "e")) (These (codes "person" ∷ [])) (Some (codes "t")))) { accum = (acts (repeated 999 (AtGlobal (codes "@@s") (Adds (Plain (Number 1)))) ((AtGlobal (codes "@@q") (Adds (Plain (Number 1)))) ∷ []))) })) ∷
    [])) ≡ Some (UnknownName (codes "@@q"))
the_thousandth_statement = refl

-- SumAccum<INT> @@s; S = {person.*}; T = SELECT t FROM S:s -(knows:e)-> person:t ACCUM @@s += 1, @@s += 1, @@s + ..
the_statement_too_many : refused false (Accums (OverElem plain.Sum (OfBase Ints)) ((false, codes "@@s", None) ∷ []) ∷ []) (stmts (Assign (codes "S") None (Sets (Seeds (AllOf (codes "person") ∷ [])) []) ∷
    Assign (codes "T") None (Selects (record (selecting (codes "t") (codes "S") (Some (codes "s")) (hop (These (codes "knows" ∷ [])) (Some (codes "e")) (These (codes "person" ∷ [])) (Some (codes "t")))) { accum = (acts (repeated 1000 (AtGlobal (codes "@@s") (Adds (Plain (Number 1)))) ((AtGlobal (codes "@@q") (Adds (Plain (Number 1)))) ∷ []))) })) ∷
    [])) ≡ Some (TooMany)
the_statement_too_many = refl

-- S = {person.*}; T = SELECT t FROM S:s -(knows>)- person:t;
a_path_in_v1 : refused false [] (stmts (Assign (codes "S") None (Sets (Seeds (AllOf (codes "person") ∷ [])) []) ∷
    Assign (codes "T") None (Selects (selecting (codes "t") (codes "S") (Some (codes "s")) (Path (record { ways = ((way.Forward, codes "knows") ∷ []); edge_alias = None; targets = (These (codes "person" ∷ [])); target_alias = (Some (codes "t")) } ∷ [])))) ∷
    [])) ≡ Some (NotAllowedHere)
a_path_in_v1 = refl

-- SYNTAX v2: S = {person.*}; T = SELECT t FROM S:s -(knows>)- person -(<knows:f)- person:t WHERE f.w > 1;
a_path : refused true [] (stmts (Assign (codes "S") None (Sets (Seeds (AllOf (codes "person") ∷ [])) []) ∷
    Assign (codes "T") None (Selects (record (selecting (codes "t") (codes "S") (Some (codes "s")) (Path (record { ways = ((way.Forward, codes "knows") ∷ []); edge_alias = None; targets = (These (codes "person" ∷ [])); target_alias = None } ∷ record { ways = ((way.Backward, codes "knows") ∷ []); edge_alias = (Some (codes "f")); targets = (These (codes "person" ∷ [])); target_alias = (Some (codes "t")) } ∷ []))) { filter = (Some (Cmp (Post (Name (codes "f")) (parts_of ((Field (codes "w")) ∷ []))) cmp.Greater (Number 1))) })) ∷
    [])) ≡ None
a_path = refl

-- SYNTAX v2: S = {person.*}; T = SELECT t FROM S:s -(knows:e)-> person:t ;
a_hop_in_v2 : refused true [] (stmts (Assign (codes "S") None (Sets (Seeds (AllOf (codes "person") ∷ [])) []) ∷
    Assign (codes "T") None (Selects (selecting (codes "t") (codes "S") (Some (codes "s")) (hop (These (codes "knows" ∷ [])) (Some (codes "e")) (These (codes "person" ∷ [])) (Some (codes "t"))))) ∷
    [])) ≡ Some (NotAllowedHere)
a_hop_in_v2 = refl

-- SYNTAX v2: S = {person.*}; T = SELECT t FROM S:s -(knows)- person:t;
a_directed_type_without_a_sign : refused true [] (stmts (Assign (codes "S") None (Sets (Seeds (AllOf (codes "person") ∷ [])) []) ∷
    Assign (codes "T") None (Selects (selecting (codes "t") (codes "S") (Some (codes "s")) (Path (record { ways = ((way.Both, codes "knows") ∷ []); edge_alias = None; targets = (These (codes "person" ∷ [])); target_alias = (Some (codes "t")) } ∷ [])))) ∷
    [])) ≡ Some (Mismatch)
a_directed_type_without_a_sign = refl

-- SYNTAX v2: S = {person.*}; T = SELECT t FROM S:s -(near>)- person:t;
an_undirected_type_with_a_sign : refused true [] (stmts (Assign (codes "S") None (Sets (Seeds (AllOf (codes "person") ∷ [])) []) ∷
    Assign (codes "T") None (Selects (selecting (codes "t") (codes "S") (Some (codes "s")) (Path (record { ways = ((way.Forward, codes "near") ∷ []); edge_alias = None; targets = (These (codes "person" ∷ [])); target_alias = (Some (codes "t")) } ∷ [])))) ∷
    [])) ≡ Some (Mismatch)
an_undirected_type_with_a_sign = refl

-- SYNTAX v2: S = {person.*}; T = SELECT t FROM S:s -(ghost)- person:t;
an_unknown_type_before_its_sign : refused true [] (stmts (Assign (codes "S") None (Sets (Seeds (AllOf (codes "person") ∷ [])) []) ∷
    Assign (codes "T") None (Selects (selecting (codes "t") (codes "S") (Some (codes "s")) (Path (record { ways = ((way.Both, codes "ghost") ∷ []); edge_alias = None; targets = (These (codes "person" ∷ [])); target_alias = (Some (codes "t")) } ∷ [])))) ∷
    [])) ≡ Some (UnknownName (codes "ghost"))
an_unknown_type_before_its_sign = refl

-- SYNTAX v2: S = {person.*}; T = SELECT t FROM S:s -(knows>:s)- person -(knows>)- person:t;
a_name_within_a_path : refused true [] (stmts (Assign (codes "S") None (Sets (Seeds (AllOf (codes "person") ∷ [])) []) ∷
    Assign (codes "T") None (Selects (selecting (codes "t") (codes "S") (Some (codes "s")) (Path (record { ways = ((way.Forward, codes "knows") ∷ []); edge_alias = (Some (codes "s")); targets = (These (codes "person" ∷ [])); target_alias = None } ∷ record { ways = ((way.Forward, codes "knows") ∷ []); edge_alias = None; targets = (These (codes "person" ∷ [])); target_alias = (Some (codes "t")) } ∷ [])))) ∷
    [])) ≡ Some (NotAllowedHere)
a_name_within_a_path = refl

-- SYNTAX v2: S = {person.*}; T = SELECT t FROM S:s -(knows>)- person:u -(knows>)- person:t;
a_vertex_name_within_a_path : refused true [] (stmts (Assign (codes "S") None (Sets (Seeds (AllOf (codes "person") ∷ [])) []) ∷
    Assign (codes "T") None (Selects (selecting (codes "t") (codes "S") (Some (codes "s")) (Path (record { ways = ((way.Forward, codes "knows") ∷ []); edge_alias = None; targets = (These (codes "person" ∷ [])); target_alias = (Some (codes "u")) } ∷ record { ways = ((way.Forward, codes "knows") ∷ []); edge_alias = None; targets = (These (codes "person" ∷ [])); target_alias = (Some (codes "t")) } ∷ [])))) ∷
    [])) ≡ Some (NotAllowedHere)
a_vertex_name_within_a_path = refl

-- SYNTAX v2: C = {city.*}; T = SELECT t FROM C:c -(<lives)- _:t WHERE t.age > 1;
a_way_leads_to_its_end : refused true [] (stmts (Assign (codes "C") None (Sets (Seeds (AllOf (codes "city") ∷ [])) []) ∷
    Assign (codes "T") None (Selects (record (selecting (codes "t") (codes "C") (Some (codes "c")) (Path (record { ways = ((way.Backward, codes "lives") ∷ []); edge_alias = None; targets = Every; target_alias = (Some (codes "t")) } ∷ []))) { filter = (Some (Cmp (Post (Name (codes "t")) (parts_of ((Field (codes "age")) ∷ []))) cmp.Greater (Number 1))) })) ∷
    [])) ≡ None
a_way_leads_to_its_end = refl

-- TYPEDEF TUPLE<INT a> P; SumAccum<INT> @n; S = {person.*}; T = SELECT s FROM S:s ACCUM P.@n += 1;
a_tuple_type_as_an_alias : refused false (TupleType ((Ints, codes "a") ∷ []) (codes "P") ∷ Accums (OverElem plain.Sum (OfBase Ints)) ((true, codes "@n", None) ∷ []) ∷ []) (stmts (Assign (codes "S") None (Sets (Seeds (AllOf (codes "person") ∷ [])) []) ∷
    Assign (codes "T") None (Selects (record (selecting (codes "s") (codes "S") (Some (codes "s")) Nowhere) { accum = (acts ((AtAlias (codes "P") (codes "@n") (Adds (Plain (Number 1)))) ∷ [])) })) ∷
    [])) ≡ Some (UnknownName (codes "P"))
a_tuple_type_as_an_alias = refl

-- SumAccum<INT> @n; S = {person.*}; T = SELECT t FROM S:s -(knows:e)-> person:t POST-ACCUM s.@n += t.type;
a_mismatch_before_two_aliases : refused false (Accums (OverElem plain.Sum (OfBase Ints)) ((true, codes "@n", None) ∷ []) ∷ []) (stmts (Assign (codes "S") None (Sets (Seeds (AllOf (codes "person") ∷ [])) []) ∷
    Assign (codes "T") None (Selects (record (selecting (codes "t") (codes "S") (Some (codes "s")) (hop (These (codes "knows" ∷ [])) (Some (codes "e")) (These (codes "person" ∷ [])) (Some (codes "t")))) { post = (acts ((AtAlias (codes "s") (codes "@n") (Adds (Plain (Post (Name (codes "t")) (parts_of ((Field (codes "type")) ∷ [])))))) ∷ [])) })) ∷
    [])) ≡ Some (Mismatch)
a_mismatch_before_two_aliases = refl

-- SumAccum<INT> @@s; S = {person.*}; T = SELECT t FROM S:s -(knows:e)-> person:t ACCUM @@s += t.@q';
before_the_block_of_an_unknown_one : refused false (Accums (OverElem plain.Sum (OfBase Ints)) ((false, codes "@@s", None) ∷ []) ∷ []) (stmts (Assign (codes "S") None (Sets (Seeds (AllOf (codes "person") ∷ [])) []) ∷
    Assign (codes "T") None (Selects (record (selecting (codes "t") (codes "S") (Some (codes "s")) (hop (These (codes "knows" ∷ [])) (Some (codes "e")) (These (codes "person" ∷ [])) (Some (codes "t")))) { accum = (acts ((AtGlobal (codes "@@s") (Adds (Plain (Post (Name (codes "t")) (parts_of ((Before (codes "@q")) ∷ [])))))) ∷ [])) })) ∷
    [])) ≡ Some (UnknownName (codes "@q"))
before_the_block_of_an_unknown_one = refl

-- S = {person.*}; T = SELECT t FROM S:s -(knows:e)-> person:t HAVING e.w > 1;
having_by_the_edge : refused false [] (stmts (Assign (codes "S") None (Sets (Seeds (AllOf (codes "person") ∷ [])) []) ∷
    Assign (codes "T") None (Selects (record (selecting (codes "t") (codes "S") (Some (codes "s")) (hop (These (codes "knows" ∷ [])) (Some (codes "e")) (These (codes "person" ∷ [])) (Some (codes "t")))) { having = (Some (Cmp (Post (Name (codes "e")) (parts_of ((Field (codes "w")) ∷ []))) cmp.Greater (Number 1))) })) ∷
    [])) ≡ Some (NotAllowedHere)
having_by_the_edge = refl

-- S = {person.*}; T = SELECT t FROM S:s -(knows:e)-> person:t LIMIT e.w;
a_limit_by_the_edge : refused false [] (stmts (Assign (codes "S") None (Sets (Seeds (AllOf (codes "person") ∷ [])) []) ∷
    Assign (codes "T") None (Selects (record (selecting (codes "t") (codes "S") (Some (codes "s")) (hop (These (codes "knows" ∷ [])) (Some (codes "e")) (These (codes "person" ∷ [])) (Some (codes "t")))) { limit = (Some (Post (Name (codes "e")) (parts_of ((Field (codes "w")) ∷ [])))) })) ∷
    [])) ≡ Some (NotAllowedHere)
a_limit_by_the_edge = refl

-- C = {person.*}; T = SELECT t FROM C:c -(known_by)-> :t WHERE t.age > 1;
a_reverse_type_leads_back : refused false [] (stmts (Assign (codes "C") None (Sets (Seeds (AllOf (codes "person") ∷ [])) []) ∷
    Assign (codes "T") None (Selects (record (selecting (codes "t") (codes "C") (Some (codes "c")) (hop (These (codes "known_by" ∷ [])) None Every (Some (codes "t")))) { filter = (Some (Cmp (Post (Name (codes "t")) (parts_of ((Field (codes "age")) ∷ []))) cmp.Greater (Number 1))) })) ∷
    [])) ≡ None
a_reverse_type_leads_back = refl

-- SYNTAX v2: S = {person.*}; T = SELECT t FROM S:s -(knows>|<knows)- person:t;
both_ways_of_one_type : refused true [] (stmts (Assign (codes "S") None (Sets (Seeds (AllOf (codes "person") ∷ [])) []) ∷
    Assign (codes "T") None (Selects (selecting (codes "t") (codes "S") (Some (codes "s")) (Path (record { ways = ((way.Forward, codes "knows") ∷ (way.Backward, codes "knows") ∷ []); edge_alias = None; targets = (These (codes "person" ∷ [])); target_alias = (Some (codes "t")) } ∷ [])))) ∷
    [])) ≡ None
both_ways_of_one_type = refl

-- S = {person.*, city.*}; PRINT S[S.name];
an_attribute_of_two_types : refused false [] (stmts (Assign (codes "S") None (Sets (Seeds (AllOf (codes "person") ∷ AllOf (codes "city") ∷ [])) []) ∷
    Print (Selection (codes "S") ((item (Post (Name (codes "S")) (parts_of ((Field (codes "name")) ∷ []))) (codes "S.name")) ∷ []) (codes "S") ∷ []) ∷
    [])) ≡ Some (NoAttribute (codes "name"))
an_attribute_of_two_types = refl

-- S = {city.*}; PRINT S[S.name + 1 AS n];
an_attribute_of_one_type : refused false [] (stmts (Assign (codes "S") None (Sets (Seeds (AllOf (codes "city") ∷ [])) []) ∷
    Print (Selection (codes "S") ((item (Sum (Post (Name (codes "S")) (parts_of ((Field (codes "name")) ∷ []))) (terms_of ((add.Plus, (Number 1)) ∷ []))) (codes "n")) ∷ []) (codes "S") ∷ []) ∷
    [])) ≡ None
an_attribute_of_one_type = refl
