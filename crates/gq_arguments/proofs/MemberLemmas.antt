-- Members of the file, by name, and their kinds.
use Rattle.std.proofs.Common.{◌≡◌, Bool, true, false, Option, Some, None, codes, bytes_eq, cond, Bor, Ordering, Less, Equal, Greater, refl, ap, sym, ◌∙◌}
use Rattle.std.specs.Prelude.{option_map, option_and_then}
use Rattle.std.specs.Bool.{one_answer, Decides}
use Rattle.std.specs.Ordering.{nat_cmp, match_ordering, is_eq}
use Rattle.std.specs.Cmp.Lexicographic.{slice_cmp}
use Rattle.std.proofs.lemmas.Map.Text.{is_eq-slice_cmp}
use Rattle.std.proofs.lemmas.Slice.Eq.{bytes_eq-Decides}
use Rattle.serde_json.specs.declared.value.Value.{Value}
use Rattle.serde_json.specs.View.{view}
use Rattle.serde_json.specs.Data.{Data, null, boolean, number, string, array, object, Members, no_members, member}
use Rattle.serde_json.specs.Find.{get, get_member, as_str, as_bool, as_number, as_integer}
use Rattle.gq_rules_typing.specs.Statements.{Bytes}
use Rattle.gq_rules_typing.specs.Words.{under}
use Rattle.gq_rules_meaning.specs.Arguments.{Member}
use Rattle.gq_arguments.specs.Members.{member_of, members_of, members_in, number_member, vertex_member, text_under}

-- a member that isn't a text, a truth value or a whole number is a vertex or nothing
pub vertex_is : (d : Data) → as_str d ≡ None → as_bool d ≡ None → option_and_then as_integer (as_number d) ≡ None
    → vertex_member (text_under (codes "id") d) (text_under (codes "type") d) ≡ member_of d
vertex_is null a b c = refl
vertex_is (boolean t) a b c = absurd (cc)
vertex_is (number n) a b c = sym (ap number_member c)
vertex_is (string s) a b c = absurd (cc)
vertex_is (array ds) a b c = refl
vertex_is (object ms) a b c = refl

by_order : {A : Type 0} (o : Ordering) (a b : A) → match_ordering o a b a ≡ cond (is_eq o) b a
by_order Less a b = refl
by_order Equal a b = refl
by_order Greater a b = refl

turned : (xs ys : Bytes) → bytes_eq xs ys ≡ bytes_eq ys xs
turned xs ys =
    let other : Decides (bytes_eq ys xs) (xs ≡ ys) = ((λ yes. sym ((bytes_eq-Decides ys xs).0 yes)), (λ same. (bytes_eq-Decides ys xs).1 (sym same))) in
    one_answer (bytes_eq xs ys) (bytes_eq ys xs) (bytes_eq-Decides xs ys) other

mapped : (b : Bool) (x y : Option Data) (u v : Option Member) → option_map member_of x ≡ u → option_map member_of y ≡ v → option_map member_of (cond b x y) ≡ cond b u v
mapped true x y u v first second = first
mapped false x y u v first second = second

pub under_name : (name : Bytes) (ms : Members) → option_map member_of (get_member name ms) ≡ under bytes_eq name (members_of ms)
under_name name no_members = refl
under_name name (member other d ms) =
    ap (option_map member_of) (by_order (slice_cmp nat_cmp name other) (get_member name ms) (Some d))
    ∙ ap (λ b. option_map member_of (cond b (Some d) (get_member name ms))) (is_eq-slice_cmp name other ∙ turned name other)
    ∙ mapped (bytes_eq other name) (Some d) (get_member name ms) (Some (member_of d)) (under bytes_eq name (members_of ms)) refl (under_name name ms)

pub found : (name : Bytes) (d : Data) → option_map member_of (get name d) ≡ under bytes_eq name (members_in (Some d))
found name null = refl
found name (boolean b) = refl
found name (number n) = refl
found name (string s) = refl
found name (array ds) = refl
found name (object ms) = under_name name ms

-- the member of a lookup result, by its data
pub by_data : (o : Option (Bor Value)) → option_map (λ m. member_of (view m.now)) o ≡ option_map member_of (option_map (λ m. view m.now) o)
by_data None = refl
by_data (Some m) = refl

pub none_of : {A B : Type 0} (f : A → B) (o : Option A) → None ≡ option_map f o → o ≡ None
none_of f None is = refl
none_of f (Some a) is = absurd (cc)
