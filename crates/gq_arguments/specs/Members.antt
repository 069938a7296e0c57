-- Members: what the file of arguments has for the parameters of a query.
use Rattle.std.specs.Prelude.{ℤ, List, [], ◌∷◌, codes, Option, Some, None, option_and_then}
use Rattle.serde_json.specs.Data.{Data, null, boolean, number, string, array, object, Members, no_members, member}
use Rattle.serde_json.specs.Find.{get, as_str, as_object, as_integer}
use Rattle.gq_rules_typing.specs.Statements.{Bytes}
use Rattle.gq_rules_meaning.specs.Arguments.{Member, NumberMember, TextMember, TruthMember, VertexMember, OtherMember}

-- a number that isn't whole or doesn't fit in 64 bits gives no member
abbrev pub number_member : Option ℤ → Member
number_member (Some x) = NumberMember x
number_member None = OtherMember

-- a vertex of the texts under `id` and `type`, if both exist
abbrev pub vertex_member : Option Bytes → Option Bytes → Member
vertex_member (Some id) (Some type) = VertexMember id type
vertex_member _ _ = OtherMember

-- the text under a name
abbrev pub text_under : Bytes → Data → Option Bytes
text_under name d = option_and_then as_str (get name d)

abbrev pub member_of : Data → Member
member_of null = OtherMember
member_of (boolean b) = TruthMember b
member_of (number n) = number_member (as_integer n)
member_of (string s) = TextMember s
member_of (array ds) = OtherMember
member_of (object ms) = vertex_member (text_under (codes "id") (object ms)) (text_under (codes "type") (object ms))

abbrev pub members_of : Members → List (Bytes × Member)
members_of no_members = []
members_of (member name d ms) = (name, member_of d) ∷ members_of ms

abbrev pub members_or_none : Option Members → List (Bytes × Member)
members_or_none None = []
members_or_none (Some ms) = members_of ms

-- the members of the value under a query's name; none if it isn't an object or doesn't exist
abbrev pub members_in : Option Data → List (Bytes × Member)
members_in found = members_or_none (option_and_then as_object found)

-- the members for a query of this name
abbrev pub members_for : Option Data → Bytes → List (Bytes × Member)
members_for file query = members_in (option_and_then (get query) file)
