-- The table of an object's members, built one member after another.
use Rattle.std.proofs.Common.{◌≡◌, ◌∙◌, ℕ, ◌<◌, ◌+◌, List, [], ◌∷◌, length, get_or, drop, refl}
use Rattle.std.proofs.Common.{Bor, String, Global, Ordering, Less, Equal, Greater, string_bytes}
use Rattle.std.proofs.lemmas.List.{drop_more}
use Rattle.std.specs.BTreeMap.{insert_entry}
use Rattle.std.specs.Ordering.{match_ordering}
use Rattle.std.specs.String.{string_cmp}
use Rattle.json.specs.Json.{Json, member as json_member}
use Rattle.json.specs.Value.{value_view, members_view}
use Rattle.json.specs.declared.value.Value.{Value as JsonValue}
use Rattle.toml.specs.Data.{Members}
use Rattle.toml.specs.View.{view, members_view as table_members}
use Rattle.toml.specs.declared.value.Value.{Value}
use Rattle.iol_requests.specs.Json.{put, table_with, with_member}

-- a member of an object; an entry of a table
abbrev pub Member : Type 0
Member = Bor (List ℕ) × JsonValue Global

abbrev pub Entry : Type 0
Entry = String Global × Value

-- the members from a place on are the one at it and those after it
pub members_view-drop : (members : List Member) (place : ℕ) (d : Member) → place < length members
    → members_view (drop place members)
    ≡ json_member (get_or members place d).0.now (value_view (get_or members place d).1) (members_view (drop (place + 1) members))
members_view-drop members place d more = rw (drop_more members place d more) refl

view-match_ordering : (order : Ordering) (a b c : List Entry)
    → table_members (match_ordering order a b c) ≡ match_ordering order (table_members a) (table_members b) (table_members c)
view-match_ordering Less a b c = refl
view-match_ordering Equal a b c = refl
view-match_ordering Greater a b c = refl

-- adding an entry to a map adds it to the map's table
pub members_view-insert_entry : (entries : List Entry) (key : String Global) (value : Value)
    → table_members (insert_entry string_cmp entries key value) ≡ put (string_bytes key) (view value) (table_members entries)
members_view-insert_entry [] key value = refl
members_view-insert_entry (entry ∷ entries) key value =
    view-match_ordering (string_cmp key entry.0) _ _ _ ∙ rw (members_view-insert_entry entries key value) refl

-- the next member is added
pub next_member : (members : List Member) (place : ℕ) (d : Member) (table : Members) → place < length members
    → table_with (members_view (drop place members)) table
    ≡ table_with (members_view (drop (place + 1) members))
    (with_member (get_or members place d).0.now (value_view (get_or members place d).1) table)
next_member members place d table more = rw (members_view-drop members place d more) refl
