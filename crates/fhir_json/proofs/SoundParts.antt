-- The parts of a sound tree are sound.
use Rattle.std.proofs.Common.{◌≡◌, Bool, true, false, cond, List, [], Option, None, Some}
use Rattle.std.specs.Prelude.{◌&&◌}
use Rattle.std.specs.List.{AllByRecursion}
use Rattle.std.specs.Option.{option_map_or}
use Rattle.std.specs.Str.{bytes_eq, is_utf8}
use Rattle.std.proofs.lemmas.Bool.{and_parts}
use Rattle.fhir_json.specs.Tree.{Text, Tree, null, boolean, number, string, array, object, Items, no_items, item, Members, no_members, member, list_of, names}
use Rattle.fhir_json.specs.Fields.{value_named, field, as_items, items_in}
use Rattle.fhir_json.specs.Sound.{IsSound, sound, items_sound, members_sound, differ}

abbrev pub SoundIfAny : Option Tree → Type 0
SoundIfAny None = Unit {0}
SoundIfAny (Some t) = IsSound t

abbrev pub AreSound : List Tree → Type 0
AreSound ts = AllByRecursion IsSound ts

named_sound : (name : Text) (ms : Members) → members_sound ms ≡ true → SoundIfAny (value_named name ms)
named_sound name no_members h = tt
named_sound name (member n t ms) h =
    let front = and_parts (is_utf8 n && sound t) (members_sound ms) h in
    let first = and_parts (is_utf8 n) (sound t) front.0 in
    by (bytes_eq name n) first.1 (named_sound name ms front.1)
  where
    by : (b : Bool) → IsSound t → SoundIfAny (value_named name ms) → SoundIfAny (cond b (Some t) (value_named name ms))
    by true first rest = first
    by false first rest = rest

pub field_sound : (name : Text) (t : Tree) → IsSound t → SoundIfAny (field name t)
field_sound name null h = tt
field_sound name (boolean b) h = tt
field_sound name (number n) h = tt
field_sound name (string s) h = tt
field_sound name (array ts) h = tt
field_sound name (object ms) h = named_sound name ms (and_parts (members_sound ms) (differ (names ms)) h).0

list_sound : (ts : Items) → items_sound ts ≡ true → AreSound (list_of ts)
list_sound no_items h = tt
list_sound (item t ts) h = let both = and_parts (sound t) (items_sound ts) h in (both.0, list_sound ts both.1)

as_items_sound : (t : Tree) → IsSound t → AreSound (list_of (as_items t))
as_items_sound null h = tt
as_items_sound (boolean b) h = tt
as_items_sound (number n) h = tt
as_items_sound (string s) h = tt
as_items_sound (array ts) h = list_sound ts h
as_items_sound (object ms) h = tt

pub items_in_sound : (name : Text) (t : Tree) → IsSound t → AreSound (items_in name t)
items_in_sound name t h = by (field name t) (field_sound name t h)
  where
    by : (r : Option Tree) → SoundIfAny r → AreSound (option_map_or (λ v. list_of (as_items v)) r [])
    by None h = tt
    by (Some v) h = as_items_sound v h
