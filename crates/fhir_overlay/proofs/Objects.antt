-- When an object of members, of which some may be absent, is sound.
use Rattle.std.proofs.Common.{◌≡◌, ◌<◌, List, [], ◌∷◌, map, Bool, true, false, Option, None, Some, IsTrue, refl, ap, ◌∙◌, arith, if◌then◌else◌, not}
use Rattle.std.specs.Prelude.{◌&&◌, ◌||◌, nat_lt}
use Rattle.std.specs.List.{list_all}
use Rattle.std.specs.Option.{option_map, option_map_or}
use Rattle.std.specs.Str.{bytes_eq, is_utf8, IsAscii}
use Rattle.std.proofs.lemmas.Bool.{and_parts}
use Rattle.std.proofs.lemmas.Str.{is_utf8-from_IsUtf8, IsUtf8-from_ascii}
use Rattle.std.proofs.lemmas.Str.Ascii.{IsAscii-nil, IsAscii-cons}
use Rattle.fhir_json.specs.Tree.{Text, Tree, string, Members, no_members, member, members_of, items_of, names, Property}
use Rattle.fhir_json.specs.Fields.{value_named, field, is_choice}
use Rattle.fhir_json.specs.Sound.{IsSound, sound, items_sound, members_sound, is_among, differ}
use Rattle.fhir_overlay.specs.Json.{member_if, filled_array, present, object_of}
use Rattle.fhir_overlay.specs.Writable.{is_named, text_sound, choice_sound}
use Rattle.fhir_overlay.proofs.Truths.{both}
use Rattle.fhir_overlay.proofs.Lookups.{taken, differs}

-- ---- names

-- no two of the members that are there have one name
abbrev pub unlike : List (Option Property) → Bool
unlike ms = differ (names (members_of (present ms)))

absent_if : (b among : Bool) (t : Tree) (rest : Option Tree) → (if b then Some t else rest) ≡ None → (rest ≡ None → among ≡ false) → (b || among) ≡ false
absent_if true among t rest is later = absurd (cc)
absent_if false among t rest is later = later is

absent : (name : Text) (ms : Members) → value_named name ms ≡ None → is_among name (names ms) ≡ false
absent name no_members is = refl
absent name (member n t ms) is =
    absent_if (bytes_eq name n) (is_among name (names ms)) t (value_named name ms) is (λ none. absent name ms none)

unlike_front : (name : Text) (ms : List (Option Property)) → field name (object_of ms) ≡ None → IsTrue (unlike ms)
    → IsTrue (not (is_among name (names (members_of (present ms)))) && unlike ms)
unlike_front name ms none h = both _ _ (ap not (absent name (members_of (present ms)) none)) h

pub unlike-named : (name : Text) (value : Option Tree) (ms : List (Option Property)) → field name (object_of ms) ≡ None → IsTrue (unlike ms)
    → IsTrue (unlike (member_if name value ∷ ms))
unlike-named name None ms none h = h
unlike-named name (Some t) ms none h = unlike_front name ms none h

pub unlike-choice : (stem : Text) (m : Option Property) (ms : List (Option Property)) → IsTrue (is_named stem m)
    → ((n : Text) → is_choice stem n ≡ true → field n (object_of ms) ≡ None) → IsTrue (unlike ms) → IsTrue (unlike (m ∷ ms))
unlike-choice stem None ms is none h = h
unlike-choice stem (Some p) ms is none h = unlike_front p.0 ms (none p.0 is) h

same_bytes : (a b : Text) → bytes_eq a b ≡ bytes_eq b a
same_bytes [] [] = refl
same_bytes [] (b ∷ bs) = refl
same_bytes (a ∷ at) [] = refl
same_bytes (a ∷ at) (b ∷ bs) = grind (arith, same_bytes at bs)

-- a choice of a stem isn't a member whose name is none
pub taken-unnamed : (stem n name : Text) (value : Option Tree) → is_choice stem name ≡ false → is_choice stem n ≡ true → taken n (member_if name value) ≡ None
taken-unnamed stem n name None other is = refl
taken-unnamed stem n name (Some t) other is = rw (same_bytes n name ∙ differs stem name n other is) refl

-- ---- values

members_sound_if : (ms : List (Option Property)) → IsTrue (list_all choice_sound ms) → IsTrue (members_sound (members_of (present ms)))
members_sound_if [] h = refl
members_sound_if (None ∷ ms) h = members_sound_if ms h
members_sound_if (Some p ∷ ms) h =
    let parts = and_parts (is_utf8 p.0 && sound p.1) (list_all choice_sound ms) h in both _ _ parts.0 (members_sound_if ms parts.1)

pub object_sound : (ms : List (Option Property)) → IsTrue (list_all choice_sound ms) → IsTrue (unlike ms) → IsSound (object_of ms)
object_sound ms h i = both _ _ (members_sound_if ms h) i

all_ascii : (s : Text) → IsTrue (list_all (λ b. nat_lt b 128) s) → IsAscii s
all_ascii [] h = IsAscii-nil
all_ascii (b ∷ bs) h =
    let parts = and_parts (nat_lt b 128) (list_all (λ c. nat_lt c 128) bs) h in
    let first : nat_lt b 128 ≡ true = parts.0 in
    let small : b < 128 = grind arith in
    IsAscii-cons b bs small (all_ascii bs parts.1)

pub ascii_utf8 : (s : Text) → IsAscii s → IsTrue (is_utf8 s)
ascii_utf8 s h = is_utf8-from_IsUtf8 s (IsUtf8-from_ascii s h)

pub plain_utf8 : (s : Text) → IsTrue (list_all (λ b. nat_lt b 128) s) → IsTrue (is_utf8 s)
plain_utf8 s h = ascii_utf8 s (all_ascii s h)

pub named_sound : (name : Text) (value : Option Tree) → IsTrue (list_all (λ b. nat_lt b 128) name) → IsTrue (option_map_or sound value true)
    → IsTrue (choice_sound (member_if name value))
named_sound name None h i = refl
named_sound name (Some t) h i = both (is_utf8 name) (sound t) (plain_utf8 name h) i

pub text_value : (o : Option Text) → IsTrue (text_sound o) → IsTrue (option_map_or sound (option_map string o) true)
text_value None h = refl
text_value (Some s) h = h

pub written_value : {A : Type 0} (write : A → Tree) (good : A → Bool) → ((x : A) → IsTrue (good x) → IsTrue (sound (write x))) → (o : Option A)
    → IsTrue (option_map_or good o true) → IsTrue (option_map_or sound (option_map write o) true)
written_value write good one None h = refl
written_value write good one (Some x) h = one x h

items_of_sound : (ts : List Tree) → IsTrue (list_all sound ts) → IsTrue (items_sound (items_of ts))
items_of_sound [] h = refl
items_of_sound (t ∷ ts) h =
    let parts = and_parts (sound t) (list_all sound ts) h in both (sound t) _ parts.0 (items_of_sound ts parts.1)

filled : (ts : List Tree) → IsTrue (list_all sound ts) → IsTrue (option_map_or sound (filled_array ts) true)
filled [] h = refl
filled (t ∷ ts) h = items_of_sound (t ∷ ts) h

all_written : {A : Type 0} (write : A → Tree) (good : A → Bool) → ((x : A) → IsTrue (good x) → IsTrue (sound (write x))) → (xs : List A)
    → IsTrue (list_all good xs) → IsTrue (list_all sound (map write xs))
all_written write good one [] h = refl
all_written write good one (x ∷ xs) h =
    let parts = and_parts (good x) (list_all good xs) h in both (sound (write x)) _ (one x parts.0) (all_written write good one xs parts.1)

pub array_value : {A : Type 0} (write : A → Tree) (good : A → Bool) → ((x : A) → IsTrue (good x) → IsTrue (sound (write x))) → (xs : List A)
    → IsTrue (list_all good xs) → IsTrue (option_map_or sound (filled_array (map write xs)) true)
array_value write good one xs h = filled (map write xs) (all_written write good one xs h)
