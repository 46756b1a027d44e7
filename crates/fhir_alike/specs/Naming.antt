-- What a profile names (FHIR R4, ElementDefinition, type.profile, type.targetProfile, contentReference), and what that is in OLD and in NEW.
use Rattle.std.specs.Prelude.{ℕ, List, [], Bool, true, false, not, ◌&&◌, ◌||◌, Option, None, Some, is_some, codes, if◌then◌else◌}
use Rattle.std.specs.Option.{option_map_or, option_and_then}
use Rattle.std.specs.Result.{result_ok}
use Rattle.std.specs.List.{flat_map, filter_map}
use Rattle.std.specs.Str.{bytes_eq}
use Rattle.fhir_json.specs.Bytes.{is_empty}
use Rattle.fhir_json.specs.Tree.{Text, Tree}
use Rattle.fhir_names.specs.Canonicals.{read_canonical}
use Rattle.fhir_names.specs.Texts.{cut_at_first}
use Rattle.fhir_package.specs.declared.kind.Kind.{Kind}
use Rattle.fhir_package.specs.declared.kind.Kind.TheVariants.{StructureDefinition}
use Rattle.fhir_package.specs.Definitions.{Definitions, place_in}
use Rattle.fhir_package.specs.Canonical.{named_by}
use Rattle.fhir_elements.specs.TypeEntry.{TypeEntry}
use Rattle.fhir_elements.specs.Element.{Element}
use Rattle.fhir_definition.specs.Definition.{Definition}
use Rattle.fhir_alike.specs.Profiles.{is_profile}

-- the place of the definition of a kind that a canonical names
abbrev pub place_named : Kind → Definitions → Text → Option ℕ
place_named kind p canonical =
    option_and_then (λ t. option_and_then (λ r. place_in kind r.0 p) (result_ok (read_canonical canonical))) (named_by kind canonical p)

-- both hold, or neither does
abbrev pub agree : Bool → Bool → Bool
agree true b = b
agree false b = not b

-- it names one in both packages, or in none
abbrev pub name_stays : Kind → Definitions → Definitions → Text → Bool
name_stays kind old new canonical = agree (is_some (named_by kind canonical old)) (is_some (named_by kind canonical new))

-- ---- profiles and targets

abbrev pub element_profiles : Element → List Text
element_profiles e = flat_map (λ entry. entry.profiles) e.types

-- the canonicals of the profiles of types that a definition's elements name
abbrev pub profiles_named : Definition → List Text
profiles_named d = flat_map element_profiles d.elements

-- only an entry for references has targets that are judged
abbrev pub entry_targets : TypeEntry → List Text
entry_targets e = if bytes_eq e.code (codes "Reference") then e.targets else []

abbrev pub element_targets : Element → List Text
element_targets e = flat_map entry_targets e.types

-- the canonicals of the targets of references that a definition's elements name
abbrev pub targets_named : Definition → List Text
targets_named d = flat_map element_targets d.elements

-- both are profiles, or neither is; or neither is there
abbrev pub alike : Option Tree → Option Tree → Bool
alike (Some a) (Some b) = agree (is_profile a) (is_profile b)
alike None None = true
alike _ _ = false

-- a canonical names a profile in both packages, or in both a definition that is none, or nothing in both
abbrev pub profile_stays : Definitions → Definitions → Text → Bool
profile_stays old new canonical = alike (named_by StructureDefinition canonical old) (named_by StructureDefinition canonical new)

-- ---- contents

-- what stands between the definition that a content is of, and the id of the element
abbrev pub hash : ℕ
hash = 35

abbrev pub is_type : Option Tree → Bool
is_type named = option_map_or (λ t. not (is_profile t)) named false

abbrev pub is_type_in_both : Definitions → Definitions → Text → Bool
is_type_in_both old new canonical = is_type (named_by StructureDefinition canonical old) && is_type (named_by StructureDefinition canonical new)

-- A reference to the content of an element of another definition: that is no profile in both packages, since no single element of one is said to
-- narrow another's.
abbrev pub content_stays : Definitions → Definitions → Text → Bool
content_stays old new reference =
    option_map_or (λ cut. is_empty cut.0 || is_type_in_both old new cut.0) (cut_at_first hash reference) true

-- the content of an element, if it is another one's that doesn't stay
abbrev pub lost_reference : Definitions → Definitions → Element → Option Text
lost_reference old new e =
    option_and_then (λ reference. if content_stays old new reference then None else Some reference) e.content_reference

abbrev pub contents_of : Definition → List Text
contents_of d = filter_map (λ e. e.content_reference) d.elements
