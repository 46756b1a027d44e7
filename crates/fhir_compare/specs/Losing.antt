-- What a profile names that doesn't mean the same in OLD and in the package that is made.
use Rattle.std.specs.Prelude.{List, Bool, true, false, not, Option, None, Some}
use Rattle.std.specs.List.{find}
use Rattle.std.specs.Str.{bytes_eq}
use Rattle.fhir_json.specs.Tree.{Text}
use Rattle.fhir_package.specs.Definitions.{Definitions}
use Rattle.fhir_definition.specs.Definition.{Definition}
use Rattle.fhir_schema.specs.Schemas.{SchemaValue}
use Rattle.fhir_facets.specs.Targets.{target_type}
use Rattle.fhir_alike.specs.Naming.{profiles_named, profile_stays, targets_named, contents_of, content_stays}

-- ---- targets

-- both are there and equal, or neither is there
abbrev pub same_type : Option Text → Option Text → Bool
same_type (Some a) (Some b) = bytes_eq a b
same_type None None = true
same_type _ _ = false

-- A target is judged by its type alone (FHIR R4, ElementDefinition, type.targetProfile; References, literal references): that of the definition that is
-- named, where it can be used. Where it can't in either, the target is the same unread rule in both.
abbrev pub target_stays : (old made : SchemaValue) → Text → Bool
target_stays old made canonical = same_type (target_type old canonical) (target_type made canonical)

-- ---- all that is named

-- the first of two, if it is there, and else the second
abbrev pub first_some : Option Text → Option Text → Option Text
first_some (Some x) other = Some x
first_some None other = other

abbrev pub lost_profile : (old made : Definitions) → Definition → Option Text
lost_profile old made d = find (λ name. not (profile_stays old made name)) (profiles_named d)

abbrev pub lost_target : (old made : SchemaValue) → Definition → Option Text
lost_target old made d = find (λ target. not (target_stays old made target)) (targets_named d)

abbrev pub lost_content : (old made : Definitions) → Definition → Option Text
lost_content old made d = find (λ reference. not (content_stays old made reference)) (contents_of d)

-- The first profile that a definition names and that doesn't stay, or else the first target that doesn't, or else the first content: by both packages and
-- by their schemas.
abbrev pub lost_name : (old made : Definitions) → (old_schema schema : SchemaValue) → Definition → Option Text
lost_name old made old_schema schema d =
    first_some (lost_profile old made d) (first_some (lost_target old_schema schema d) (lost_content old made d))
