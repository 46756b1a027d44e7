-- How an element is sliced (FHIR R4, Profiling, slicing; ElementDefinition, slicing).
use Rattle.std.specs.Prelude.{List, [], ◌∷◌, ◌++◌, map, fold, Bool, true, false, ◌||◌, Some, if◌then◌else◌, codes}
use Rattle.std.specs.Option.{option_map_or, option_and_then}
use Rattle.std.specs.Str.{bytes_eq}
use Rattle.fhir_json.specs.Tree.{Text}
use Rattle.fhir_json.specs.Sound.{is_among}
use Rattle.fhir_names.specs.Parents.{name_of}
use Rattle.fhir_elements.specs.declared.slicing.DiscriminatorType.{DiscriminatorType}
use Rattle.fhir_elements.specs.declared.slicing.DiscriminatorType.TheVariants.{Value, Exists, Pattern, TypeCode, Profile}
use Rattle.fhir_elements.specs.declared.slicing.SlicingRules.{SlicingRules}
use Rattle.fhir_elements.specs.declared.slicing.SlicingRules.TheVariants.{Closed, Open, OpenAtEnd}
use Rattle.fhir_elements.specs.Slicing.{Discriminator}
use Rattle.fhir_elements.specs.Element.{Element}
use Rattle.fhir_forms.specs.Forms.{is_choice}

abbrev pub discriminator : DiscriminatorType → Text → Discriminator
discriminator by path = record { by = Some by; path = Some path }

abbrev pub is_extension : Text → Bool
is_extension name = bytes_eq name (codes "extension") || bytes_eq name (codes "modifierExtension")

-- Where an element doesn't say how it is sliced, extensions are told apart by their url, and the items of a choice by their
-- type (FHIR R4, Profiling, slicing).
abbrev pub implied_discriminators : Text → List Discriminator
implied_discriminators name =
    if is_extension name then discriminator Value (codes "url") ∷ []
    else (if is_choice name then discriminator TypeCode (codes "$this") ∷ [] else [])

-- the type and the path of a discriminator in one text, as `value:url`
abbrev pub word_of : DiscriminatorType → Text
word_of Value = codes "value"
word_of Exists = codes "exists"
word_of Pattern = codes "pattern"
word_of TypeCode = codes "type"
word_of Profile = codes "profile"

abbrev pub key_of : Discriminator → Text
key_of d = option_map_or word_of d.by [] ++ option_map_or (λ path. codes ":" ++ path) d.path []

-- each once, where one of its type and path first stands
abbrev pub put_new : List Discriminator → Discriminator → List Discriminator
put_new ds d = if is_among (key_of d) (map key_of ds) then ds else ds ++ d ∷ []

abbrev pub distinct : List Discriminator → List Discriminator
distinct ds = fold put_new [] ds

-- what tells an element's slices apart
abbrev pub discriminators_of : Element → List Discriminator
discriminators_of e = option_map_or (λ s. distinct s.discriminators) e.slicing (implied_discriminators (name_of e.id))

abbrev pub is_closing : SlicingRules → Bool
is_closing Closed = true
is_closing Open = false
is_closing OpenAtEnd = false

-- no item may be in none of the slices
abbrev pub is_closed : Element → Bool
is_closed e = option_map_or is_closing (option_and_then (λ s. s.rules) e.slicing) false
