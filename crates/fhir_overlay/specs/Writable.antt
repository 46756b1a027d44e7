-- Which elements can be written as JSON so that they are read again, and which of them are sound.
use Rattle.std.specs.Prelude.{ℕ, ℤ, pos, negsuc, map, Bool, true, ◌&&◌, nat_le, Option, is_ok, codes}
use Rattle.std.specs.Option.{option_map_or}
use Rattle.std.specs.List.{list_all}
use Rattle.std.specs.Str.{is_utf8}
use Rattle.fhir_json.specs.Tree.{Text, Property}
use Rattle.fhir_json.specs.Fields.{most_count, is_choice}
use Rattle.fhir_json.specs.Sound.{sound, differ}
use Rattle.fhir_names.specs.Ids.{read_id}
use Rattle.fhir_elements.specs.declared.max.Max.{Max}
use Rattle.fhir_elements.specs.declared.max.Max.TheVariants.{Unbounded, UpTo}
use Rattle.fhir_elements.specs.TypeEntry.{TypeEntry}
use Rattle.fhir_elements.specs.Constraint.{Constraint}
use Rattle.fhir_elements.specs.Binding.{Binding}
use Rattle.fhir_elements.specs.Slicing.{Discriminator, Slicing}
use Rattle.fhir_elements.specs.Element.{Element}

-- ---- what is read again

abbrev pub is_count : ℕ → Bool
is_count n = nat_le n most_count

abbrev pub is_max : Max → Bool
is_max Unbounded = true
is_max (UpTo n) = is_count n

-- from -2147483648 to 2147483647 (FHIR R4, Data Types, integer)
abbrev pub is_integer : ℤ → Bool
is_integer (pos n) = is_count n
is_integer (negsuc n) = is_count n

abbrev pub has_writable_numbers : Element → Bool
has_writable_numbers e =
    option_map_or is_count e.min true && option_map_or is_max e.max true && option_map_or is_integer e.max_length true

-- absent, or named as a choice of the stem
abbrev pub is_named : Text → Option Property → Bool
is_named stem choice = option_map_or (λ p. is_choice stem p.0) choice true

abbrev pub has_named_choices : Element → Bool
has_named_choices e =
    is_named (codes "fixed") e.fixed
    && is_named (codes "pattern") e.pattern
    && is_named (codes "minValue") e.min_value
    && is_named (codes "maxValue") e.max_value

-- the id can be read, the numbers can be counts, no two types have one code, and each choice is named as one
abbrev pub is_writable : Element → Bool
is_writable e =
    is_ok (read_id e.id) && has_writable_numbers e && differ (map (λ t. t.code) e.types) && has_named_choices e

-- ---- soundness: each text is one of Unicode, and each value is a sound tree

abbrev pub text_sound : Option Text → Bool
text_sound text = option_map_or is_utf8 text true

abbrev pub type_entry_sound : TypeEntry → Bool
type_entry_sound entry = is_utf8 entry.code && list_all is_utf8 entry.profiles && list_all is_utf8 entry.targets

abbrev pub constraint_sound : Constraint → Bool
constraint_sound c = is_utf8 c.key && text_sound c.expression

abbrev pub binding_sound : Binding → Bool
binding_sound b = text_sound b.value_set

abbrev pub discriminator_sound : Discriminator → Bool
discriminator_sound d = text_sound d.path

abbrev pub slicing_sound : Slicing → Bool
slicing_sound s = list_all discriminator_sound s.discriminators

abbrev pub choice_sound : Option Property → Bool
choice_sound choice = option_map_or (λ p. is_utf8 p.0 && sound p.1) choice true

abbrev pub has_sound_texts : Element → Bool
has_sound_texts e = is_utf8 e.id && text_sound e.path && text_sound e.slice_name && text_sound e.content_reference

abbrev pub has_sound_choices : Element → Bool
has_sound_choices e = choice_sound e.fixed && choice_sound e.pattern && choice_sound e.min_value && choice_sound e.max_value

abbrev pub has_sound_parts : Element → Bool
has_sound_parts e =
    list_all type_entry_sound e.types
    && list_all constraint_sound e.constraints
    && option_map_or binding_sound e.binding true
    && option_map_or slicing_sound e.slicing true

abbrev pub is_sound : Element → Bool
is_sound e = has_sound_texts e && has_sound_choices e && has_sound_parts e
