-- The part of a version that has to change (docs/USAGE.md, A new version).
use Rattle.std.specs.Prelude.{List, Bool, true, false, if◌then◌else◌}
use Rattle.std.specs.List.{list_any}
use Rattle.fhir_words.specs.declared.request.Audience.{Audience}
use Rattle.fhir_compare.specs.Comparing.{Said}
use Rattle.fhir_compare_lines.specs.declared.parts.Part.{Part}
use Rattle.fhir_compare_lines.specs.declared.parts.Part.TheVariants.{None as NoPart, Minor, Major}
use Rattle.fhir_compare_lines.specs.Parts.{verdict_part}

abbrev pub is_major : Part → Bool
is_major NoPart = false
is_major Minor = false
is_major Major = true

abbrev pub is_minor : Part → Bool
is_minor NoPart = false
is_minor Minor = true
is_minor Major = false

-- one of the profiles asks for such a part
abbrev pub one_asks : (Part → Bool) → Audience → List Said → Bool
one_asks test audience said = list_any (λ s. test (verdict_part audience s.1)) said

-- major where one breaks those who are asked about; else minor where something isn't the same; else none
abbrev pub part_said : Audience → List Said → Part
part_said audience said = if one_asks is_major audience said then Major else (if one_asks is_minor audience said then Minor else NoPart)
