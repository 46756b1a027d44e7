-- What contracts see of criteria.
use Rattle.std.specs.Prelude.{List, Option, map, string_bytes, Vec}
use Rattle.std.specs.declared.alloc.Global.{Global}
use Rattle.fhir_json.specs.Views.{tree_of, text_seen}
use Rattle.fhir_elements.specs.declared.cause.Blame.{Blame}
use Rattle.fhir_elements.specs.Slicing.{Discriminator}
use Rattle.fhir_forms.specs.declared.criterion.Criterion.{Criterion}
use Rattle.fhir_forms.specs.declared.criterion.Sought.{Sought}
use Rattle.fhir_forms.specs.declared.criterion.Sought.TheVariants.{Fixed, Pattern, Present, Absent, Typed}
use Rattle.fhir_forms.specs.declared.slicings.Test.{Test}
use Rattle.fhir_forms.specs.Criteria.{fixed, pattern, present, absent, typed}
use Rattle.fhir_forms.specs.Criteria.{Criterion as Told, Sought as Wanted}

abbrev pub sought_seen : Sought → Wanted
sought_seen (Fixed json) = fixed (tree_of json)
sought_seen (Pattern json) = pattern (tree_of json)
sought_seen Present = present
sought_seen Absent = absent
sought_seen (Typed codes) = typed (map string_bytes codes.items)

abbrev pub criterion_seen : Criterion → Told
criterion_seen c = record {
  by = c.by;
  path = string_bytes c.path;
  names = map string_bytes c.names.items;
  sought = sought_seen c.sought;
}

abbrev pub criteria_seen : List Criterion → List Told
criteria_seen cs = map criterion_seen cs

-- those of each element of each definition
abbrev pub all_seen : List (Vec (Vec Criterion Global) Global) → List (List (List Told))
all_seen lists = map (λ v. map (λ w. criteria_seen w.items) v.items) lists

-- those of each element of each definition, and of each definition what is to blame where a slice of it can't be told
pub record NodeCriteria : Type 0 where
  pub criteria : List (List (List Told))
  pub blames : List (Option Blame)

-- a discriminator of the program
abbrev pub test_seen : Test → Discriminator
test_seen t = record { by = t.by; path = text_seen t.path }

abbrev pub tests_seen : List Test → List Discriminator
tests_seen ts = map test_seen ts

abbrev pub lists_of_tests : List (Vec Test Global) → List (List Discriminator)
lists_of_tests vs = map (λ v. tests_seen v.items) vs
