-- One element of a definition laid over another, as a profile's differential is laid over what it inherits (FHIR R4,
-- Profiling, snapshots): what the upper one says holds, and where it says nothing, what the lower one says.
use Rattle.std.specs.Prelude.{List, [], ◌∷◌, ◌++◌, Bool, true, false, not, ◌&&◌, None, Some, if◌then◌else◌}
use Rattle.std.specs.Option.{option_or, option_eq, option_map_or}
use Rattle.std.specs.List.{list_any}
use Rattle.std.specs.Str.{bytes_eq}
use Rattle.fhir_elements.specs.declared.constraint.Severity.{Severity}
use Rattle.fhir_elements.specs.declared.constraint.Severity.TheVariants.{Error, Warning}
use Rattle.fhir_elements.specs.Max.{is_within}
use Rattle.fhir_elements.specs.Constraint.{Constraint}
use Rattle.fhir_elements.specs.Element.{Element}

-- ---- constraints

abbrev pub same_severity : Severity → Severity → Bool
same_severity Error Error = true
same_severity Error Warning = false
same_severity Warning Error = false
same_severity Warning Warning = true

abbrev pub same_constraint : Constraint → Constraint → Bool
same_constraint c d =
    bytes_eq c.key d.key && option_eq same_severity c.severity d.severity && option_eq bytes_eq c.expression d.expression

-- at the end, unless there is the same one
abbrev pub with_constraint : List Constraint → Constraint → List Constraint
with_constraint cs c = if list_any (same_constraint c) cs then cs else cs ++ c ∷ []

-- one after the other
abbrev pub with_constraints : List Constraint → List Constraint → List Constraint
with_constraints old [] = old
with_constraints old (c ∷ cs) = with_constraints (with_constraint old c) cs

-- none is the same as another
abbrev pub all_differ : List Constraint → Bool
all_differ [] = true
all_differ (c ∷ cs) = not (list_any (same_constraint c) cs) && all_differ cs

-- ---- elements

-- the first list, and where that is empty, the second: an empty list counts as absent
abbrev pub listed_over : {A : Type 0} → List A → List A → List A
listed_over [] under = under
listed_over (x ∷ xs) under = x ∷ xs

abbrev pub laid_over : Element → Element → Element
laid_over over under = record {
  id = over.id;
  path = option_or over.path under.path;
  slice_name = option_or over.slice_name under.slice_name;
  min = option_or over.min under.min;
  max = option_or over.max under.max;
  types = listed_over over.types under.types;
  content_reference = option_or over.content_reference under.content_reference;
  fixed = option_or over.fixed under.fixed;
  pattern = option_or over.pattern under.pattern;
  min_value = option_or over.min_value under.min_value;
  max_value = option_or over.max_value under.max_value;
  max_length = option_or over.max_length under.max_length;
  binding = option_or over.binding under.binding;
  constraints = with_constraints under.constraints over.constraints;
  slicing = option_or over.slicing under.slicing;
}

-- an element as a slice inherits it: there need be none, and it isn't sliced itself
abbrev pub as_slice : Element → Element
as_slice e = record e { min = Some 0; slicing = None }

-- the lower bound lies within the upper one, where both are there
abbrev pub bounds_fit : Element → Bool
bounds_fit e = option_map_or (λ max. option_map_or (λ min. is_within min max) e.min true) e.max true
