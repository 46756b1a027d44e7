-- Constraints, and elements with one facet.
use Rattle.std.specs.Prelude.{ℤ, [], Option, None, Some, codes}
use Rattle.fhir_json.specs.Tree.{Text, Tree, string}
use Rattle.fhir_elements.specs.Constraint.{Constraint}
use Rattle.fhir_elements.specs.Element.{Element}
use Rattle.fhir_elements.specs.declared.constraint.Severity.{Severity}
use Rattle.fhir_elements.specs.declared.constraint.Severity.TheVariants.{Error}

abbrev pub asks : Text → Severity → Text → Constraint
asks key severity expression = record { key = key; severity = Some severity; expression = Some expression }

-- without an expression
abbrev pub says : Text → Constraint
says key = record { key = key; severity = Some Error; expression = None }

abbrev pub with_facets : Option (Text × Tree) → Option (Text × Tree) → Option ℤ → Element
with_facets fixed pattern length = record {
  id = codes "A.b";
  path = None;
  slice_name = None;
  min = Some 0;
  max = None;
  types = [];
  content_reference = None;
  fixed = fixed;
  pattern = pattern;
  min_value = None;
  max_value = None;
  max_length = length;
  binding = None;
  constraints = [];
  slicing = None;
}

abbrev pub bare : Element
bare = with_facets None None None

abbrev pub fixed_to : Text → Element
fixed_to value = with_facets (Some (codes "fixedCode", string value)) None None

abbrev pub like : Text → Element
like value = with_facets None (Some (codes "patternCode", string value)) None

abbrev pub up_to : ℤ → Element
up_to most = with_facets None None (Some most)
