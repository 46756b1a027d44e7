-- What contracts see of the fields from which an element is made.
use Rattle.std.specs.Prelude.{string_bytes}
use Rattle.std.specs.Option.{option_map}
use Rattle.fhir_json.specs.Views.{property_of}
use Rattle.fhir_elements.specs.declared.element.ElementFields.{ElementFields}
use Rattle.fhir_elements.specs.Element.{Element}

-- the element of these fields
abbrev pub fields_seen : ElementFields → Element
fields_seen f = record {
  id = string_bytes f.id;
  path = option_map string_bytes f.path;
  slice_name = option_map string_bytes f.slice_name;
  min = f.min;
  max = f.max;
  types = f.types.items;
  content_reference = option_map string_bytes f.content_reference;
  fixed = option_map property_of f.fixed;
  pattern = option_map property_of f.pattern;
  min_value = option_map property_of f.min_value;
  max_value = option_map property_of f.max_value;
  max_length = f.max_length;
  binding = f.binding;
  constraints = f.constraints.items;
  slicing = f.slicing;
}
