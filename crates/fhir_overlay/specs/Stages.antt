-- The stages in which one element is laid over another (used by private contracts alone).
use Rattle.std.specs.Option.{option_or}
use Rattle.fhir_elements.specs.Element.{Element}

-- by its texts
abbrev pub texts_over : Element → Element → Element
texts_over over under = record under {
  id = over.id;
  path = option_or over.path under.path;
  slice_name = option_or over.slice_name under.slice_name;
  content_reference = option_or over.content_reference under.content_reference;
}

-- by its choices
abbrev pub choices_over : Element → Element → Element
choices_over over under = record under {
  fixed = option_or over.fixed under.fixed;
  pattern = option_or over.pattern under.pattern;
  min_value = option_or over.min_value under.min_value;
  max_value = option_or over.max_value under.max_value;
}

-- by its numbers
abbrev pub numbers_over : Element → Element → Element
numbers_over over under = record under {
  min = option_or over.min under.min;
  max = option_or over.max under.max;
  max_length = option_or over.max_length under.max_length;
}
