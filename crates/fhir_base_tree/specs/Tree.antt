-- The tree of bases on a page.
use Rattle.std.specs.Prelude.{◌≡◌}
use Rattle.fhir_markup.specs.Markup.{AttributeValue, Node, also, none}
use Rattle.fhir_page_frame.specs.Frame.{region}

-- a picture in a place that is scrolled in itself, under a name
pub record IsShown (named_by : AttributeValue) (n : Node) : Type 0 where
  pub picture : Node
  pub is : n ≡ region named_by (also picture none)
