-- What makes a tree of bases.
use Rattle.std.proofs.Common.{◌≡◌, ◌∙◌, ap}
use Rattle.fhir_markup.specs.Markup.{AttributeValue, Node, none, with_child}
use Rattle.fhir_page_frame.specs.Frame.{region}
use Rattle.fhir_base_tree.specs.Tree.{IsShown}

pub is_shown : (named_by : AttributeValue) (place picture n : Node) → place ≡ region named_by none → n ≡ with_child place picture → IsShown named_by n
is_shown named_by place picture n is grown = record { picture = picture; is = grown ∙ ap (λ (x : Node). with_child x picture) is }
