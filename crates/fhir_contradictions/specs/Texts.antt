-- What is told of an element that asks for what can never hold.
use Rattle.std.specs.Prelude.{codes}
use Rattle.fhir_json.specs.Tree.{Text}
use Rattle.fhir_contradictions.specs.declared.contradiction.Contradiction.{Contradiction}
use Rattle.fhir_contradictions.specs.declared.contradiction.Contradiction.TheVariants as found

abbrev pub text_of : Contradiction → Text
text_of found.NoType = codes "can never hold: it is required, and its items can be of none of its types"
text_of found.FixedType = codes "can never hold: its fixed value is no value of a type that its items can have"
text_of found.TooManySliced = codes "can never hold: its slices together ask for more than its max"
text_of found.OtherTypes = codes "can never hold: none of its types is one of the element that it is a slice of"
text_of found.OtherValue = codes "can never hold: it is told by a value other than the one that is fixed there"
text_of found.FixedPattern = codes "can never hold: its fixed value doesn't fit its pattern"
text_of found.FixedLength = codes "can never hold: its fixed value is longer than its maxLength"
text_of found.FixedRange = codes "can never hold: its fixed value is outside its bounds"
text_of found.FixedBinding = codes "can never hold: its fixed value isn't in its value set"
