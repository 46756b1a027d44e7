-- What it is that an object has these children, in words that don't speak of forms one after another.
use Rattle.std.specs.Prelude.{◌≡◌, List, filter, map, Some, IsTrue}
use Rattle.std.specs.List.{Contains}
use Rattle.std.specs.Str.{bytes_eq}
use Rattle.fhir_json.specs.Tree.{Text}
use Rattle.fhir_schema.specs.Schemas.{SchemaValue}
use Rattle.fhir_instance.specs.Items.{Named}
use Rattle.fhir_instance.specs.Typing.{Frame, Field, is_known, forms_in, form_items, joined}

-- Each property is accounts_for_each_property for: it is an element's, or names the type. And the children of each name are the items that
-- are typed from the properties of that element, those of one type behind those of another.
pub record Accounts (s : SchemaValue) (frame : Frame) (fields : List Field) (kids : List Named) : Type 0 where
  pub known : (x : Field) → Contains fields x → IsTrue (is_known s frame x.name)
  pub typed : (name : Text)
      → joined (map (form_items s fields) (filter (λ f. bytes_eq name f.name) (forms_in s frame))) ≡ Some (filter (λ k. bytes_eq name k.0) kids)
