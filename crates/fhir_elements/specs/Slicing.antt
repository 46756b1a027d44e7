-- How an element is sliced (FHIR R4, ElementDefinition, slicing).
use Rattle.std.specs.Prelude.{List, map, Bool, ◌&&◌, Option, codes, None, Some, if◌then◌else◌}
use Rattle.std.specs.List.{list_all}
use Rattle.std.specs.Str.{bytes_eq}
use Rattle.fhir_json.specs.Tree.{Text, Tree}
use Rattle.fhir_json.specs.Fields.{is_object, text_in, flag_in, items_in, allows_text, allows_flag, allows_items}
use Rattle.fhir_elements.specs.declared.slicing.DiscriminatorType.{DiscriminatorType}
use Rattle.fhir_elements.specs.declared.slicing.SlicingRules.{SlicingRules}
use Rattle.fhir_elements.specs.Codes.{code_in, allows_code}
use Rattle.fhir_elements.specs.declared.slicing.DiscriminatorType.TheVariants as discriminators
use Rattle.fhir_elements.specs.declared.slicing.SlicingRules.TheVariants as slicings

abbrev pub discriminator_type_of : Text → Option DiscriminatorType
discriminator_type_of s =
    if bytes_eq s (codes "value") then Some discriminators.Value
    else (if bytes_eq s (codes "exists") then Some discriminators.Exists
    else (if bytes_eq s (codes "pattern") then Some discriminators.Pattern
    else (if bytes_eq s (codes "type") then Some discriminators.TypeCode
    else (if bytes_eq s (codes "profile") then Some discriminators.Profile else None))))

abbrev pub slicing_rules_of : Text → Option SlicingRules
slicing_rules_of s =
    if bytes_eq s (codes "closed") then Some slicings.Closed
    else (if bytes_eq s (codes "open") then Some slicings.Open
    else (if bytes_eq s (codes "openAtEnd") then Some slicings.OpenAtEnd else None))

pub record Discriminator : Type 0 where
  pub by : Option DiscriminatorType
  pub path : Option Text

abbrev pub is_discriminator : Tree → Bool
is_discriminator t =
    is_object t && allows_code discriminator_type_of (codes "type") t && allows_text (codes "path") t

abbrev pub discriminator_of : Tree → Discriminator
discriminator_of t = record {
  by = code_in discriminator_type_of (codes "type") t;
  path = text_in (codes "path") t;
}

pub record Slicing : Type 0 where
  pub discriminators : List Discriminator
  pub ordered : Option Bool
  pub rules : Option SlicingRules

abbrev pub is_slicing : Tree → Bool
is_slicing t =
    is_object t
    && allows_items (codes "discriminator") t
    && list_all is_discriminator (items_in (codes "discriminator") t)
    && allows_flag (codes "ordered") t
    && allows_code slicing_rules_of (codes "rules") t

abbrev pub slicing_of : Tree → Slicing
slicing_of t = record {
  discriminators = map discriminator_of (items_in (codes "discriminator") t);
  ordered = flag_in (codes "ordered") t;
  rules = code_in slicing_rules_of (codes "rules") t;
}
