-- An element that has every field, and what it says.
use Rattle.std.specs.Prelude.{[], ◌∷◌, false, Some, pos, codes}
use Rattle.fhir_json.specs.Tree.{Tree, boolean, number, string, array, object, no_items, item, no_members, member}
use Rattle.fhir_elements.specs.Element.{Element}
use Rattle.fhir_elements.specs.declared.binding.Strength.TheVariants.{Extensible}
use Rattle.fhir_elements.specs.declared.constraint.Severity.TheVariants.{Warning}
use Rattle.fhir_elements.specs.declared.max.Max.TheVariants.{UpTo}
use Rattle.fhir_elements.specs.declared.slicing.DiscriminatorType.TheVariants.{Exists}
use Rattle.fhir_elements.specs.declared.slicing.SlicingRules.TheVariants.{OpenAtEnd}

abbrev pub one : Tree → Tree
one t = array (item t no_items)

abbrev pub type : Tree
type =
    object
    (member (codes "code") (string (codes "Reference"))
    (member (codes "profile") (one (string (codes "urn:profile")))
    (member (codes "targetProfile") (one (string (codes "urn:target")))
    no_members)))

abbrev pub constraint : Tree
constraint =
    object
    (member (codes "key") (string (codes "k-1"))
    (member (codes "severity") (string (codes "warning"))
    (member (codes "expression") (string (codes "exists()"))
    no_members)))

abbrev pub slicing : Tree
slicing =
    object
    (member (codes "discriminator") (one (object (member (codes "type") (string (codes "exists")) (member (codes "path") (string (codes "url")) no_members))))
    (member (codes "ordered") (boolean false)
    (member (codes "rules") (string (codes "openAtEnd"))
    no_members)))

abbrev pub full : Tree
full =
    object
    (member (codes "id") (string (codes "A.b:s"))
    (member (codes "path") (string (codes "A.b"))
    (member (codes "sliceName") (string (codes "s"))
    (member (codes "min") (number (codes "1"))
    (member (codes "max") (string (codes "3"))
    (member (codes "type") (one type)
    (member (codes "contentReference") (string (codes "#A.c"))
    (member (codes "fixedCode") (string (codes "f"))
    (member (codes "patternString") (string (codes "p"))
    (member (codes "minValueInteger") (number (codes "2"))
    (member (codes "maxValueDecimal") (number (codes "4.50"))
    (member (codes "maxLength") (number (codes "7"))
    (member (codes "binding") (object (member (codes "strength") (string (codes "extensible")) (member (codes "valueSet") (string (codes "urn:set")) no_members)))
    (member (codes "constraint") (one constraint)
    (member (codes "slicing") slicing
    no_members)))))))))))))))

abbrev pub full_element : Element
full_element = record {
  id = codes "A.b:s";
  path = Some (codes "A.b");
  slice_name = Some (codes "s");
  min = Some 1;
  max = Some (UpTo 3);
  types = record { code = codes "Reference"; profiles = codes "urn:profile" ∷ []; targets = codes "urn:target" ∷ [] } ∷ [];
  content_reference = Some (codes "#A.c");
  fixed = Some (codes "fixedCode", string (codes "f"));
  pattern = Some (codes "patternString", string (codes "p"));
  min_value = Some (codes "minValueInteger", number (codes "2"));
  max_value = Some (codes "maxValueDecimal", number (codes "4.50"));
  max_length = Some (pos 7);
  binding = Some (record { strength = Some Extensible; value_set = Some (codes "urn:set") });
  constraints = record { key = codes "k-1"; severity = Some Warning; expression = Some (codes "exists()") } ∷ [];
  slicing = Some (record { discriminators = record { by = Some Exists; path = Some (codes "url") } ∷ []; ordered = Some false; rules = Some OpenAtEnd });
}
