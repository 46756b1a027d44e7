-- The numbers of the reasons for which a definition can't be used.
use Rattle.std.specs.Prelude.{codes}
use Rattle.fhir_json.specs.Tree.{Text}
use Rattle.fhir_elements.specs.declared.reason.Reason.{Reason}
use Rattle.fhir_elements.specs.declared.reason.Reason.TheVariants.{WrongField, MinOverMax, RepeatedType, WrongId, UnusableType, NoTree, MissingContent, BaseCycle, UnsupportedSlicing, NoSnapshot, SecondType}

-- the number that is printed
abbrev pub reason_number : Reason → Text
reason_number WrongField = codes "U1"
reason_number MinOverMax = codes "U2"
reason_number RepeatedType = codes "U3"
reason_number WrongId = codes "U4"
reason_number UnusableType = codes "U5"
reason_number NoTree = codes "U6"
reason_number MissingContent = codes "U7"
reason_number BaseCycle = codes "U8"
reason_number UnsupportedSlicing = codes "U9"
reason_number NoSnapshot = codes "U10"
reason_number SecondType = codes "U11"
