use Rattle.std.proofs.Common.{◌≡◌, not, map, drop}
use Rattle.std.specs.List.{list_any}
use Rattle.fhir_json.specs.Fields.{text_or_empty}
use Rattle.fhir_json.specs.Views.{trees_of}
use Rattle.fhir_package.specs.declared.kind.Kind.TheVariants.{ValueSet}
use Rattle.fhir_alike.specs.Naming.{name_stays}
use Rattle.fhir_alike.proofs.value_sets.name_differs.Given as goal

abbrev pub invariant-loop-name : goal.invariant-loop-name
invariant-loop-name l =
    list_any (λ canonical. not (name_stays ValueSet l.both.old.now l.both.new.now canonical)) (map text_or_empty (trees_of (drop l.name-index l.name-items)))
    ≡ list_any (λ canonical. not (name_stays ValueSet l.both.old.now l.both.new.now canonical)) (map text_or_empty (trees_of l.name-items))
