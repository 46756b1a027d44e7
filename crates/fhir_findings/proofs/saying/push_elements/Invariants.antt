use Rattle.std.proofs.Common.{◌≡◌, ◌++◌, drop}
use Rattle.std.specs.List.{flat_map}
use Rattle.fhir_json.specs.Views.{trees_of}
use Rattle.fhir_findings.specs.Sentences.{wordings_in}
use Rattle.fhir_findings.specs.Views.{wordings_seen}
use Rattle.fhir_findings.proofs.saying.push_elements.Given as goal

abbrev pub invariant-loop-element : goal.invariant-loop-element
invariant-loop-element l =
    wordings_seen l.into.items ++ flat_map wordings_in (trees_of (drop l.element-index l.elements))
    ≡ wordings_seen l.fn.into.items ++ flat_map wordings_in (trees_of l.elements)
