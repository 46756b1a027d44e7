use Rattle.std.proofs.Common.{◌≡◌, ◌++◌, map, drop}
use Rattle.fhir_json.specs.Views.{trees_of}
use Rattle.fhir_findings.specs.Sentences.{wording_of}
use Rattle.fhir_findings.specs.Views.{wordings_seen}
use Rattle.fhir_findings.proofs.saying.push_constraints.Given as goal

abbrev pub invariant-loop-constraint : goal.invariant-loop-constraint
invariant-loop-constraint l =
    wordings_seen l.into.items ++ map wording_of (trees_of (drop l.constraint-index l.constraints))
    ≡ wordings_seen l.fn.into.items ++ map wording_of (trees_of l.constraints)
