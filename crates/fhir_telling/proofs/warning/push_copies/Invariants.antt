use Rattle.std.proofs.Common.{◌≡◌, ◌++◌, drop}
use Rattle.fhir_json.specs.Views.{trees_of}
use Rattle.fhir_telling.proofs.warning.push_copies.Given as goal

abbrev pub invariant-loop-issue : goal.invariant-loop-issue
invariant-loop-issue l = trees_of l.into.items ++ trees_of (drop l.issue-index l.issues) ≡ trees_of l.initial.into.items ++ trees_of l.issues
