use Rattle.std.proofs.Common.{◌≡◌}
use Rattle.fhir_json.specs.Views.{tree_of}
use Rattle.fhir_gather.specs.Gathering.{gather_each, taken_each, taken_in}
use Rattle.fhir_gather.proofs.gathering.Gathering.take_tree.Given as goal

abbrev pub invariant-loop-definition : goal.invariant-loop-definition
invariant-loop-definition l =
    gather_each (taken_in l.folder l.file (tree_of l.fn.json)) l.fn.self
    ≡ gather_each (taken_each l.folder l.file l.definition-iterator.rest.items) l.self
