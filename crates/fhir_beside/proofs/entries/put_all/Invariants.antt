use Rattle.std.proofs.Common.{◌≡◌, ◌++◌}
use Rattle.fhir_package.specs.Definitions.{of_kind, with_kind}
use Rattle.fhir_beside.specs.Views.{entries_seen}
use Rattle.fhir_beside.proofs.entries.put_all.Given as goal

abbrev pub invariant-loop-entry : goal.invariant-loop-entry
invariant-loop-entry l =
    with_kind l.kind (of_kind l.kind l.package ++ entries_seen l.entry-iterator.rest.items) l.package
    ≡ with_kind l.kind (of_kind l.kind l.initial.package ++ entries_seen l.fn.entries.items) l.initial.package
