use Rattle.std.proofs.Common.{◌≡◌, drop}
use Rattle.std.specs.List.{list_any}
use Rattle.fhir_json.specs.Views.{trees_of}
use Rattle.fhir_facets.specs.Bindings.{has_coding}
use Rattle.fhir_facets.proofs.lookup.some_coding_is_in.Given as goal

abbrev pub invariant-loop-coding : goal.invariant-loop-coding
invariant-loop-coding l =
    list_any (has_coding l.set) (trees_of (drop l.coding-index l.codings))
    ≡ list_any (has_coding l.set) (trees_of l.codings)
