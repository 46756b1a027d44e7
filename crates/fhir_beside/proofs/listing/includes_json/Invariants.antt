use Rattle.std.proofs.Common.{◌≡◌, map, take}
use Rattle.fhir_json.specs.Views.{trees_of}
use Rattle.fhir_beside.specs.Listing.{include_of}
use Rattle.fhir_beside.proofs.listing.includes_json.Given as goal

abbrev pub invariant-loop-concept : goal.invariant-loop-concept
invariant-loop-concept l = trees_of l.includes.items ≡ map include_of (take l.concept-index l.concepts)
