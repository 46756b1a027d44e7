use Rattle.std.proofs.Common.{◌≡◌, map}
use Rattle.fhir_json.specs.Views.{tree_of}
use Rattle.fhir_snapshot.specs.Planning.{put_trees}
use Rattle.fhir_snapshot.proofs.completing.put_trees.Given as goal

abbrev pub invariant-loop-place : goal.invariant-loop-place
invariant-loop-place l =
    put_trees (map (λ t. (t.0, tree_of t.1)) l.fn.trees.items) l.fn.«package» ≡ put_trees (map (λ t. (t.0, tree_of t.1)) l.place-iterator.rest.items) l.«package»
