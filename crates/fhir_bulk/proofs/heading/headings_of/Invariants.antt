use Rattle.std.proofs.Common.{◌≡◌, ◌++◌, map, drop}
use Rattle.fhir_bulk.specs.Running.{heading_seen, headings_from}
use Rattle.fhir_bulk.proofs.heading.headings_of.Given as goal

abbrev pub invariant-loop-place : goal.invariant-loop-place
invariant-loop-place g l =
    map heading_seen l.headings.items ++ headings_from l.place l.format (map (λ n. n.now) (drop l.place l.names)) (g.I.Inputs.inputs l.inputs)
    ≡ headings_from 0 l.format (map (λ n. n.now) l.names) (g.I.Inputs.inputs l.inputs)
