use Rattle.std.proofs.Common.{◌≡◌, ◌++◌, ℕ, List, flat_map, map, drop}
use Rattle.std.specs.Io.KnownBytes.{Appends}
use Rattle.fhir_bulk.specs.Running.{count_text}
use Rattle.fhir_bulk.proofs.running.write_counts.Given as goal

abbrev pub invariant-loop-name : goal.invariant-loop-name
invariant-loop-name g l =
    (written : List ℕ) × Appends (g.W.Write.contents l.fn.out) (g.W.Write.contents l.out) written
    × (written ++ flat_map count_text (map (λ c. (c.0.now, c.1)) (drop l.name-index l.counts)) ≡ flat_map count_text (map (λ c. (c.0.now, c.1)) l.counts))
