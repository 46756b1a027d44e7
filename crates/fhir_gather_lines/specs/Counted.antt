-- What contracts see of the counts.
use Rattle.fhir_gather.specs.declared.gathered.Gathered.{Gathered}
use Rattle.fhir_gather_lines.specs.GatherLines.{CountsValue}

abbrev pub counts_seen : Gathered → CountsValue
counts_seen g = record { folders = g.folders; files = g.files; definitions = g.definitions; kept = g.kept }
