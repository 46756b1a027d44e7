use Rattle.std.proofs.Common.{map, take}
use Rattle.fhir_audit_lines.specs.Held.{held_seen}
use Rattle.fhir_audit_lines.specs.Urls.{AreUrls}
use Rattle.fhir_audit_lines.proofs.without.urls_of.Given as goal

abbrev pub invariant-loop-file : goal.invariant-loop-file
invariant-loop-file l = AreUrls (map held_seen (take l.file-index l.files)) l.urls
