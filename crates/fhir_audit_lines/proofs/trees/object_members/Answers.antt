use Rattle.std.proofs.Common.{map, rules}
use Rattle.fhir_json.specs.Views.{property_of}
use Rattle.fhir_audit_lines.proofs.trees.object_members.Goals as goal

pub returns : goal.returns
returns c = (map property_of c.in_ok-further.further.items, search rules)
