use Rattle.fhir_conformance.proofs.Hanging.{rule_hangs, entry_hangs}
use Rattle.fhir_conformance.proofs.laws.hangs_on_carried.Goals as goal

pub returns-clause-rules : goal.returns-clause-rules
returns-clause-rules c s less more resource x rule n f = rule_hangs s less more resource x rule n f

pub returns-clause-entries : goal.returns-clause-entries
returns-clause-entries c s less more x e f = entry_hangs s less more x e f
