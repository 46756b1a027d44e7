use Rattle.std.proofs.Common.{drop}
use Rattle.fhir_json.specs.Compact.{escape_text}
use Rattle.fhir_vouching.specs.declared.progress.Progress.{Progress}
use Rattle.fhir_vouching.specs.Progress.{Adds}
use Rattle.fhir_vouching.proofs.progress.Progress.then_text.Given as goal

abbrev pub invariant-loop-byte : goal.invariant-loop-byte
invariant-loop-byte l =
    (end : Progress) → Adds l.progress (escape_text (drop l.byte-index l.byte-items)) end → Adds l.initial.progress (escape_text l.byte-items) end
