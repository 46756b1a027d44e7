use Rattle.std.proofs.Common.{take, map, string_bytes}
use Rattle.fhir_targets.specs.Base.{AreTexts}
use Rattle.fhir_targets.proofs.base.texts_of.Given as goal

abbrev pub invariant-loop-target : goal.invariant-loop-target
invariant-loop-target l = AreTexts (map string_bytes (take l.target-index l.targets)) l.texts
