use Rattle.std.proofs.Common.{false}
use Rattle.fhir_conformance.specs.Conformance.{constant}
use Rattle.fhir_engine.proofs.laws.verdicts_agree.Goals as goal

pub returns : goal.returns
returns c s cert t derived base is of_derived of_base conforming =
    of_base.1 (c.certificates_include.ensures s cert is (constant false) (c.fair_meanings.ensures s false) t (of_derived.0 conforming))
