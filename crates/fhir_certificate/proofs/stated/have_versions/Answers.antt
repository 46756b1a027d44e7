use Rattle.std.proofs.Common.{sym, ◌∙◌}
use Rattle.fhir_certificate.specs.Judging.{has_version}
use Rattle.fhir_certificate.specs.Views.{stated_seen}
use Rattle.fhir_certificate.proofs.Naming.{one_other}
use Rattle.fhir_certificate.proofs.stated.have_versions.Goals as goal

pub returns-then-not-branch : goal.returns-then-not-branch
returns-then-not-branch c =
    one_other (has_version c.args.schema.now) stated_seen c.args.stated.now c.loop-definition.definition-index _ _ c.loop-definition-test.true
    (sym c.in_ok-has_version.ensures ∙ c.if-not-branch.true) c.loop-definition.invariant
