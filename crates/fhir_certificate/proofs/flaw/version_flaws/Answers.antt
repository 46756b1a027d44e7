use Rattle.std.proofs.Common.{sym, ap, ◌∙◌}
use Rattle.std.proofs.lemmas.Bool.{false≢true}
use Rattle.fhir_certificate.specs.Reading.{reading}
use Rattle.fhir_certificate.specs.Flaws.{fault_of_lines, is_other}
use Rattle.fhir_certificate.proofs.Flawed.{other_told, other_none}
use Rattle.fhir_certificate.proofs.flaw.version_flaws.Goals as goal

pub returns-then-branch-clause-other : goal.returns-then-branch-clause-other
returns-then-branch-clause-other c =
    other_told (λ flaws. flaws.items) c.stated_flaws.result c.args.schema.now c.args.bytes.now c.args.text.now (sym c.requires)
    (sym c.in_ok-has_other.ensures ∙ c.if-branch.true) c.stated_flaws.ensures

pub returns-then-branch-clause-none : goal.returns-then-branch-clause-none
returns-then-branch-clause-none c =
    other_none (λ flaws. flaws.items) c.stated_flaws.result (fault_of_lines (reading c.args.schema.now c.args.bytes.now))
    (sym c.in_ok-has_other.ensures ∙ c.if-branch.true)

pub returns-else-branch-clause-other : goal.returns-else-branch-clause-other
returns-else-branch-clause-other c = λ e. absurd (false≢true (sym c.if-branch.false ∙ c.in_ok-has_other.ensures ∙ ap is_other e))
