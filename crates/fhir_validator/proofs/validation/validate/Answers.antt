use Rattle.std.proofs.Common.{◌↔◌, IsTrue, sym, ◌∙◌, subst}
use Rattle.std.proofs.lemmas.Bool.{false≢true}
use Rattle.fhir_facets.specs.Unread.{as_given, is_given}
use Rattle.fhir_conformance.specs.Conformance.{as_read, Conforms}
use Rattle.fhir_validator.specs.Needed.{ConstraintsHoldAsGiven}
use Rattle.fhir_validator.specs.Verdicts.{conforms_as_given, IsVouchedFor}
use Rattle.fhir_validator.proofs.Needing.{none_given}
use Rattle.fhir_validator.proofs.validation.validate.Goals as goal

pub returns-clause-conforms : goal.returns-clause-conforms
returns-clause-conforms c = λ t reads.
    let s = c.args.schema.now in
    let profile = c.args.profile.now in
    let same = c.verdict_of.ensures.conforms in
    let said = subst (λ texts. IsTrue (conforms_as_given c.in_ok-vouched.vouched) ↔ Conforms s (as_read texts as_given) profile t) c.none.ensures
    (c.in_ok-vouched.ensures.conforms t reads) in
    (λ h. said.0 (sym same ∙ h), λ h. same ∙ said.1 h)

pub returns-clause-always : goal.returns-clause-always
returns-clause-always c = λ t reads h meaning.
    c.in_ok-vouched.ensures.always t reads (sym c.verdict_of.ensures.conforms ∙ h) meaning
    (λ u o p given. absurd (false≢true (subst (λ texts. IsTrue (is_given texts u)) c.none.ensures given)))

pub returns-clause-constraints : goal.returns-clause-constraints
returns-clause-constraints c = λ t reads h.
    let s = c.args.schema.now in
    let profile = c.args.profile.now in
    none_given s profile t
    (subst (λ texts. ConstraintsHoldAsGiven s texts profile t) c.none.ensures
    (c.in_ok-vouched.ensures.constraints t reads (sym c.verdict_of.ensures.conforms ∙ h)))

pub returns-clause-violates : goal.returns-clause-violates
returns-clause-violates c = λ t reads.
    let same = c.verdict_of.ensures.violates in
    let said = c.in_ok-vouched.ensures.violates t reads in
    (λ h. said.0 (sym same ∙ h), λ h. same ∙ said.1 h)

pub returns-clause-never : goal.returns-clause-never
returns-clause-never c = λ t reads h. c.in_ok-vouched.ensures.never t reads (sym c.verdict_of.ensures.violates ∙ h)

pub returns-clause-explained : goal.returns-clause-explained
returns-clause-explained c = λ t reads.
    let s = c.args.schema.now in
    let profile = c.args.profile.now in
    c.verdict_of.ensures.explained s profile t
    (subst (λ texts. IsVouchedFor s texts profile t c.in_ok-vouched.vouched) c.none.ensures (c.in_ok-vouched.ensures.explained t reads))
