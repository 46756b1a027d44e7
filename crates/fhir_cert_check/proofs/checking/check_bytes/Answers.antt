use Rattle.std.proofs.Common.{sym, subst, ap, ◌∙◌}
use Rattle.fhir_schema.specs.Schemas.{root}
use Rattle.fhir_cert_check.specs.Checking.{answer_of}
use Rattle.fhir_cert_check.specs.Views.{wrong_in}
use Rattle.fhir_cert_check.specs.Inclusion.{Includes}
use Rattle.fhir_cert_check.proofs.Spelled.{of_written, answer_at}
use Rattle.fhir_cert_check.proofs.checking.check_bytes.Goals as goal

pub returns-clause-first : goal.returns-clause-first
returns-clause-first c =
    let s = c.args.schema.now in
    ap (λ r. answer_of r s) c.in_ok-certificate.ensures.exact
    ∙ answer_at s c.in_ok-certificate.certificate (wrong_in c.in_ok-check.field-0) c.in_ok-certificate.ensures.fits c.in_ok-check.ensures.first

pub returns-clause-includes : goal.returns-clause-includes
returns-clause-includes c right w spells =
    let s = c.args.schema.now in
    let read = c.in_ok-certificate.ensures.found in
    let same = c.format_agrees.ensures.one c.args.bytes.now read.0 w read.1 spells in
    let of = of_written s read.0 c.in_ok-certificate.certificate read.2 in
    subst (λ v. Includes s v.derived v.base) same
    (subst (λ d. Includes s d read.0.base) (sym of.0)
    (subst (λ b. Includes s c.in_ok-certificate.certificate.derived b) (sym of.1) (c.in_ok-check.ensures.includes right)))

pub returns-clause-items : goal.returns-clause-items
returns-clause-items c right w spells n m is_n is_m =
    let s = c.args.schema.now in
    let read = c.in_ok-certificate.ensures.found in
    let same = c.format_agrees.ensures.one c.args.bytes.now read.0 w read.1 spells in
    let of = of_written s read.0 c.in_ok-certificate.certificate read.2 in
    c.in_ok-check.ensures.items right n m
    (ap (root s) (sym of.0 ∙ ap (λ v. v.derived) same) ∙ is_n)
    (ap (root s) (sym of.1 ∙ ap (λ v. v.base) same) ∙ is_m)
