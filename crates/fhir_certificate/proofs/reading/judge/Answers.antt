use Rattle.std.proofs.Common.{sym, ◌∙◌}
use Rattle.std.proofs.lemmas.Bool.{not-true, not-false}
use Rattle.fhir_certificate.specs.Heads.{written_with}
use Rattle.fhir_certificate.proofs.Judging.{lines_unknown, lines_over, lines_certificate, lines_other}
use Rattle.fhir_certificate.proofs.reading.judge.Goals as goal

pub returns-then-not-so_far : goal.returns-then-not-so_far
returns-then-not-so_far c = λ lines h.
    lines_unknown c.args.schema.now (written_with c.args.head.now lines) c.args.so_far h (not-true _ c.if-not-so_far.true)

pub returns-then-so_far-gt-MAX_PAIRS : goal.returns-then-so_far-gt-MAX_PAIRS
returns-then-so_far-gt-MAX_PAIRS c = λ lines h.
    lines_over c.args.schema.now (written_with c.args.head.now lines) c.args.so_far h (not-false _ c.if-not-so_far.false) c.if-so_far-gt-MAX_PAIRS.true

pub returns-then-branch : goal.returns-then-branch
returns-then-branch c = λ lines h.
    lines_certificate c.args.schema.now (written_with c.args.head.now lines) c.args.so_far h c.certificate_with.result
    (not-false _ c.if-not-so_far.false) c.if-so_far-gt-MAX_PAIRS.false (sym c.in_ok-have_versions.ensures ∙ c.if-branch.true) c.certificate_with.ensures

pub returns-else-branch : goal.returns-else-branch
returns-else-branch c = λ lines h.
    lines_other c.args.schema.now (written_with c.args.head.now lines) c.args.so_far h
    (not-false _ c.if-not-so_far.false) c.if-so_far-gt-MAX_PAIRS.false (sym c.in_ok-have_versions.ensures ∙ c.if-branch.false)
