use Rattle.std.proofs.Common.{◌≡◌, [], sym, ◌∙◌, inr, rules}
use Rattle.fhir_certificate.specs.Format.{numbering}
use Rattle.fhir_certificate.specs.Reading.{lines_of, pair_lines}
use Rattle.fhir_certificate.proofs.Pairs.{pairs_told, end_is}
use Rattle.fhir_certificate.proofs.lines.read_lines.Goals as goal

pub returns-then-eq-clause-whole : goal.returns-then-eq-clause-whole
returns-then-eq-clause-whole c =
    let ns = numbering c.args.definitions.now in
    let none : pair_lines ns (lines_of c.loop-line.rest.now) ≡ [] = search rules in
    pairs_told ns c.args.text.now _ (sym c.loop-line.invariant.1 ∙ end_is ns c.loop-line.rest.now none ∙ sym c.if-eq.ensures)

pub returns-else-eq-clause-refused : goal.returns-else-eq-clause-refused
returns-else-eq-clause-refused c =
    let ns = numbering c.args.definitions.now in
    let none : pair_lines ns (lines_of c.loop-line.rest.now) ≡ [] = search rules in
    inr (search rules, pairs_told ns c.args.text.now _ (sym c.loop-line.invariant.1 ∙ end_is ns c.loop-line.rest.now none ∙ sym c.if-eq.ensures))
