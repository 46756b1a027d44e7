use Rattle.std.proofs.Common.{◌≡◌, [], true, sym, ap, ◌∙◌, rules}
use Rattle.std.specs.Prelude.{codes}
use Rattle.std.specs.Str.{bytes_eq}
use Rattle.std.proofs.lemmas.Result.{on_ok_weaker}
use Rattle.fhir_json.specs.Bytes.{is_empty}
use Rattle.fhir_certificate.specs.Format.{numbering}
use Rattle.fhir_certificate.specs.Reading.{lines_of, pair_lines, pairs_at}
use Rattle.fhir_certificate.proofs.Pairs.{end_is}
use Rattle.fhir_certificate.proofs.Flawed.{format_end, known_end}
use Rattle.fhir_certificate.proofs.flaw.FlawList.take_pairs.Goals as goal

pub returns-clause-format : goal.returns-clause-format
returns-clause-format c =
    let ns = numbering c.args.definitions.now in
    let none : pair_lines ns (lines_of c.loop-pair.rest.now) ≡ [] = search rules in
    on_ok_weaker c.take_end.result
    (λ e. format_end (pairs_at ns c.args.text.now) (bytes_eq c.loop-pair.rest.now (codes "end\n")) _ _ _
    (sym c.loop-pair.invariant.1 ∙ end_is ns c.loop-pair.rest.now none) c.loop-pair.invariant.2 e)
    c.take_end.ensures.format

pub returns-clause-none : goal.returns-clause-none
returns-clause-none c = λ whole.
    let ns = numbering c.args.definitions.now in
    let none : pair_lines ns (lines_of c.loop-pair.rest.now) ≡ [] = search rules in
    let last : bytes_eq c.loop-pair.rest.now (codes "end\n") ≡ true = sym (end_is ns c.loop-pair.rest.now none) ∙ c.loop-pair.invariant.1 ∙ whole in
    on_ok_weaker c.take_end.result
    (λ e. ap is_empty e ∙ known_end c.args.schema.now (pair_lines ns (lines_of c.loop-pair.rest.now)) _ _ none c.loop-pair.invariant.3)
    (c.take_end.ensures.none last)
