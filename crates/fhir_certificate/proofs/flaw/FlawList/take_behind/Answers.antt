use Rattle.std.proofs.Common.{◌≡◌, Some, rules}
use Rattle.std.specs.Prelude.{codes}
use Rattle.std.proofs.lemmas.Result.{on_ok_weaker}
use Rattle.fhir_certificate.specs.Format.{numbering}
use Rattle.fhir_certificate.specs.Reading.{lines_of, pair_lines, url_line}
use Rattle.fhir_certificate.proofs.Flawed.{behind_is, behind_known}
use Rattle.fhir_certificate.proofs.flaw.FlawList.take_behind.Goals as goal

pub returns-clause-none : goal.returns-clause-none
returns-clause-none c = λ w e.
    let ds = c.args.definitions.now in
    let ns = numbering ds in
    let derived = c.in-Some.derived.now in
    let base = c.in-Some-url_line.base.now in
    let pairs = c.in-Some-url_line.rest.now in
    let first : url_line ns (codes "derived") c.args.text.now ≡ Some (derived, c.in-Some.rest.now) = search rules in
    let second : url_line ns (codes "base") c.in-Some.rest.now ≡ Some (base, pairs) = search rules in
    let t = behind_is ds c.args.text.now (derived, c.in-Some.rest.now) (base, pairs) w first second e in
    on_ok_weaker c.take_pairs.result
    (λ k. behind_known c.args.schema.now w ds derived base (pair_lines ns (lines_of pairs)) _ _ _ _ t.1 c.in_ok-take_url.ensures.none
    c.in_ok-take_url-2.ensures.none k)
    (c.take_pairs.ensures.none t.0)
