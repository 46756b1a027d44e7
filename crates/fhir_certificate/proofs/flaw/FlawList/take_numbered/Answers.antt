use Rattle.std.proofs.Common.{◌≡◌, ◌&&◌, true, Some, sym, ap, ◌∙◌, rules}
use Rattle.std.specs.Prelude.{is_none}
use Rattle.std.proofs.lemmas.Result.{on_ok_weaker}
use Rattle.fhir_json.specs.Bytes.{is_empty}
use Rattle.fhir_json.specs.Sound.{differ}
use Rattle.fhir_certificate.specs.Format.{urls_of}
use Rattle.fhir_certificate.specs.Reading.{lines_of, definition_lines}
use Rattle.fhir_certificate.proofs.Naming.{loaded_are}
use Rattle.fhir_certificate.proofs.Flawed.{known_with, numbered_parts}
use Rattle.fhir_certificate.proofs.flaw.FlawList.take_numbered.Goals as goal

pub returns-clause-none : goal.returns-clause-none
returns-clause-none c = λ w e.
    let s = c.args.schema.now in
    let text = c.args.text.now in
    let rest = c.in_ok-lines.rest.now in
    let ds = c.numbered-definitions.result in
    let are = c.in_ok-lines.ensures.lines in
    let alone : is_none c.in_ok-lines.lines.repeated ≡ true = search rules in
    let apart : differ (urls_of (definition_lines 0 (lines_of text))) ≡ true = sym are.apart ∙ alone in
    let whole = numbered_parts text rest ds (c.numbered-definitions.ensures ∙ ap Some are.stated) c.in_ok-lines.ensures.behind apart in
    let old = is_empty c.args.self.now.found.items in
    let loaded = loaded_are s ds c.in_ok-lines.lines.stated.items c.deref.result.now c.numbered-definitions.ensures c.deref.ensures.value in
    let mid = c.in_ok-take_definitions.ensures.none ∙ ap (λ b. old && b) loaded in
    on_ok_weaker c.take_behind.result (λ k. known_with s ds rest w old _ _ (sym whole ∙ e) mid k) (c.take_behind.ensures.none w (sym whole ∙ e))
