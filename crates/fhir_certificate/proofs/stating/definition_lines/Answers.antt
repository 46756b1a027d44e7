use Rattle.std.proofs.Common.{◌≡◌, ◌+◌, ◌∷◌, ◌∙◌, map, rules}
use Rattle.fhir_certificate.specs.Reading.{lines_of, definition_lines, behind_lines}
use Rattle.fhir_certificate.specs.Views.{stated_seen}
use Rattle.fhir_certificate.proofs.Pushed.{lines_next}
use Rattle.fhir_certificate.proofs.stating.definition_lines.Goals as goal

pub loop-lines-preserved : goal.loop-lines-preserved
loop-lines-preserved c =
    let old = c.loop-lines.lines in
    let rest = c.loop-lines.rest.now in
    let d = c.in-Some.stated in
    let behind = c.in-Some.behind.now in
    let more : definition_lines c.len.result (lines_of rest) ≡ stated_seen d ∷ definition_lines (c.len.result + 1) (lines_of behind) = search rules in
    let next : behind_lines 1 rest ≡ behind = search rules in
    let lines = c.in_ok-put.ensures (map stated_seen old.stated.items) c.loop-lines.invariant.1 in
    let parts = lines_next old c.put.new.self d c.len.result c.args.text.now rest behind (c.len.ensures ∙ old.stated.ok.0) lines
    c.loop-lines.invariant.2 c.loop-lines.invariant.3 more next in
    (search rules, parts.0, parts.1, parts.2)
