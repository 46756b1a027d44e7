use Rattle.std.proofs.Common.{◌≡◌, true, false, sym, ap, subst, ◌∙◌}
use Rattle.std.specs.Prelude.{IsUtf8, is_none}
use Rattle.fhir_json.specs.Bytes.{is_empty}
use Rattle.fhir_json.specs.Tree.{Text}
use Rattle.fhir_certificate.specs.Reading.{written_of}
use Rattle.fhir_certificate.specs.Flaws.{any_of_format}
use Rattle.fhir_certificate.proofs.Flawed.{versions_told, flaws_of_text, empty_len}
use Rattle.fhir_certificate.proofs.flaw.text_flaws.Goals as goal

pub returns-then-is_empty : goal.returns-then-is_empty
returns-then-is_empty c =
    let bytes = c.args.bytes.now in
    let found = c.take_text.new.self.found in
    let t : IsUtf8 c.args.text.now = c.utf8.text in
    let u : IsUtf8 bytes = subst IsUtf8 (sym c.requires) t in
    let empty : is_empty found.items ≡ true = sym (empty_len found.items found.len true found.ok.0 c.if-is_empty.ensures) in
    let told = c.in_ok-take_text.ensures in
    let format : any_of_format found.items ≡ is_none (written_of bytes) = told.format ∙ ap (λ (t : Text). is_none (written_of t)) (sym c.requires) in
    versions_told (λ flaws. flaws.items) c.version_flaws.result c.args.schema.now bytes found.items u empty format
    (λ w e. told.none w (ap written_of (sym c.requires) ∙ e)) c.version_flaws.ensures.other c.version_flaws.ensures.none

pub returns : goal.returns
returns c =
    let bytes = c.args.bytes.now in
    let found = c.take_text.new.self.found in
    let t : IsUtf8 c.args.text.now = c.utf8.text in
    let u : IsUtf8 bytes = subst IsUtf8 (sym c.requires) t in
    let some : is_empty found.items ≡ false = sym (empty_len found.items found.len false found.ok.0 c.if-is_empty.ensures) in
    let told = c.in_ok-take_text.ensures in
    let format : any_of_format found.items ≡ is_none (written_of bytes) = told.format ∙ ap (λ (t : Text). is_none (written_of t)) (sym c.requires) in
    flaws_of_text c.args.schema.now bytes found.items u c.take_text.new.self.no_versions some format
    (λ w e. told.none w (ap written_of (sym c.requires) ∙ e))
