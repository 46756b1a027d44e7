use Rattle.std.proofs.Common.{◌≡◌, [], ◌∷◌, map, Some, string_bytes, ap, ◌∙◌, rules, ℕ, Vec, Global}
use Rattle.std.specs.Prelude.{codes}
use Rattle.std.specs.List.{flat_map}
use Rattle.fhir_certificate.specs.Numbers.{url_text}
use Rattle.fhir_certificate.specs.Format.{line_text, pair_text, definitions_text}
use Rattle.fhir_certificate.specs.Writing.{item_line, kids_line, stated}
use Rattle.fhir_certificate.specs.Numbering.{texts_seen}
use Rattle.fhir_certificate.proofs.Whole.{whole_of, parts_joined}
use Rattle.fhir_certificate.proofs.writing.write.Goals as goal

pub returns : goal.returns
returns c =
    let s = c.args.schema.now in
    let certificate = c.args.certificate.now in
    let us = c.in_ok-numbers.numbers in
    let seen = texts_seen c.urls.result.now in
    let derived : c.deref.result.now ≡ certificate.derived = search rules in
    let base : c.deref-2.result.now ≡ certificate.base = search rules in
    let items : c.deref-3.result.now ≡ certificate.items = search rules in
    let kids : c.deref-4.result.now ≡ certificate.kids = search rules in
    parts_joined c.into_bytes.result.items (string_bytes c.new-out.result) (string_bytes c.push_str.new.self) (string_bytes c.put_definitions.new.out)
    (string_bytes c.put_profile.new.out) (string_bytes c.put_profile-2.new.out) (string_bytes c.put_items.new.out) (string_bytes c.put_kids.new.out)
    (string_bytes c.push_str-2.new.self) (codes "fhirprof-certificate 2\n") (definitions_text 0 (map (stated s) seen))
    (line_text (codes "derived") (url_text (Some us) c.deref.result.now ∷ [])) (line_text (codes "base") (url_text (Some us) c.deref-2.result.now ∷ []))
    (flat_map (pair_text (Some us)) (map (item_line s) c.deref-3.result.now)) (flat_map (pair_text (Some us)) (map (kids_line s) c.deref-4.result.now))
    (codes "end\n") (ap (λ (v : Vec ℕ Global). v.items) c.into_bytes.ensures.value) c.new-out.ensures.bytes c.in_ok-push_str.ensures.bytes c.in_ok-put_definitions.ensures
    c.in_ok-put_profile.ensures c.in_ok-put_profile-2.ensures c.in_ok-put_items.ensures c.in_ok-put_kids.ensures c.in_ok-push_str-2.ensures.bytes
    ∙ whole_of s certificate seen us c.deref.result.now c.deref-2.result.now c.deref-3.result.now c.deref-4.result.now c.in_ok-numbers.ensures c.urls.ensures
    derived base items kids
