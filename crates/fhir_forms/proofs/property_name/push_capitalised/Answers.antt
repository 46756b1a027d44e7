use Rattle.std.proofs.Common.{◌≡◌, ◌++◌, string_bytes, ap, ◌∙◌, arith}
use Rattle.std.specs.Char.{encode_utf8, to_ascii_uppercase}
use Rattle.std.proofs.lemmas.List.{append_assoc}
use Rattle.fhir_forms.proofs.Capitals.{upper_first}
use Rattle.fhir_forms.proofs.property_name.push_capitalised.Goals as goal

pub returns-in_ok-push_str : goal.returns-in_ok-push_str
returns-in_ok-push_str c =
    let read : c.chars-rest.result.rest.now ≡ encode_utf8 c.in-Some.first ++ c.next.new.self.rest.now = c.in-Some.ensures.steps.0 in
    let begins : c.args.code.now ≡ encode_utf8 c.in-Some.first ++ c.as_str.result.now = grind arith in
    let value : c.to_ascii_uppercase.result ≡ to_ascii_uppercase c.in-Some.first = grind arith in
    c.in_ok-push_str.ensures.bytes ∙ ap (λ x. x ++ c.as_str.result.now) c.in_ok-push.ensures.bytes
    ∙ append_assoc (string_bytes c.args.text.now) (encode_utf8 c.to_ascii_uppercase.result) c.as_str.result.now
    ∙ ap (λ x. string_bytes c.args.text.now ++ (encode_utf8 x ++ c.as_str.result.now)) value
    ∙ ap (λ x. string_bytes c.args.text.now ++ x) (upper_first c.args.code.now c.as_str.result.now c.in-Some.first begins)
