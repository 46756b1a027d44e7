use Rattle.std.proofs.Common.{◌≡◌, ℕ, List, None, map, string_bytes, ap, subst, ◌∙◌}
use Rattle.std.specs.Prelude.{IfOk}
use Rattle.std.specs.List.{flat_map, list_any}
use Rattle.std.specs.Str.{bytes_eq}
use Rattle.fhir_json.specs.Tree.{Text}
use Rattle.fhir_vouching.specs.Given.{line_seen}
use Rattle.fhir_unread.specs.Given.{note}
use Rattle.fhir_unread.specs.Unread.{unread_texts}
use Rattle.fhir_unread.proofs.Known.{same_unknown}
use Rattle.fhir_unread.proofs.vouching.given_in.Goals as goal

pub returns-clause-told : goal.returns-clause-told
returns-clause-told c =
    let texts : List Text = unread_texts None c.args.schema.now c.args.survey.now in
    subst (λ (ns : List ℕ). IfOk c.given_by.result (λ g. string_bytes g.notes ≡ flat_map (note c.args.name.now) ns))
    (same_unknown c.of-known.result texts (λ t. c.of-known.ensures t ∙ ap (list_any (bytes_eq t)) (c.in_ok-carried.ensures ∙ ap (λ s. unread_texts s c.args.schema.now c.args.survey.now) c.all-all.ensures))
    (map line_seen c.args.lines.items))
    c.given_by.ensures.told
