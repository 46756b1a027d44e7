use Rattle.std.proofs.Common.{List, ap, ap₂, ◌∙◌}
use Rattle.std.specs.Prelude.{codes, map}
use Rattle.std.specs.List.{flat_map}
use Rattle.fhir_json.specs.Tree.{Text, Tree}
use Rattle.fhir_json.specs.Views.{tree_of}
use Rattle.fhir_json.specs.Fields.{text_at, texts_in, text_or_empty}
use Rattle.fhir_reach.specs.Keys.{KeyValue, of_code, with_key, with_keys}
use Rattle.fhir_reach.specs.Naming.{canonical_keys}
use Rattle.fhir_reach.proofs.Adding.{both_added}
use Rattle.fhir_reach.proofs.naming.add_type.Goals as goal

pub returns : goal.returns
returns c =
    let t = tree_of c.args.entry.now in
    both_added c.add_canonicals-2.result (with_key c.args.found.now (of_code (text_at (codes "code") t))) c.add_canonicals.new.found c.add_canonicals-2.new.found
    (flat_map canonical_keys (texts_in (codes "profile") t)) (flat_map canonical_keys (texts_in (codes "targetProfile") t))
    (c.in_ok-add_canonicals.ensures
    ∙ ap₂ (λ (found : List KeyValue) (ts : List Tree). with_keys found (flat_map canonical_keys (map text_or_empty ts)))
    (c.in_ok-add_code.ensures ∙ ap (λ (code : Text). with_key c.args.found.now (of_code code)) c.text_at.ensures) c.items_in.ensures)
    (rw (← c.items_in-2.ensures) c.add_canonicals-2.ensures)
