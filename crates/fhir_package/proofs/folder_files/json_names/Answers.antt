use Rattle.std.proofs.Common.{◌≡◌, List, ◌∷◌, true, string_bytes, sym, ap, ◌∙◌, rules}
use Rattle.std.specs.Prelude.{filter, String}
use Rattle.std.specs.declared.alloc.Global.{Global}
use Rattle.fhir_json.specs.Tree.{Text}
use Rattle.fhir_package.specs.Packing.{is_json_name, ordered_with}
use Rattle.fhir_package.proofs.Ordered.{names_taken, texts_of, texts-insert_key}
use Rattle.fhir_package.proofs.folder_files.json_names.Goals as goal

pub loop-name-preserved-in_ok-insert : goal.loop-name-preserved-in_ok-insert
loop-name-preserved-in_ok-insert c =
    let name = c.in-Some.name in
    let old = c.loop-name.ordered.keys in
    let rest = c.next.new.self.rest.items in
    let first : c.loop-name.name-iterator.rest.items ≡ name ∷ rest = search rules in
    let is : is_json_name (string_bytes name) ≡ true = search rules in
    c.loop-name.invariant
    ∙ ap (λ (ns : List (String Global)). ordered_with (texts_of old) (filter is_json_name (texts_of ns))) first
    ∙ names_taken (texts_of old) (string_bytes name) (texts_of rest) is
    ∙ ap (λ (ks : List Text). ordered_with ks (filter is_json_name (texts_of rest))) (sym (ap texts_of c.in_ok-insert.ensures.keys ∙ texts-insert_key name old))
