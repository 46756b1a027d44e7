use Rattle.std.proofs.Common.{◌≡◌, drop, codes}
use Rattle.std.specs.List.{list_any}
use Rattle.std.specs.Str.{bytes_eq}
use Rattle.fhir_json.specs.Views.{trees_of}
use Rattle.fhir_json.specs.Fields.{text_at}
use Rattle.fhir_elements.proofs.type_entry.has_code.Given as goal

abbrev pub invariant-loop-item : goal.invariant-loop-item
invariant-loop-item l =
    list_any (λ u. bytes_eq l.code (text_at (codes "code") u)) (trees_of (drop l.item-index l.items))
    ≡ list_any (λ u. bytes_eq l.code (text_at (codes "code") u)) (trees_of l.items)
