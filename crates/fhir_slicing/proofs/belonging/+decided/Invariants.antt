use Rattle.std.proofs.Common.{◌≡◌, length, drop, map}
use Rattle.std.specs.Prelude.{string_bytes}
use Rattle.std.specs.List.{list_any, flat_map}
use Rattle.fhir_forms.specs.CriteriaSeen.{sought_seen}
use Rattle.fhir_instance.specs.Items.{kids_in}
use Rattle.fhir_instance.specs.View.{item_of, named_in}
use Rattle.fhir_slicing.specs.Belonging.{items_at, called}
use Rattle.fhir_slicing.specs.Finding.{decides}
use Rattle.fhir_slicing.proofs.belonging.+decided.Given as goal

abbrev pub decreases-is_decided : goal.decreases-is_decided
decreases-is_decided l = length l.names.now

abbrev pub invariant-loop-kid : goal.invariant-loop-kid
invariant-loop-kid l =
    list_any (decides l.schema (sought_seen l.sought)) (flat_map (items_at (map string_bytes l.rest)) (called (string_bytes l.name) (kids_in (named_in (drop l.kid-index l.kid-items)))))
    ≡ list_any (decides l.schema (sought_seen l.sought)) (items_at (map string_bytes l.names) (item_of l.item))
