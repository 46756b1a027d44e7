use Rattle.std.proofs.Common.{◌≡◌, ◌++◌, drop}
use Rattle.std.specs.List.{flat_map}
use Rattle.std.specs.Option.{option_to_list}
use Rattle.fhir_cert_check.specs.Asked.{slice_pair}
use Rattle.fhir_cert_check.proofs.asked.put_elements.Given as goal

abbrev pub invariant-loop-slice : goal.invariant-loop-slice
invariant-loop-slice l =
    l.asked.items ++ flat_map (λ b. option_to_list (slice_pair l.schema l.nodes.derived l.nodes.base b)) (drop l.slice-index l.slice-items)
    ≡ l.initial.asked.items ++ flat_map (λ b. option_to_list (slice_pair l.schema l.nodes.derived l.nodes.base b)) l.slice-items
