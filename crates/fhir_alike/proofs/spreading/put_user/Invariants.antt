use Rattle.std.proofs.Common.{◌≡◌, drop}
use Rattle.fhir_definition.specs.Views.{lists_in}
use Rattle.fhir_alike.specs.Spreading.{users_under}
use Rattle.fhir_alike.proofs.spreading.put_user.Given as goal

abbrev pub invariant-loop-at : goal.invariant-loop-at
invariant-loop-at l =
    users_under (drop l.at-index l.leads_to) l.place (lists_in l.users.items) ≡ users_under l.leads_to l.place (lists_in l.fn.users.items)
