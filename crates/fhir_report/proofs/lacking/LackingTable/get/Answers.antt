use Rattle.std.proofs.Common.{ap, sym, ◌∙◌}
use Rattle.std.specs.List.{slice_get}
use Rattle.std.specs.Map.{lookup}
use Rattle.std.specs.Option.{option_map, option_and_then}
use Rattle.std.specs.Str.{bytes_eq}
use Rattle.fhir_report.specs.Lacking.{lacking_seen}
use Rattle.fhir_report.proofs.Placing.{value_at, lookup-at}
use Rattle.fhir_report.proofs.lacking.LackingTable.get.Goals as goal

pub returns-in-Some : goal.returns-in-Some
returns-in-Some c =
    let fs = lacking_seen c.self.inside.faults.items in
    c.fault_at.ensures
    ∙ ap (λ xs. option_map (λ e. e.1) (slice_get (lacking_seen xs) c.in-Some.place)) c.deref.ensures.value
    ∙ ap (option_and_then (value_at fs)) (sym c.in-Some.is ∙ c.get.ensures ∙ c.self.invariant c.args.url.now)
    ∙ sym (lookup-at fs c.args.url.now)
    ∙ ap (λ xs. lookup (bytes_eq c.args.url.now) xs) c.self.view_is

pub returns-in-None : goal.returns-in-None
returns-in-None c =
    let fs = lacking_seen c.self.inside.faults.items in
    ap (option_and_then (value_at fs)) (sym c.in-None.is ∙ c.get.ensures ∙ c.self.invariant c.args.url.now)
    ∙ sym (lookup-at fs c.args.url.now)
    ∙ ap (λ xs. lookup (bytes_eq c.args.url.now) xs) c.self.view_is
