use Rattle.std.proofs.Common.{◌≡◌, Some, sym, ap, ◌∙◌, subst}
use Rattle.std.specs.Map.{lookup}
use Rattle.std.specs.Str.{bytes_eq}
use Rattle.std.specs.Option.{option_copied}
use Rattle.fhir_snapshot.specs.Order.{IsThere}
use Rattle.fhir_snapshot.specs.Listing.{Decides}
use Rattle.fhir_snapshot.proofs.Ordered.{there_some}
use Rattle.fhir_snapshot.proofs.making.is_there.Goals as goal

pub returns-in-Some-clause-told : goal.returns-in-Some-clause-told
returns-in-Some-clause-told c =
    let p = c.args.sources.now in
    let name = c.as_str-2.result.now in
    let e : lookup (bytes_eq name) c.settle.new.table ≡ Some c.in-Some.node.now = sym c.get.ensures ∙ ap option_copied c.in-Some.is in
    subst (λ b. Decides b (IsThere p c.args.url.now c.args.id.now)) (sym c.is_some.ensures)
    (there_some c.one_answer.ensures.one p c.args.url.now c.args.id.now name c.settle.new.table c.in-Some.node.now (c.as_str-2.ensures.value ∙ c.in_ok-name.ensures) c.settle.ensures.holds e)
