use Rattle.std.proofs.Common.{◌≡◌, Some, sym, ap, ◌∙◌, subst}
use Rattle.std.specs.Map.{lookup}
use Rattle.std.specs.Str.{bytes_eq}
use Rattle.std.specs.Option.{option_copied}
use Rattle.fhir_snapshot.specs.Listing.{IsFine}
use Rattle.fhir_snapshot.proofs.Ordered.{fine_there}
use Rattle.fhir_snapshot.proofs.listing.is_fine.Goals as goal

pub returns-in-Some-clause-fine : goal.returns-in-Some-clause-fine
returns-in-Some-clause-fine c =
    let e : lookup (bytes_eq c.args.name.now) c.settle.new.table ≡ Some c.in-Some.node.now = sym c.get.ensures ∙ ap option_copied c.in-Some.is in
    subst (λ b. IsFine c.args.sources.now c.args.name.now c.settle.new.table b) (sym c.fits.ensures)
    (fine_there c.one_answer.ensures.one c.args.sources.now c.settle.new.table c.args.name.now c.in-Some.node.now c.settle.ensures.holds e)
