use Rattle.std.proofs.Common.{◌≡◌, true}
use Rattle.fhir_package.specs.Changing.{put_each}
use Rattle.fhir_package.specs.Keeping.{have_places}
use Rattle.fhir_package.proofs.package.Package.set_each.Given as goal

abbrev pub invariant-loop-definition : goal.invariant-loop-definition
invariant-loop-definition l =
    have_places l.fn.definitions.items l.fn.self ≡ true
    → (have_places l.definition-iterator.rest.items l.self ≡ true)
    × (put_each l.fn.definitions.items l.fn.self ≡ put_each l.definition-iterator.rest.items l.self)
