use Rattle.std.proofs.Common.{◌≡◌, drop}
use Rattle.fhir_package.specs.Keeping.{with_places, Extends}
use Rattle.fhir_package.proofs.package.Package.keep_places.Given as goal

abbrev pub invariant-loop-definition : goal.invariant-loop-definition
invariant-loop-definition l = record {
  kept : with_places l.definitions l.fn.self ≡ with_places (drop l.definition-index l.definitions) l.self;
  extended : Extends l.fn.self l.self;
}
