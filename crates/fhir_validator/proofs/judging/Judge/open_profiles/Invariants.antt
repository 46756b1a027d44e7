use Rattle.std.proofs.Common.{take, string_bytes, ◌≡◌}
use Rattle.std.specs.List.{list_any}
use Rattle.fhir_conformance.specs.Conformance.{profile_holds}
use Rattle.fhir_validator.specs.Layouts.{item_at}
use Rattle.fhir_validator.specs.Listing.{Settles}
use Rattle.fhir_validator.proofs.judging.Judge.open_profiles.Given as goal

abbrev pub invariant-loop-profile : goal.invariant-loop-profile
invariant-loop-profile l = record {
  same : l.self ≡ l.fn.self;
  settles : Settles l.fn.self l.pair
      (λ m f. list_any (λ p. profile_holds l.fn.self.schema m f (item_at l.fn.self l.pair.item) (string_bytes p)) (take l.profile-index l.profiles)) l.fn.listing l.listing l.fn.roots.items l.roots.items;
}
