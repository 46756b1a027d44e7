use Rattle.std.proofs.Common.{◌≡◌, true, ◌⊎◌, subst}
use Rattle.std.specs.BTreeSet.{contains}
use Rattle.fhir_validator.specs.contracts.pair.ItemPairOrd.TheImpl.{cmp-value}
use Rattle.fhir_validator.specs.Listing.{ListingValue}
use Rattle.fhir_validator.proofs.Explained.{marks_put}
use Rattle.fhir_validator.proofs.listing.Listing.mark.Goals as goal

pub returns-clause-marks : goal.returns-clause-marks
returns-clause-marks c = λ p is.
    subst (λ (l : ListingValue). (p ≡ c.args.pair) ⊎ (contains cmp-value.it l.marks p ≡ true)) c.self.view_is
    (marks_put c.self.inside.marks c.insert.new.self c.args.pair c.in_ok-insert.ensures.updates p is)
