use Rattle.std.proofs.Common.{◌≡◌, ◌++◌, drop, string_bytes}
use Rattle.std.specs.List.{flat_map}
use Rattle.fhir_unread.specs.Listing.{comment, saying_text}
use Rattle.fhir_unread.specs.Seen.{sayings_seen}
use Rattle.fhir_unread.proofs.listing.push_sayings.Given as goal

abbrev pub invariant-loop-saying : goal.invariant-loop-saying
invariant-loop-saying l =
    string_bytes l.into ++ flat_map (λ y. comment (saying_text y)) (sayings_seen (drop l.saying-index l.sayings))
    ≡ string_bytes l.fn.into ++ flat_map (λ y. comment (saying_text y)) (sayings_seen l.sayings)
