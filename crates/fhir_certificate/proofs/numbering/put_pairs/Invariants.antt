use Rattle.std.proofs.Common.{List, take}
use Rattle.std.specs.List.{flat_map}
use Rattle.fhir_json.specs.Tree.{Text}
use Rattle.fhir_certificate.specs.Writing.{pair_urls, with_texts}
use Rattle.fhir_certificate.specs.Numbering.{AreFound}
use Rattle.fhir_certificate.proofs.numbering.put_pairs.Given as goal

abbrev pub invariant-loop-pair : goal.invariant-loop-pair
invariant-loop-pair l =
    (us : List Text) → AreFound l.initial.urls.items l.initial.places us
    → AreFound l.urls.items l.places (with_texts us (flat_map (pair_urls l.schema) (take l.pair-index l.pairs)))
