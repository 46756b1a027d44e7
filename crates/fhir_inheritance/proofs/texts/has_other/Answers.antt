use Rattle.std.proofs.Common.{not, is_some, map, string_bytes, ap, ◌∙◌}
use Rattle.fhir_names.specs.Places.{place_of}
use Rattle.fhir_inheritance.specs.Lists.{is_among}
use Rattle.fhir_inheritance.proofs.Listed.{placed, any-same}
use Rattle.fhir_inheritance.proofs.texts.has_other.Goals as goal

pub returns : goal.returns
returns c =
    let among = map string_bytes c.args.among.now in
    c.any_without_place.ensures
    ∙ any-same (λ t. not (is_some (place_of c.in_ok-places.places t))) (λ t. not (is_among among t))
    (λ t. ap not (placed c.in_ok-places.places among c.in_ok-places.ensures t)) (map string_bytes c.args.texts.now)
