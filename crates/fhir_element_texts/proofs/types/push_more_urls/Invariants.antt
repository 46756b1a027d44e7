use Rattle.std.proofs.Common.{◌≡◌, ◌++◌, flat_map, map, drop, codes, string_bytes}
use Rattle.fhir_element_texts.proofs.types.push_more_urls.Given as goal

abbrev pub invariant-loop-url : goal.invariant-loop-url
invariant-loop-url l =
    string_bytes l.into ++ flat_map (λ u. codes " or " ++ u) (map string_bytes (drop l.url-index l.urls))
    ≡ string_bytes l.fn.into ++ flat_map (λ u. codes " or " ++ u) (map string_bytes l.urls)
