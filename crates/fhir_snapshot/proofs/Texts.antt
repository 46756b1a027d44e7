-- Lists of texts.
use Rattle.std.proofs.Common.{◌≡◌, List, [], ◌∷◌, ◌++◌, map, ap, ◌∙◌, String, string_bytes}
use Rattle.std.proofs.lemmas.List.{map-append}

pub seen_snoc : {Z : Type 0} (ss : List (String Z)) (s : String Z) (ts : List (String Z)) → ts ≡ ss ++ s ∷ [] → map string_bytes ts ≡ map string_bytes ss ++ string_bytes s ∷ []
seen_snoc ss s ts e = ap (map string_bytes) e ∙ map-append string_bytes ss (s ∷ [])
