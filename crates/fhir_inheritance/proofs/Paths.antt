-- Names with dots between them.
use Rattle.std.proofs.Common.{◌≡◌, ℕ, List, [], ◌∷◌, ◌++◌, ap, sym}
use Rattle.std.specs.List.{flat_map}
use Rattle.std.proofs.lemmas.List.{append-nil}
use Rattle.fhir_json.specs.Bytes.{dot}
use Rattle.fhir_names.specs.Segments.{SegmentParts}
use Rattle.fhir_inheritance.specs.Keys.{names_joined}

-- the first name, and each other one behind a dot
pub joined-on : (s : SegmentParts) (ss : List SegmentParts) → names_joined (s ∷ ss) ≡ s.0 ++ flat_map (λ (s : SegmentParts). dot ∷ s.0) ss
joined-on s [] = sym (append-nil s.0)
joined-on s (t ∷ ss) = ap (λ (l : List ℕ). s.0 ++ (dot ∷ l)) (joined-on t ss)
