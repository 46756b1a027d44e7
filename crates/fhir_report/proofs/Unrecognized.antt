-- The lines on members that R4 doesn't have, one definition more.
use Rattle.std.proofs.Common.{◌≡◌, ℕ, zero, suc, ◌<◌, ◌+◌, List, [], ◌∷◌, ◌++◌, length, drop, Some, refl, ap, sym, ◌∙◌, arith, append_assoc, add-one}
use Rattle.std.specs.Option.{option_map_or}
use Rattle.std.specs.List.{slice_get}
use Rattle.fhir_json.specs.Tree.{Text, Tree}
use Rattle.fhir_package.specs.declared.kind.Kind.{Kind}
use Rattle.fhir_package.specs.Surveying.{Surveyed}
use Rattle.fhir_findings.specs.Selecting.{SelectionValue}
use Rattle.fhir_lines.specs.Lines.{LineValue}
use Rattle.fhir_report.specs.UnrecognizedLines.{lines_at, lines_from}

-- the element at a place, and those behind it
rest_at : {A : Type 0} (xs : List A) (i : ℕ) → i < length xs → (x : A) × (slice_get xs i ≡ Some x) × (drop i xs ≡ x ∷ drop (i + 1) xs)
rest_at [] i h = absurd (omega arith)
rest_at (x ∷ xs) zero h = (x, refl, refl)
rest_at (x ∷ xs) (suc i) h =
    let r = rest_at xs i (omega arith) in
    let next : suc i + 1 ≡ suc (i + 1) = omega arith in
    (r.0, r.1, r.2 ∙ ap (λ n. r.0 ∷ drop n (x ∷ xs)) (sym next))

module _ (selection : SelectionValue) (survey : Surveyed) (kind : Kind) where
  pub next_lines : (ds : List (Text × Tree)) (i : ℕ) (acc next all : List LineValue) → i < length ds → acc ++ lines_from selection survey kind i (drop i ds) ≡ all
      → next ≡ acc ++ option_map_or (lines_at selection survey kind i) (slice_get ds i) []
      → next ++ lines_from selection survey kind (i + 1) (drop (i + 1) ds) ≡ all
  next_lines ds i acc next all h was now =
      let r = rest_at ds i h in
      let rest : List (Text × Tree) = drop (i + 1) ds in
      let here : List LineValue = lines_at selection survey kind i r.0 in
      let put : next ≡ acc ++ here = now ∙ ap (λ o. acc ++ option_map_or (lines_at selection survey kind i) o []) r.1 in
      ap (λ ls. ls ++ lines_from selection survey kind (i + 1) rest) put
      ∙ ap (λ k. (acc ++ here) ++ lines_from selection survey kind k rest) (add-one i)
      ∙ append_assoc acc here (lines_from selection survey kind (suc i) rest)
      ∙ ap (λ ds. acc ++ lines_from selection survey kind i ds) (sym r.2)
      ∙ was
