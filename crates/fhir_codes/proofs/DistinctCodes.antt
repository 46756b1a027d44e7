-- Codes in order, each once.
use Rattle.std.proofs.Common.{◌≡◌, List, map, Bool, true, sym, ap, ◌∙◌}
use Rattle.std.specs.List.{list_any, dedup}
use Rattle.std.specs.List.Sorted.{IsPermutation}
use Rattle.std.proofs.lemmas.List.Sorted.{list_any-IsPermutation}
use Rattle.fhir_json.specs.Tree.{Text}
use Rattle.fhir_codes.specs.Concepts.{concept, of_system}
use Rattle.fhir_codes.proofs.Members.{same, list_set}
use Rattle.fhir_codes.proofs.SameSets.{any_map, any_dedup}

-- they are the same concepts of a system
module _ {A : Type 0} (code : A → Text) (equal : A → A → Bool) (is_equal : (x y : A) → equal x y ≡ true → code x ≡ code y) where
  pub distinct_same : (system : Text) (cs sorted kept : List A) → IsPermutation cs sorted → kept ≡ dedup equal sorted → of_system system (map code kept) ≡ of_system system (map code cs)
  distinct_same system cs sorted kept permuted is =
      list_set (map (concept system) (map code kept)) (map (concept system) (map code cs)) (λ c.
      let test : A → Bool = λ x. same c (concept system (code x)) in
      any_map (same c) (concept system) (map code kept)
      ∙ any_map (λ t. same c (concept system t)) code kept
      ∙ ap (list_any test) is
      ∙ any_dedup equal test (λ x y e. ap (λ t. same c (concept system t)) (is_equal x y e)) sorted
      ∙ sym (list_any-IsPermutation test cs sorted permuted)
      ∙ sym (any_map (λ t. same c (concept system t)) code cs)
      ∙ sym (any_map (same c) (concept system) (map code cs)))
