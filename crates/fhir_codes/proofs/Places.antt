-- The place of the value set that a canonical names leads to it.
use Rattle.std.proofs.Common.{◌≡◌, Bool, true, false, if◌then◌else◌, Option, None, Some, refl, sym, ◌∙◌}
use Rattle.std.specs.Option.{option_map_or, option_and_then}
use Rattle.std.specs.Map.{lookup}
use Rattle.std.specs.Result.{result_ok}
use Rattle.std.specs.Str.{bytes_eq}
use Rattle.fhir_json.specs.Tree.{Text, Tree}
use Rattle.fhir_names.specs.FirstPlaces.{value_at_first}
use Rattle.fhir_names.specs.Canonicals.{CanonicalParts, read_canonical}
use Rattle.fhir_package.specs.declared.kind.Kind.TheVariants.{ValueSet}
use Rattle.fhir_package.specs.Definitions.{Definitions}
use Rattle.fhir_package.specs.Canonical.{is_of_version, at_version, named_by}
use Rattle.fhir_codes.specs.Placing.{place_at, place_named, tree_at}

no_one : {A C : Type 0} (x : A) → None ≡ Some x → C
no_one x e = absurd (let bad : None ≡ Some x = e in cc)

-- what is found and then judged stands where it was found
judged_at : {A B : Type 0} (T : B → Option A) (P : Option B) (L W : Option A) → ((t : A) → W ≡ Some t → L ≡ Some t) → option_and_then T P ≡ L → W ≡ option_and_then T (option_and_then (λ (_ : A). P) W)
judged_at T P L None h e = refl
judged_at T P L (Some t) h e = sym (e ∙ h t refl)

passed : {A : Type 0} (b : Bool) (x t : A) → (if b then Some x else None) ≡ Some t → Some x ≡ Some t
passed true x t e = e
passed false x t e = no_one t e

passed_one : {A : Type 0} (c : A → Bool) (L : Option A) (t : A) → option_and_then (λ x. if c x then Some x else None) L ≡ Some t → L ≡ Some t
passed_one c None t e = e
passed_one c (Some x) t e = passed (c x) x t e

named_at : (p : Definitions) (rc : Option CanonicalParts)
    → option_and_then (at_version ValueSet p) rc
    ≡ option_and_then (tree_at p) (option_and_then (λ (_ : Tree). option_and_then (λ r. place_at p r.0) rc) (option_and_then (at_version ValueSet p) rc))
named_at p None = refl
named_at p (Some r) =
    judged_at (tree_at p) (place_at p r.0) (lookup (bytes_eq r.0) p.value_sets) (at_version ValueSet p r)
    (passed_one (λ t. option_map_or (λ v. is_of_version v t) r.1 true) (lookup (bytes_eq r.0) p.value_sets))
    (value_at_first p.value_sets r.0)

pub named_tree : (p : Definitions) (canonical : Text) → named_by ValueSet canonical p ≡ option_and_then (tree_at p) (place_named p canonical)
named_tree p canonical = named_at p (result_ok (read_canonical canonical))
