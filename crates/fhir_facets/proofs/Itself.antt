-- Each facet is as narrow as itself.
use Rattle.std.proofs.Common.{◌≡◌, Bool, true, false, not, ℕ, ◌&&◌, ◌||◌, Option, Some, None, List, [], ◌∷◌, ◌++◌, IsTrue, refl, ◌∙◌, subst, append_assoc, nat_le, arith}
use Rattle.std.specs.List.{list_any, list_all}
use Rattle.std.specs.Str.{bytes_eq}
use Rattle.std.proofs.lemmas.Bool.{and_from, or_right}
use Rattle.std.proofs.lemmas.Bool.Decides.{nat_tests}
use Rattle.std.proofs.lemmas.List.Folds.{list_any-append}
use Rattle.std.proofs.lemmas.Slice.Eq.{bytes_eq-Decides}
use Rattle.fhir_json.specs.Tree.{Text}
use Rattle.fhir_elements.specs.Element.{Element}
use Rattle.fhir_elements.specs.TypeEntry.{TypeEntry}
use Rattle.fhir_elements.specs.declared.max.Max.{Max}
use Rattle.fhir_elements.specs.declared.max.Max.TheVariants.{Unbounded, UpTo}
use Rattle.fhir_schema.specs.Schemas.{SchemaValue}
use Rattle.fhir_facets.specs.Bindings.{Binding, lies_within, binding_narrower}
use Rattle.fhir_facets.specs.Cardinality.{least_of, most_narrower, cardinality_narrower}
use Rattle.fhir_facets.specs.Targets.{has_targets, covers_known, target_type, target_narrower, targets_narrower}

same : (t : Text) → bytes_eq t t ≡ true
same t = (bytes_eq-Decides t t).1 refl

either : (a b : Bool) → a ≡ true → IsTrue (a || b)
either true b h = refl
either false b h = absurd cc

at_most : (n : ℕ) → nat_le n n ≡ true
at_most n = grind (arith, nat_tests)

most : (o : Option Max) → IsTrue (most_narrower o o)
most None = refl
most (Some Unbounded) = refl
most (Some (UpTo n)) = at_most n

pub cardinality_itself : (e : Element) → IsTrue (cardinality_narrower e e)
cardinality_itself e = and_from (nat_le (least_of e) (least_of e)) (most_narrower e.max e.max) (at_most (least_of e)) (most e.max)

pub binding_itself : (b : Binding) → IsTrue (binding_narrower b b)
binding_itself b = either (bytes_eq b.canonical b.canonical) (lies_within b.concepts b.concepts) (same b.canonical)

module _ (s : SchemaValue) where
  target_itself : (t : Text) → IsTrue (target_narrower s t t)
  target_itself t = either (bytes_eq t t) (covers_known s (target_type s t) (target_type s t)) (same t)

  -- each of the last is among all
  each_among : (front ts : List Text) → IsTrue (list_all (λ t. list_any (target_narrower s t) (front ++ ts)) ts)
  each_among front [] = refl
  each_among front (t ∷ ts) =
      and_from (list_any (target_narrower s t) (front ++ t ∷ ts)) (list_all (λ u. list_any (target_narrower s u) (front ++ t ∷ ts)) ts)
      (list_any-append (target_narrower s t) front (t ∷ ts)
      ∙ or_right (list_any (target_narrower s t) front) (list_any (target_narrower s t) (t ∷ ts))
      (either (target_narrower s t t) (list_any (target_narrower s t) ts) (target_itself t)))
      (subst (λ us. IsTrue (list_all (λ u. list_any (target_narrower s u) us) ts)) (append_assoc front (t ∷ []) ts) (each_among (front ++ t ∷ []) ts))

  pub targets_itself : (e : TypeEntry) → IsTrue (targets_narrower s e e)
  targets_itself e = go (has_targets e)
    where
      go : (b : Bool) → IsTrue (not b || (b && list_all (λ t. list_any (target_narrower s t) e.targets) e.targets))
      go true = each_among [] e.targets
      go false = refl
