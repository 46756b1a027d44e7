-- What is put in of an element.
use Rattle.std.proofs.Common.{◌≡◌, ap, sym, ◌∙◌, ℕ, suc, ◌+◌, ◌<◌, List, [], ◌∷◌, ◌++◌, map, length, get_or, drop, drop-cons, add-one, append_assoc, Option}
use Rattle.fhir_elements.specs.Element.{Element}
use Rattle.fhir_nodes.specs.declared.node.NodeRef.{NodeRef}
use Rattle.fhir_schema.specs.Schemas.{SchemaValue}
use Rattle.fhir_contradictions.specs.declared.contradiction.Contradiction.{Contradiction}
use Rattle.fhir_contradictions.specs.declared.known.Known.{Known}
use Rattle.fhir_contradictions.specs.Typing.{Under}
use Rattle.fhir_contradictions.specs.Contradictions.{contradictions_at}
use Rattle.fhir_contradictions.specs.Listing.{next_known, found_at, found_from}

-- what is found of a node with what it stands under, by what these are
pub told_of : (s : SchemaValue) (under other : Option Under) (sliced one : Option NodeRef) (n m : NodeRef) (old : List (NodeRef × Contradiction))
    → under ≡ other → sliced ≡ one → n ≡ m
    → old ++ map (λ c. (n, c)) (contradictions_at s under sliced n) ≡ old ++ map (λ c. (m, c)) (contradictions_at s other one m)
told_of s under other sliced one n m old same-under same-sliced same-node =
    ap (λ u. old ++ map (λ c. (n, c)) (contradictions_at s u sliced n)) same-under
    ∙ (ap (λ o. old ++ map (λ c. (n, c)) (contradictions_at s other o n)) same-sliced
    ∙ ap (λ k. old ++ map (λ c. (k, c)) (contradictions_at s other one k)) same-node)

-- a step over the elements of a definition
module _ (s : SchemaValue) (place : ℕ) (es : List Element) (at : ℕ) (e : Element) (known next : List Known) (old new whole : List (NodeRef × Contradiction)) where
  abbrev behind_one : List (NodeRef × Contradiction)
  behind_one = found_from s place (known ++ next_known s place known at e ∷ []) (suc at) (drop (suc at) es)

  one_more : at < length es → e ≡ get_or es at e → old ++ found_from s place known at (drop at es) ≡ old ++ (found_at s place known at e ++ behind_one)
  one_more within is =
      ap (λ rest. old ++ found_from s place known at rest) (drop-cons es at e within ∙ ap (λ x. x ∷ drop (suc at) es) (sym is))

  pub step_of : at < length es → e ≡ get_or es at e → next ≡ known ++ next_known s place known at e ∷ [] → new ≡ old ++ found_at s place known at e
      → old ++ found_from s place known at (drop at es) ≡ whole
      → new ++ found_from s place next (at + 1) (drop (at + 1) es) ≡ whole
  step_of within is next-is new-is before =
      rw (add-one at, next-is, new-is, append_assoc old (found_at s place known at e) behind_one) (sym (one_more within is) ∙ before)
