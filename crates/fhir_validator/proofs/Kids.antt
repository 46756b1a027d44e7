-- What is true of a child's number.
use Rattle.std.proofs.Common.{◌≡◌, ◌<◌, ◌≤◌, ◌+◌, ℕ, List, length, get_or, sym, ap, ◌∙◌, subst, arith, Some, None}
use Rattle.fhir_json.specs.Tree.{Text}
use Rattle.fhir_schema.specs.Schemas.{SchemaValue}
use Rattle.fhir_instance.specs.Items.{kids_of, kids_in}
use Rattle.fhir_instance.specs.View.{named_in}
use Rattle.fhir_instance.specs.declared.typed.Kid.{Kid as Child}
use Rattle.fhir_conformance.specs.Positions.{kid_at}
use Rattle.fhir_conformance.specs.Conformance.{nearest_to}
use Rattle.fhir_validator.specs.declared.layout.Stand.{Stand}
use Rattle.fhir_validator.specs.Layouts.{LayoutValue, laid_out, numbered, place_in_row, item_at, resource_of, kids_at, IsLaid}
use Rattle.fhir_validator.proofs.Rows.{count_of, kid_found, kid_missed}

pub record IsKidOf (layout : LayoutValue) (number position kid : ℕ) : Type 0 where
  pub there : Some (item_at layout kid) ≡ kid_at (kids_of (item_at layout number)) position
  pub near : resource_of layout kid ≡ nearest_to layout.schema (resource_of layout number) (item_at layout kid)
  pub behind : place_in_row layout number < place_in_row layout kid
  pub within : place_in_row layout kid < length layout.spots

module _ (s : SchemaValue) (given : List Text) (stands : List Stand) (firsts : List ℕ) (laid : IsLaid s stands firsts) (ks : List Child) (number i : ℕ) where
  counted : i ≡ place_in_row (laid_out s given stands) number → kids_in (named_in ks) ≡ kids_of (item_at (laid_out s given stands) number)
      → length (kids_at s (laid_out s given stands).spots i) ≡ length ks
  counted at e =
      count_of s (numbered (laid_out s given stands).spots i).resource ks (numbered (laid_out s given stands).spots i).itself
      (e ∙ ap (λ j. kids_of (numbered (laid_out s given stands).spots j).itself) (sym at))

  found_in : (position first : ℕ) → i ≡ place_in_row (laid_out s given stands) number → kids_in (named_in ks) ≡ kids_of (item_at (laid_out s given stands) number)
      → first ≡ get_or firsts i first → position < length ks → IsKidOf (laid_out s given stands) number position (first + position)
  found_in position first at e is h =
      let kid = kid_found s given stands firsts laid number i at position first is (omega (arith, counted at e, h)) in
      record { there = kid.there; near = kid.near; behind = kid.behind; within = kid.within }

  pub is_kid : (layout : LayoutValue) → laid_out s given stands ≡ layout → (position first : ℕ) → i ≡ place_in_row layout number
      → kids_in (named_in ks) ≡ kids_of (item_at layout number) → first ≡ get_or firsts i first → position < length ks
      → IsKidOf layout number position (first + position)
  is_kid layout same position first at e is h =
      subst (λ l. IsKidOf l number position (first + position)) same
      (found_in position first (at ∙ ap (λ l. place_in_row l number) (sym same)) (e ∙ ap (λ l. kids_of (item_at l number)) (sym same)) is h)

  pub is_none : (layout : LayoutValue) → laid_out s given stands ≡ layout → (position : ℕ) → i ≡ place_in_row layout number
      → kids_in (named_in ks) ≡ kids_of (item_at layout number) → length ks ≤ position → None ≡ kid_at (kids_of (item_at layout number)) position
  is_none layout same position at e h =
      let at_row : i ≡ place_in_row (laid_out s given stands) number = at ∙ ap (λ l. place_in_row l number) (sym same) in
      let n : length (kids_at s (laid_out s given stands).spots i) ≡ length ks = counted at_row (e ∙ ap (λ l. kids_of (item_at l number)) (sym same)) in
      kid_missed s given stands firsts laid number i at_row position (omega (arith, n, h))
      ∙ ap (λ l. kid_at (kids_of (item_at l number)) position) same
