-- What a pair weighs: a root less than another node at its item, and any less at an item that stands behind.
use Rattle.std.proofs.Common.{◌≡◌, ◌<◌, ◌≤◌, ◌+◌, ◌-◌, ◌*◌, ℕ, Bool, true, false, length, arith, ap, IsTrue}
use Rattle.fhir_schema.specs.Schemas.{is_root_node}
use Rattle.fhir_validator.specs.Layouts.{LayoutValue, place_in_row}
use Rattle.fhir_validator.specs.declared.pair.ItemPair.{ItemPair}

abbrev pub rank : Bool → ℕ
rank true = 0
rank false = 1

unfoldable pub weight : LayoutValue → ItemPair → ℕ
weight layout p = 2 * (length layout.spots - place_in_row layout p.item) + rank (is_root_node layout.schema p.node)

rank_low : (b : Bool) → rank b ≤ 1
rank_low true = omega arith
rank_low false = omega arith

module _ (layout : LayoutValue) (p q : ItemPair) where
  pub lighter_root : q.item ≡ p.item → is_root_node layout.schema p.node ≡ false → IsTrue (is_root_node layout.schema q.node) → weight layout q < weight layout p
  unfolding weight
  lighter_root same inner is_root =
      let a : rank (is_root_node layout.schema p.node) ≡ 1 = ap rank inner in
      let b : rank (is_root_node layout.schema q.node) ≡ 0 = ap rank is_root in
      omega (arith, ap (place_in_row layout) same, a, b)

  pub lighter_kid : place_in_row layout p.item < place_in_row layout q.item → place_in_row layout q.item < length layout.spots → weight layout q < weight layout p
  unfolding weight
  lighter_kid behind within = omega (arith, rank_low (is_root_node layout.schema q.node))
