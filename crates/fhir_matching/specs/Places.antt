-- A map of names: where a member of each name stands (used by private contracts alone).
use Rattle.std.specs.Prelude.{◌≡◌, ◌<◌, ℕ, List, length, Option, is_some, IfSome}
use Rattle.std.specs.Borrow.{Bor}
use Rattle.std.specs.BTreeMap.{BTreeMap, get_by}
use Rattle.std.specs.Cmp.Lexicographic.{slice_cmp}
use Rattle.std.specs.Ordering.{nat_cmp}
use Rattle.fhir_json.specs.Tree.{Text}
use Rattle.fhir_json.specs.Sound.{is_among}

-- the place that the map has for a name
abbrev pub place_at : Text → BTreeMap (Bor Text) ℕ → Option ℕ
place_at name places = get_by (λ key. slice_cmp nat_cmp name key.now) places

-- the map has a place for each of the names, and for no other
pub record AreOf (places : BTreeMap (Bor Text) ℕ) (names : List Text) : Type 0 where
  pub named : (name : Text) → is_some (place_at name places) ≡ is_among name names
  pub within : (name : Text) → IfSome (place_at name places) (λ place. place < length names)
