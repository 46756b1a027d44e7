-- How high an item is, and what its words are by its parts.
use Rattle.std.proofs.Common.{◌≡◌, ℕ, suc, ◌<◌, ◌≤◌, zero, List, [], ◌∷◌, length, get_or, refl, sym, ap, ◌∙◌, arith}
use Rattle.fhir_instance.specs.Items.{Item, item, Kids, type_of, kids_of, kids_in}
use Rattle.fhir_instance.specs.declared.typed.Kid.{Kid}
use Rattle.fhir_instance.specs.View.{named_of, named_in}
use Rattle.fhir_fp_values.specs.Values.{item_value}
use Rattle.fhir_fp_values.specs.Equality.{same_said, if_same, by_name, sides_of, equal}
use Rattle.fhir_fp_values.specs.Pairing.{height, heights}

pub height_out : (x : Item) → height x ≡ suc (heights (kids_of x))
height_out (item type json ks) = refl

pub equal_out : (x y : Item)
    → equal x y ≡ same_said (item_value x) (item_value y) (if_same (type_of x) (type_of y) (by_name (sides_of (kids_of x)) (kids_of y)))
equal_out (item a v ks) y = refl

-- a child isn't higher than all children together
pub kid_below : (ks : List Kid) (i : ℕ) (k : Kid) → i < length ks → k ≡ get_or ks i k → height (named_of k).1 ≤ heights (kids_in (named_in ks))
kid_below [] i k h is = absurd (omega arith)
kid_below (x ∷ xs) zero k h is = rw is (omega arith)
kid_below (x ∷ xs) (suc i) k h is = let p = kid_below xs i k (omega arith) is in omega arith

pub higher : (x : Item) (ks : List Kid) (i : ℕ) (k : Kid) (y : Item) → kids_in (named_in ks) ≡ kids_of x → i < length ks → k ≡ get_or ks i k → y ≡ (named_of k).1
    → height y < height x
higher x ks i k y all h is this =
    let p = kid_below ks i k h is in
    let e : height x ≡ suc (heights (kids_in (named_in ks))) = height_out x ∙ ap (λ (js : Kids). suc (heights js)) (sym all) in
    let f : height y ≡ height (named_of k).1 = ap height this in
    omega arith
