-- Tests that each say what the other does.
use Rattle.std.proofs.Common.{◌≡◌, Bool, true, false, IsTrue, refl, sym}
use Rattle.std.specs.Prelude.{if◌then◌else◌}

pub same_bool : (a b : Bool) → (IsTrue a → IsTrue b) → (IsTrue b → IsTrue a) → a ≡ b
same_bool true b f g = sym (f refl)
same_bool false true f g = g refl
same_bool false false f g = refl

pub own_nearest : {A : Type 0} (b : Bool) (x : A) → (if b then x else x) ≡ x
own_nearest true x = refl
own_nearest false x = refl
