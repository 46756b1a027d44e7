-- The child at a position.
use Rattle.std.proofs.Common.{◌≡◌, ℕ, suc, zero, ◌<◌, ◌≤◌, List, [], ◌∷◌, length, get_or, None, Some, refl, sym, ap, arith}
use Rattle.fhir_instance.specs.Items.{kids_in}
use Rattle.fhir_instance.specs.View.{named_of, named_in}
use Rattle.fhir_instance.specs.declared.typed.Kid.{Kid}
use Rattle.fhir_conformance.specs.Positions.{kid_at}

pub is_there : (ks : List Kid) (i : ℕ) (k : Kid) → i < length ks → k ≡ get_or ks i k → kid_at (kids_in (named_in ks)) i ≡ Some (named_of k).1
is_there [] i k h is = absurd (omega arith)
is_there (x ∷ xs) zero k h is = ap (λ (y : Kid). Some (named_of y).1) (sym is)
is_there (x ∷ xs) (suc i) k h is = is_there xs i k (omega arith) is

pub is_not_there : (ks : List Kid) (i : ℕ) → length ks ≤ i → kid_at (kids_in (named_in ks)) i ≡ None
is_not_there [] i h = refl
is_not_there (x ∷ xs) zero h = absurd (omega arith)
is_not_there (x ∷ xs) (suc i) h = is_not_there xs i (omega arith)
