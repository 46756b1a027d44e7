-- What is to blame where the first of some tests fails.
use Rattle.std.proofs.Common.{◌≡◌, ◌<◌, ℕ, suc, Bool, true, false, not, ◌&&◌, ◌||◌, List, length, drop, get_or, Option, None, Some, refl, sym, ap, ◌∙◌}
use Rattle.std.specs.Prelude.{if◌then◌else◌}
use Rattle.std.specs.Option.{option_map, option_or}
use Rattle.std.specs.List.{list_all, list_any}
use Rattle.std.proofs.Math.Seq.{drop-cons}
use Rattle.fhir_elements.specs.declared.reason.Reason.{Reason}
use Rattle.fhir_elements.specs.declared.cause.Cause.{Cause}
use Rattle.fhir_elements.specs.declared.cause.Blame.{Blame}
use Rattle.fhir_elements.specs.Causes.{reason_of, blamed_reason, reason_unless, is_blame_among}
use Rattle.fhir_definition.specs.Cases.{reasons_of, is_case_of}

pub failed : (a : Bool) (p x : Reason) → Some x ≡ reason_unless a p → a ≡ false
failed true p x e = cc
failed false p x e = refl

not_false : (b : Bool) → not b ≡ false → b ≡ true
not_false true e = refl
not_false false e = cc

-- a test that fails at a place fails for the list
pub fails_here : {A : Type 0} (p : A → Bool) (xs : List A) (i : ℕ) (x : A) (r y : Reason) (all : Bool) → i < length xs → x ≡ get_or xs i x
    → Some y ≡ reason_unless (p x) r → list_all p (drop i xs) ≡ all → Some y ≡ reason_unless all r
fails_here p xs i x r y all h is e f =
    let no = failed (p x) r y e in
    let here = ap (list_all p) (drop-cons xs i x h) ∙ ap (λ b. b && list_all p (drop (suc i) xs)) (ap p (sym is) ∙ no) in
    e ∙ ap (λ b. reason_unless b r) (no ∙ sym here ∙ f)

-- a case of a reason at a place is one in the list
pub found_here : (r : Reason) (cs : List (Option Cause)) (i : ℕ) (d : Option Cause) (x : Reason) (all : Bool) → i < length cs
    → Some x ≡ reason_unless (not (is_case_of r (option_map reason_of (get_or cs i d)))) r
    → list_any (is_case_of r) (reasons_of (drop i cs)) ≡ all → Some x ≡ reason_unless (not all) r
found_here r cs i d x all h e f =
    let no = failed (not (is_case_of r (option_map reason_of (get_or cs i d)))) r x e in
    let one = not_false (is_case_of r (option_map reason_of (get_or cs i d))) no in
    let here = ap (λ ys. list_any (is_case_of r) (reasons_of ys)) (drop-cons cs i d h)
    ∙ ap (λ b. b || list_any (is_case_of r) (reasons_of (drop (suc i) cs))) one in
    e ∙ ap (λ b. reason_unless b r) (no ∙ sym (ap not here) ∙ ap not f)

-- ---- the first of several

pub both_hold : (a b : Bool) (p : Reason) (x y : Option Blame) → blamed_reason x ≡ reason_unless a p → blamed_reason y ≡ reason_unless b p
    → blamed_reason (option_or x y) ≡ reason_unless (a && b) p
both_hold true b p None y e f = f
both_hold true b p (Some z) y e f = cc
both_hold false b p None y e f = cc
both_hold false b p (Some z) y e f = e

found_or : (a : Bool) (p : Reason) (x y : Option Blame) (rest : Option Reason) → blamed_reason x ≡ reason_unless a p → blamed_reason y ≡ rest
    → blamed_reason (option_or x y) ≡ if a then rest else Some p
found_or true p None y rest e f = f
found_or true p (Some z) y rest e f = cc
found_or false p None y rest e f = cc
found_or false p (Some z) y rest e f = e

or_regrouped : (v w x y z : Option Blame)
    → option_or (option_or (option_or (option_or v w) x) y) z ≡ option_or v (option_or w (option_or x (option_or y z)))
or_regrouped (Some b) w x y z = refl
or_regrouped None (Some b) x y z = refl
or_regrouped None None (Some b) y z = refl
or_regrouped None None None y z = refl

-- the five tests of a definition, of which the last two have one reason
pub first_of_five : (a b c d e : Bool) (p q r s : Reason) (v w x y z : Option Blame)
    → blamed_reason v ≡ reason_unless a p → blamed_reason w ≡ reason_unless b q → blamed_reason x ≡ reason_unless c r
    → blamed_reason y ≡ reason_unless d s → blamed_reason z ≡ reason_unless e s
    → blamed_reason (option_or (option_or (option_or (option_or v w) x) y) z)
    ≡ if a then (if b then (if c then reason_unless (d && e) s else Some r) else Some q) else Some p
first_of_five a b c d e p q r s v w x y z f g h k l =
    ap blamed_reason (or_regrouped v w x y z)
    ∙ found_or a p v _ _ f (found_or b q w _ _ g (found_or c r x _ _ h (both_hold d e s y z k l)))

pub among_or : (n : ℕ) (x y : Option Blame) → is_blame_among n x → is_blame_among n y → is_blame_among n (option_or x y)
among_or n None y h k = k
among_or n (Some b) y h k = h

-- the fields are judged in another order than they are written
reordered : (h w l n : Bool) → ((h && n) && (w && l)) ≡ (h && w && l && n)
reordered false w l n = refl
reordered true false l true = refl
reordered true false l false = refl
reordered true true false true = refl
reordered true true false false = refl
reordered true true true true = refl
reordered true true true false = refl

pub fields_found : (h w l n : Bool) (p : Reason) (x y z : Option Blame)
    → blamed_reason x ≡ reason_unless h p → blamed_reason y ≡ reason_unless n p → blamed_reason z ≡ reason_unless (w && l) p
    → blamed_reason (option_or (option_or x y) z) ≡ reason_unless (h && w && l && n) p
fields_found h w l n p x y z e f g =
    both_hold (h && n) (w && l) p (option_or x y) z (both_hold h n p x y e f) g ∙ ap (λ b. reason_unless b p) (reordered h w l n)
