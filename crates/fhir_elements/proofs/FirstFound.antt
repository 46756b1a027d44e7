-- What the first test that fails answers, where some of those before it hold.
use Rattle.std.proofs.Common.{◌≡◌, Bool, true, false, Option, None, Some, refl}
use Rattle.std.specs.Prelude.{if◌then◌else◌}
use Rattle.fhir_elements.specs.declared.reason.Reason.{Reason}
use Rattle.fhir_elements.specs.Causes.{reason_unless}

pub none_passed : (holds : Bool) (r : Reason) → None ≡ reason_unless holds r → holds ≡ true
none_passed true r e = refl
none_passed false r e = cc

pub first_found : (a : Bool) (p x : Reason) (rest : Option Reason) → Some x ≡ reason_unless a p → Some x ≡ if a then rest else Some p
first_found true p x rest e = cc
first_found false p x rest e = e

pub second_found : (a b : Bool) (p q : Reason) (rest : Option Reason) → a ≡ true → b ≡ false
    → Some q ≡ if a then (if b then rest else Some q) else Some p
second_found a b p q rest e f = rw (e, f) refl

pub third_found : (a b c : Bool) (p q r : Reason) (rest : Option Reason) → a ≡ true → b ≡ true → c ≡ false
    → Some r ≡ if a then (if b then (if c then rest else Some r) else Some q) else Some p
third_found a b c p q r rest e f g = rw (e, f, g) refl

pub rest_found : (a b c : Bool) (p q r : Reason) (x rest : Option Reason) → a ≡ true → b ≡ true → c ≡ true → x ≡ rest
    → x ≡ if a then (if b then (if c then rest else Some r) else Some q) else Some p
rest_found a b c p q r x rest e f g h = rw (e, f, g) h
