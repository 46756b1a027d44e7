-- What is owned in a value that holds others.
use Rattle.std.proofs.Common.{◌≡◌, Bool, List, [], ◌∷◌, map, refl, sym, ap, ◌∙◌, subst, IsTrue, ◌&&◌, rules}
use Rattle.std.specs.List.{list_all}
use Rattle.std.specs.declared.alloc.Global.{Global}
use Rattle.std.specs.declared.vec.Vec.{Vec}
use Rattle.fhir_json.specs.declared.json.Json.{Json, fold-roll-Json}
use Rattle.fhir_json.specs.declared.json.Member.{Member}
use Rattle.fhir_json.specs.declared.json.Json.TheVariants as json
use Rattle.fhir_json.specs.Loans.{is_owned, member_is_owned}

-- a test of each is that all answers are true
all-map : {A : Type 0} (test : A → Bool) (xs : List A) → list_all (λ b. b) (map test xs) ≡ list_all test xs
all-map test [] = refl
all-map test (x ∷ xs) = ap (λ (b : Bool). test x && b) (all-map test xs)

owned-arr : (v : Vec Json Global) → is_owned (json.Arr v) ≡ list_all (λ b. b) (map is_owned v.items)
owned-arr v = ap is_owned (sym (json.rolls-Arr v)) ∙ search (rules, fold-roll-Json)

owned-obj : (v : Vec Member Global) → is_owned (json.Obj v) ≡ list_all (λ b. b) (map member_is_owned v.items)
owned-obj v = ap is_owned (sym (json.rolls-Obj v)) ∙ search (rules, fold-roll-Json)

pub array-owned : (v : Vec Json Global) → IsTrue (list_all is_owned v.items) → IsTrue (is_owned (json.Arr v))
array-owned v h = let P : Bool → Type 0 = λ b. IsTrue b in subst P (sym (owned-arr v ∙ all-map is_owned v.items)) h

pub object-owned : (v : Vec Member Global) → IsTrue (list_all member_is_owned v.items) → IsTrue (is_owned (json.Obj v))
object-owned v h = let P : Bool → Type 0 = λ b. IsTrue b in subst P (sym (owned-obj v ∙ all-map member_is_owned v.items)) h
