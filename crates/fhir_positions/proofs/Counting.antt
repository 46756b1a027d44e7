-- Lines and columns behind the front of a text.
use Rattle.std.proofs.Common.{◌≡◌, ℕ, ◌+◌, ◌-◌, ◌≤◌, true, false, List, length, take, drop, refl, sym, subst, arith, length-drop}
use Rattle.std.specs.Prelude.{nat_eq}
use Rattle.std.specs.List.{starts_with}
use Rattle.std.proofs.lemmas.List.{take_rest, drop-take}
use Rattle.fhir_json.specs.Grammar.{mark}
use Rattle.fhir_json.specs.Position.{position_at}
use Rattle.fhir_json.specs.declared.position.Position.{Position}
use Rattle.fhir_positions.specs.Positions.{StandsIn, behind_front}

pub no_mark : (bytes : List ℕ) → starts_with nat_eq bytes mark ≡ false → (n : ℕ) → n ≤ length bytes → StandsIn bytes (behind_front (take n bytes))
no_mark bytes isnt n within = (n, within, rw isnt refl)

pub behind : (bytes : List ℕ) (n : ℕ) → starts_with nat_eq bytes mark ≡ true → behind_front (take n (drop 3 bytes)) ≡ position_at bytes (3 + n)
behind bytes n is = rw (is, drop-take 3 n bytes) refl

pub mark_there : (bytes : List ℕ) → starts_with nat_eq bytes mark ≡ true → 3 ≤ length bytes → (n : ℕ)
    → n ≤ length (take (length bytes - 3) (drop 3 bytes)) → StandsIn bytes (behind_front (take n (take (length bytes - 3) (drop 3 bytes))))
mark_there bytes is long n within =
    rw (take_rest bytes 3) (3 + n, omega (arith, length-drop 3 bytes, simp take_rest at within), behind bytes n is)

pub in_text : (bytes text : List ℕ) (i : ℕ) (at : Position) → i ≤ length text → at ≡ behind_front (take i text)
    → ((n : ℕ) → n ≤ length text → StandsIn bytes (behind_front (take n text))) → StandsIn bytes at
in_text bytes text i at within is all = subst (StandsIn bytes) (sym is) (all i within)
