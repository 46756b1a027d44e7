-- The positions that are answered, which are those of values.
use Rattle.std.proofs.Common.{◌≡◌, ℕ, List, [], ◌∷◌, refl, sym, subst, arith}
use Rattle.std.specs.Prelude.{All}
use Rattle.std.specs.List.{AllZip}
use Rattle.std.proofs.lemmas.List.Elements.{All-cons, All-head}
use Rattle.fhir_json.specs.Tree.{Tree, null, boolean, number, string, array, object}
use Rattle.fhir_json.specs.Position.{position_at}
use Rattle.fhir_json.specs.declared.position.Position.{Position}
use Rattle.fhir_positions.specs.Among.{AreAmong}
use Rattle.fhir_positions.specs.Positions.{StandsIn, BeginsAt, IsOfValue, values_in}
use Rattle.fhir_positions.proofs.Among.{among_all, zip_all}

-- each that is answered is that of a value, or the outermost one
chosen_all : (P : Position → Type 0) (o : Position) (values all found : List Position) → All P values → P o → AreAmong all (o ∷ values)
    → AreAmong found (o ∷ all) → All P found
chosen_all P o values all found each outermost among chosen =
    among_all P found (o ∷ all) chosen (All-cons P o all outermost (among_all P all (o ∷ values) among (All-cons P o values outermost each)))

-- what the outermost one is
pub record IsOutermost (bytes : List ℕ) (values : List Position) (o : Position) : Type 0 where
  pub first : (v : Position) (vs : List Position) → values ≡ v ∷ vs → o ≡ v
  pub none : values ≡ [] → o ≡ position_at bytes 0

outermost_all : (bytes : List ℕ) (values : List Position) (o : Position) (P : Position → Type 0) → IsOutermost bytes values o → (values ≡ [] → P (position_at bytes 0))
    → All P values → P o
outermost_all bytes [] o P is empty each = subst P (sym (is.none refl)) (empty refl)
outermost_all bytes (v ∷ vs) o P is empty each = subst P (sym (is.first v vs refl)) (All-head P v vs each)

module _ (bytes : List ℕ) (values all found : List Position) (o : Position) (is : IsOutermost bytes values o) where
  pub chosen_stand : All (StandsIn bytes) values → AreAmong all (o ∷ values) → AreAmong found (o ∷ all) → All (StandsIn bytes) found
  chosen_stand each among chosen =
      chosen_all (StandsIn bytes) o values all found each (outermost_all bytes values o (StandsIn bytes) is (λ e. (0, omega arith, refl)) each) among chosen

  -- a tree has a value
  some_value : (t : Tree) → AllZip (BeginsAt bytes) (values_in t) [] → ⊥
  some_value null h = h
  some_value (boolean b) h = h
  some_value (number n) h = h
  some_value (string s) h = h
  some_value (array ts) h = h
  some_value (object ms) h = h

  pub chosen_values : (t : Tree) → AllZip (BeginsAt bytes) (values_in t) values → AreAmong all (o ∷ values) → AreAmong found (o ∷ all)
      → All (IsOfValue bytes t) found
  chosen_values t zip among chosen =
      let each : All (IsOfValue bytes t) values = zip_all (BeginsAt bytes) (values_in t) values zip in
      let some = λ (e : values ≡ []). absurd (some_value t (subst (λ (ps : List Position). AllZip (BeginsAt bytes) (values_in t) ps) e zip)) in
      chosen_all (IsOfValue bytes t) o values all found each (outermost_all bytes values o (IsOfValue bytes t) is some each) among chosen
