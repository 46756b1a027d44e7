-- Words that the contracts of private functions alone cite: of the names that wait for one another while one is settled.
use Rattle.std.specs.Prelude.{◌≡◌, ℕ, suc, ◌+◌, ◌*◌, ◌-◌, ◌^◌, ◌<◌, List, [], ◌∷◌, length, get_or, Option, Some}
use Rattle.std.specs.Prelude.{Bool, true, false, if◌then◌else◌}
use Rattle.std.specs.List.{list_any}
use Rattle.std.specs.Str.{bytes_eq}
use Rattle.fhir_json.specs.Tree.{Text}
use Rattle.fhir_names.specs.Places.{Places, place_of}
use Rattle.fhir_asking.specs.Asking.{Asking, found, answer, is_wanting, known, Holds, Extends, NeedsItself}

-- the first has no answer within one more than a bound within which the second has none
abbrev pub Needs : {A : Type 0} → (Text → Asking A) → Text → Text → Type 0
Needs asking first second = (bound : ℕ) → is_wanting (answer asking bound second) ≡ true
    → is_wanting (answer asking (suc bound) first) ≡ true

-- each of the names needs the next one
abbrev pub IsChain : {A : Type 0} → (Text → Asking A) → List Text → Type 0
IsChain asking names = (k : ℕ) → k + 1 < length names → Needs asking (get_or names k []) (get_or names (k + 1) [])

-- the first of the names that wait is this one; where none waits, it is known
abbrev pub IsBottom : {A : Type 0} → Text → List (Text × Option A) → List Text → Type 0
IsBottom name table [] = is_wanting (known table name) ≡ false
IsBottom name table (first ∷ others) = first ≡ name

-- the last of the names that wait, which waits for none of them
abbrev pub top_of : List Text → Text
top_of names = get_or names (length names - 1) []

-- the name is none of the names
abbrev pub IsApart : Text → List Text → Type 0
IsApart name names = list_any (bytes_eq name) names ≡ false

-- none of the names is known
abbrev pub AreUnknown : {A : Type 0} → List (Text × Option A) → List Text → Type 0
AreUnknown table names = (name : Text) → list_any (bytes_eq name) names ≡ true → is_wanting (known table name) ≡ true

-- each of the names has the place at which it stands
abbrev pub Marks : Places → List Text → Type 0
Marks places names = (k : ℕ) → k < length names → place_of places (get_or names k []) ≡ Some k

-- the name has this answer, and each other name what it had
abbrev pub Learns : {A : Type 0} → List (Text × Option A) → List (Text × Option A) → Text → Option A → Type 0
Learns old new name thing =
    (other : Text) → known new other ≡ (if bytes_eq other name then found thing else known old other)

-- the names that wait for one another: each needs the next one, and none is known
pub record Waits {A : Type 0} (asking : Text → Asking A) (table : List (Text × Option A)) (names : List Text) : Type 0 where
  pub chain : IsChain asking names
  pub unknown : AreUnknown table names

-- the table still holds, and still has what the old one had
pub record Grows {A : Type 0} (asking : Text → Asking A) (old new : List (Text × Option A)) : Type 0 where
  pub holds : Holds asking new
  pub extends : Extends old new

-- how many names may still be known, twice, and wait: each turn leaves less
abbrev pub left : {A : Type 0} → List (Text × Option A) → List Text → ℕ
left table names = 2 * (2 ^ 63 - length table) + (2 ^ 64 - length names)

-- one turn went on: less is left, and what waits first is the same or known
pub record GoesOn {A : Type 0} (asking : Text → Asking A) (old : List (Text × Option A)) (names : List Text)
    (new : List (Text × Option A)) (others : List Text) : Type 0 where
  pub waits : Waits asking new others
  pub bottom : (name : Text) → IsBottom name old names → IsBottom name new others
  pub less : left new others < left old names

-- one turn went on, or what waits first needs itself
abbrev pub Turns : {A : Type 0} → (Text → Asking A) → List (Text × Option A) → List Text → List (Text × Option A)
    → List Text → Bool → Type 0
Turns asking old names new others true = GoesOn asking old names new others
Turns asking old names new others false = (name : Text) → IsBottom name old names → NeedsItself asking name
