-- What is known of things by asking for other things. Each thing has a name. What a thing is, is said by what it asks
-- for, one name after the other, and by what it is where those have these answers.
use Rattle.std.specs.Prelude.{ℕ, zero, suc, List, Bool, true, false, Option, ◌≡◌}
use Rattle.std.specs.Option.{option_map_or}
use Rattle.std.specs.Map.{lookup}
use Rattle.std.specs.Str.{bytes_eq}
use Rattle.fhir_json.specs.Tree.{Text}

-- what a thing is: it is given, as there or as none; or it asks for a name, and the answer says what it is then
pub data Asking (A : Type 0) : Type 0 where
  given : Option A → Asking A
  asks : Text → (Option A → Asking A) → Asking A

-- an answer: the thing or that there is none, or else a name whose answer is still wanted
pub data Answer (A : Type 0) : Type 0 where
  wants : Text → Answer A
  found : Option A → Answer A

-- whether another answer is still wanted
abbrev pub is_wanting : {A : Type 0} → Answer A → Bool
is_wanting (wants name) = true
is_wanting (found thing) = false

-- what comes next, once there is an answer
abbrev pub once : {A : Type 0} → Answer A → (Option A → Answer A) → Answer A
once (wants name) next = wants name
once (found thing) next = next thing

-- the answer of what is asked so, where each name has its answer by the function
abbrev pub run : {A : Type 0} → (Text → Answer A) → Asking A → Answer A
run answers (given thing) = found thing
run answers (asks name next) = once (answers name) (λ thing. run answers (next thing))

-- the answer of a name by chains of fewer questions than the bound, where each name asks so
abbrev pub answer : {A : Type 0} → (Text → Asking A) → ℕ → Text → Answer A
answer asking zero name = wants name
answer asking (suc bound) name = run (answer asking bound) (asking name)

-- the name has this answer by some bound
abbrev pub Has : {A : Type 0} → (Text → Asking A) → Text → Option A → Type 0
Has asking name thing = (bound : ℕ) × (answer asking bound name ≡ found thing)

-- the name has an answer by no bound: its chain of questions comes back to itself, or has no end
abbrev pub NeedsItself : {A : Type 0} → (Text → Asking A) → Text → Type 0
NeedsItself asking name = (bound : ℕ) → is_wanting (answer asking bound name) ≡ true

-- the answer that a table has for a name; where it has none, that name's answer is wanted
abbrev pub known : {A : Type 0} → List (Text × Option A) → Text → Answer A
known table name = option_map_or found (lookup (bytes_eq name) table) (wants name)

-- what the table has for a name is that name's answer
abbrev pub Holds : {A : Type 0} → (Text → Asking A) → List (Text × Option A) → Type 0
Holds {A} asking table = (bound : ℕ)
    × ((name : Text) (thing : Option A) → known table name ≡ found thing → answer asking bound name ≡ found thing)

-- what the old table has, the new one has
abbrev pub Extends : {A : Type 0} → List (Text × Option A) → List (Text × Option A) → Type 0
Extends {A} old new = (name : Text) (thing : Option A) → known old name ≡ found thing → known new name ≡ found thing

-- the table has an answer for the name, or else the name needs itself
abbrev pub Settles : {A : Type 0} → (Text → Asking A) → List (Text × Option A) → Text → Bool → Type 0
Settles asking table name true = is_wanting (known table name) ≡ false
Settles asking table name false = NeedsItself asking name

-- what is asked so comes to this, where each name that it asks for has the answer with which it goes on
abbrev pub ComesTo : {A : Type 0} → (Text → Asking A) → Asking A → Option A → Type 0
ComesTo asking (given other) thing = other ≡ thing
ComesTo {A} asking (asks name next) thing =
    (answered : Option A) × Has asking name answered × ComesTo asking (next answered) thing
