-- Lists of tests, each with what is answered where it doesn't hold.
use Rattle.std.specs.Prelude.{List, [], ◌∷◌, Bool, Option, None, Some, if◌then◌else◌}
use Rattle.std.specs.List.{list_all}

-- what is answered of the first that doesn't hold
abbrev pub first_of : {R : Type 0} → List (Bool × R) → Option R
first_of [] = None
first_of (test ∷ tests) = if test.0 then first_of tests else Some test.1

abbrev pub all_hold : {R : Type 0} → List (Bool × R) → Bool
all_hold tests = list_all (λ test. test.0) tests
