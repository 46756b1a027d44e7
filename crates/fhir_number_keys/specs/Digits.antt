-- The digits of numbers, the lowest first.
use Rattle.std.specs.Prelude.{ℕ, zero, suc, ◌+◌, ◌*◌, ◌≤◌, ◌%◌, ◌/◌, List, [], ◌∷◌, map, nat_eq, if◌then◌else◌}
use Rattle.std.specs.List.{prefix_len, AllByRecursion}
use Rattle.fhir_json.specs.Tree.{Text}
use Rattle.fhir_json.specs.Bytes.{digit_zero}

-- the number that digits write
abbrev pub number_in : List ℕ → ℕ
number_in [] = 0
number_in (d ∷ ds) = d + 10 * number_in ds

abbrev pub AreDigits : List ℕ → Type 0
AreDigits ds = AllByRecursion (λ d. d ≤ 9) ds

-- at most so many digits of a number
abbrev pub digits_within : ℕ → ℕ → List ℕ
digits_within zero n = []
digits_within (suc most) n = if nat_eq n 0 then [] else n % 10 ∷ digits_within most (n / 10)

-- the digits of a number, and none of 0
unfoldable pub digits_of : ℕ → List ℕ
digits_of n = digits_within n n

-- how many zeros come first
abbrev pub zeros_in : List ℕ → ℕ
zeros_in ds = prefix_len (λ d. nat_eq d 0) ds

abbrev pub digit_byte : ℕ → ℕ
digit_byte d = digit_zero + d % 10

abbrev pub written : List ℕ → Text
written ds = map digit_byte ds
