-- The texts of a decimal (FHIR R4, Data Types, decimal): `-?(0|[1-9][0-9]*)(\.[0-9]+)?([eE][+-]?[0-9]+)?`.
use Rattle.std.specs.Prelude.{◌≡◌, ℕ, [], ◌∷◌, ◌++◌, Bool, true, false, not, ◌&&◌, ◌||◌, ◌==◌, ◌⊎◌}
use Rattle.std.specs.Char.{is_ascii_digit}
use Rattle.std.specs.List.{list_all}
use Rattle.fhir_json.specs.Tree.{Text}
use Rattle.fhir_json.specs.Bytes.{plus, minus, dot, digit_zero, letter_E, letter_e, is_empty}

-- what a decimal's text is made of
pub record Parts : Type 0 where
  -- it begins with `-`
  pub negative : Bool
  -- the digits before the point, and those behind it
  pub whole : Text
  pub fraction : Text
  -- the exponent has a `-`
  pub lowers : Bool
  -- the digits of the exponent
  pub exponent : Text

-- the parts of digits before a point and behind it, with no sign and no exponent
abbrev pub unsigned_parts : Text → Text → Parts
unsigned_parts whole fraction = record { negative = false; whole = whole; fraction = fraction; lowers = false; exponent = [] }

-- one digit or more
abbrev pub are_digits : Text → Bool
are_digits bs = not (is_empty bs) && list_all is_ascii_digit bs

-- one digit, or two and more of which the first is no `0`
abbrev pub is_whole : Text → Bool
is_whole [] = false
is_whole (a ∷ []) = true
is_whole (a ∷ (b ∷ bs)) = not (a == digit_zero)

-- `-`, or nothing
abbrev pub IsMinus : Text → Bool → Type 0
IsMinus bs negative = ((bs ≡ minus ∷ []) × (negative ≡ true)) ⊎ ((bs ≡ []) × (negative ≡ false))

-- `.` and digits, or nothing
abbrev pub IsFraction : Text → Text → Type 0
IsFraction bs digits = ((bs ≡ dot ∷ digits) × (are_digits digits ≡ true)) ⊎ ((bs ≡ []) × (digits ≡ []))

-- `-`, `+` or nothing
abbrev pub IsSign : Text → Bool → Type 0
IsSign bs lowers = ((bs ≡ minus ∷ []) × (lowers ≡ true)) ⊎ (((bs ≡ plus ∷ []) ⊎ (bs ≡ [])) × (lowers ≡ false))

-- `e` or `E`, a sign or none, and digits
pub record HasExponent (bs : Text) (lowers : Bool) (digits : Text) : Type 0 where
  pub letter : ℕ
  pub sign : Text
  pub text : bs ≡ letter ∷ (sign ++ digits)
  pub is_letter : ((letter == letter_e) || (letter == letter_E)) ≡ true
  pub is_sign : IsSign sign lowers
  pub are_digits : are_digits digits ≡ true

-- such an exponent, or nothing
abbrev pub IsExponent : Text → Bool → Text → Type 0
IsExponent bs lowers digits = HasExponent bs lowers digits ⊎ ((bs ≡ []) × (lowers ≡ false) × (digits ≡ []))

-- the text is a decimal's, with these parts
pub record IsDecimal (bs : Text) (p : Parts) : Type 0 where
  pub minus : Text
  pub fraction : Text
  pub exponent : Text
  pub text : bs ≡ minus ++ (p.whole ++ (fraction ++ exponent))
  pub is_minus : IsMinus minus p.negative
  pub whole_digits : are_digits p.whole ≡ true
  pub is_whole : is_whole p.whole ≡ true
  pub is_fraction : IsFraction fraction p.fraction
  pub is_exponent : IsExponent exponent p.lowers p.exponent
