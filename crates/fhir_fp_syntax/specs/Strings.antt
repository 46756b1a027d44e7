-- A string (FHIRPath N1, Grammar): what stands between its quotes, and the text that it stands for.
use Rattle.std.specs.Prelude.{◌≡◌, ℕ, zero, suc, [], ◌∷◌, ◌++◌, length, Bool, true, false, not, ◌&&◌, ◌||◌, ◌==◌, if◌then◌else◌, Option, Some}
use Rattle.std.specs.Prelude.{None, encode_utf8}
use Rattle.fhir_json.specs.Bytes.{backslash, carriage_return, form_feed, letter_f, letter_n, letter_r, letter_t, letter_u, line_feed, quote, slash, tab}
use Rattle.fhir_json.specs.Strings.{code_unit, is_high, is_low, code_point_of}
use Rattle.fhir_json.specs.Reading.{unit_at}
use Rattle.fhir_json.specs.Tree.{Text}
use Rattle.fhir_fp_syntax.specs.Characters.{apostrophe, backquote}
use Rattle.fhir_fp_syntax.specs.Answers.{◌>>=◌}

-- what a backslash and one byte stand for, other than `\u`
abbrev pub short_escape : ℕ → Option ℕ
short_escape e =
    if (e == apostrophe) || (e == quote) || (e == backquote) || (e == backslash) || (e == slash) then Some e
    else
    (if e == letter_f then Some form_feed else
    (if e == letter_n then Some line_feed else (if e == letter_r then Some carriage_return else (if e == letter_t then Some tab else None))))

-- a byte that stands as itself
abbrev pub is_plain : ℕ → Bool
is_plain b = not (b == backslash)

-- what stands behind a backslash, and the bytes that it stands for; a surrogate stands in a pair
pub data IsEscape : Text → Text → Type 0 where
  short : {e c : ℕ} → short_escape e ≡ Some c → IsEscape (e ∷ []) (c ∷ [])
  unit : {a b c d u : ℕ} {s : Text} → code_unit a b c d ≡ Some u → is_high u ≡ false → is_low u ≡ false → s ≡ encode_utf8 u
      → IsEscape (letter_u ∷ a ∷ b ∷ c ∷ d ∷ []) s
  pair : {a b c d e f g h high low : ℕ} {s : Text} → code_unit a b c d ≡ Some high → is_high high ≡ true → code_unit e f g h ≡ Some low → is_low low ≡ true
      → s ≡ encode_utf8 (code_point_of high low)
      → IsEscape (letter_u ∷ a ∷ b ∷ c ∷ d ∷ backslash ∷ letter_u ∷ e ∷ f ∷ g ∷ h ∷ []) s

-- what stands between the quotes, and its text
pub data IsText : Text → Text → Type 0 where
  done : IsText [] []
  plain : {b : ℕ} {v s : Text} → is_plain b ≡ true → IsText v s → IsText (b ∷ v) (b ∷ s)
  escape : {e c v s w t : Text} → IsEscape e c → IsText v s → w ≡ backslash ∷ (e ++ v) → t ≡ c ++ s → IsText w t

-- ---- from left to right: each function gives the bytes and what follows

-- the lower half of a pair
abbrev pub low_half : ℕ → Option (ℕ × Text) → Option (Text × Text)
low_half high None = None
low_half high (Some low) = if is_low low.0 then Some (encode_utf8 (code_point_of high low.0), low.1) else None

unfoldable pub low_at : ℕ → Text → Option (Text × Text)
low_at high [] = None
low_at high (a ∷ []) = None
low_at high (a ∷ b ∷ bs) = if (a == backslash) && (b == letter_u) then low_half high (unit_at bs) else None

unfoldable pub unicode_at : Text → Option (Text × Text)
unicode_at bs = unit_at bs >>= λ u. (if is_high u.0 then low_at u.0 u.1 else (if is_low u.0 then None else Some (encode_utf8 u.0, u.1)))

-- what a backslash stands for, from behind it
unfoldable pub escape_at : Text → Option (Text × Text)
escape_at [] = None
escape_at (e ∷ bs) = if e == letter_u then unicode_at bs else short_escape e >>= (λ c. Some (c ∷ [], bs))

-- the text; the number bounds the bytes
unfoldable pub text_at : ℕ → Text → Option Text
text_at zero bs = None
text_at (suc n) [] = Some []
text_at (suc n) (b ∷ bs) =
    if b == backslash then escape_at bs >>= (λ c. text_at n c.1 >>= (λ s. Some (c.0 ++ s)))
    else text_at n bs >>= (λ s. Some (b ∷ s))

unfoldable pub text_in : Text → Option Text
text_in bs = text_at (suc (length bs)) bs
