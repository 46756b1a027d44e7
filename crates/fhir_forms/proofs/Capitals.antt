-- A text with its first letter in upper case.
use Rattle.std.proofs.Common.{◌≡◌, ℕ, ◌<◌, ◌≤◌, [], ◌∷◌, ◌++◌, length, get_or, refl, ap, sym, ◌∙◌, inl, inr, arith}
use Rattle.std.specs.Char.{encode_utf8, to_ascii_uppercase}
use Rattle.std.proofs.lemmas.Bool.{cases_lt}
use Rattle.std.proofs.lemmas.Bool.Decides.{nat_tests}
use Rattle.std.proofs.lemmas.Str.{encode_ascii, char_from_byte}
use Rattle.fhir_json.specs.Tree.{Text}
use Rattle.fhir_forms.specs.Forms.{capital, capitalised}

upper_capital : (c : ℕ) → to_ascii_uppercase c ≡ capital c
upper_capital c = grind (arith, nat_tests)

upper_below : (c : ℕ) → c < 128 → to_ascii_uppercase c < 128
upper_below c h = grind (arith, nat_tests)

upper_beyond : (c : ℕ) → 128 ≤ c → to_ascii_uppercase c ≡ c
upper_beyond c h = grind (arith, nat_tests)

capital_beyond : (b : ℕ) → 128 ≤ b → capital b ≡ b
capital_beyond b h = grind (arith, nat_tests)

capitalised_beyond : (bs : Text) → (0 < length bs → 128 ≤ get_or bs 0 0) → bs ≡ capitalised bs
capitalised_beyond [] h = refl
capitalised_beyond (b ∷ bs) h = ap (λ x. x ∷ bs) (sym (capital_beyond b (h (omega arith))))

-- what a text's first character and the rest become
pub upper_first : (bs rest : Text) (c : ℕ) → bs ≡ encode_utf8 c ++ rest → encode_utf8 (to_ascii_uppercase c) ++ rest ≡ capitalised bs
upper_first bs rest c e =
    elim (cases_lt c 128) [
      | inl below ↦
          ap (λ x. x ++ rest) (encode_ascii (to_ascii_uppercase c) (upper_below c below)) ∙ ap (λ x. x ∷ rest) (upper_capital c)
          ∙ sym (ap capitalised (e ∙ ap (λ x. x ++ rest) (encode_ascii c below)))
      | inr beyond ↦
          ap (λ x. encode_utf8 x ++ rest) (upper_beyond c beyond) ∙ sym e
          ∙ capitalised_beyond bs (λ h. elim (cases_lt (get_or bs 0 0) 128) [
            | inl low ↦ absurd (omega (arith, char_from_byte bs rest c e low h))
            | inr high ↦ high
          ])
    ]
