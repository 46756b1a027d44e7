-- Texts of Unicode that are cut at a byte of ASCII.
use Rattle.std.proofs.Common.{◌≡◌, ℕ, ◌+◌, ◌<◌, suc, ◌∷◌, ◌++◌, [], length, get_or, drop, IsTrue, sym, ap, ◌∙◌, subst, arith, length-append, append_assoc}
use Rattle.std.specs.Prelude.{IsUtf8}
use Rattle.std.specs.Str.{is_utf8}
use Rattle.std.proofs.Math.Seq.{take-append_seam, drop-append_seam, get_or-append-add}
use Rattle.std.proofs.lemmas.Str.{IsUtf8-append, IsUtf8-take, IsUtf8-drop, IsUtf8-from_is_utf8, is_utf8-from_IsUtf8, IsUtf8-from_ascii, IsCharBoundary-before_ascii, IsCharBoundary-after_ascii}
use Rattle.std.proofs.lemmas.Str.Ascii.{IsAscii-nil, IsAscii-cons}
use Rattle.fhir_json.specs.Tree.{Text}

abbrev pub IsUnicode : Text → Type 0
IsUnicode text = IsTrue (is_utf8 text)

at_seam : (c : ℕ) (xs ys : Text) → get_or (xs ++ c ∷ ys) (length xs) 0 ≡ c
at_seam c xs ys = ap (λ (i : ℕ). get_or (xs ++ c ∷ ys) i 0) (omega arith) ∙ get_or-append-add xs (c ∷ ys) 0 0

module _ (c : ℕ) (xs ys : Text) (low : c < 128) where
  cut : IsUtf8 (xs ++ c ∷ ys) → IsUtf8 xs × IsUtf8 ys
  cut u =
      let n : length (xs ++ c ∷ ys) ≡ length xs + suc (length ys) = length-append xs (c ∷ ys) in
      let here : length xs < length (xs ++ c ∷ ys) = omega arith in
      let is : get_or (xs ++ c ∷ ys) (length xs) 0 < 128 = subst (λ (b : ℕ). b < 128) (sym (at_seam c xs ys)) low in
      let past : drop (length xs + 1) (xs ++ c ∷ ys) ≡ ys =
      ap (drop (length xs + 1)) (sym (append_assoc xs (c ∷ []) ys))
      ∙ ap (λ (i : ℕ). drop i ((xs ++ c ∷ []) ++ ys)) (sym (length-append xs (c ∷ [])))
      ∙ drop-append_seam (xs ++ c ∷ []) ys in (
        subst IsUtf8 (take-append_seam xs (c ∷ ys))
            (IsUtf8-take (xs ++ c ∷ ys) (length xs) u (IsCharBoundary-before_ascii (xs ++ c ∷ ys) (length xs) here is)),
        subst IsUtf8 past
            (IsUtf8-drop (xs ++ c ∷ ys) (length xs + 1) u (IsCharBoundary-after_ascii (xs ++ c ∷ ys) (length xs) u here is)),
      )

  -- the parts before and behind the byte are texts of Unicode
  pub parted : IsUnicode (xs ++ c ∷ ys) → IsUnicode xs × IsUnicode ys
  parted h =
      let parts = cut (IsUtf8-from_is_utf8 (xs ++ c ∷ ys) h) in
      (is_utf8-from_IsUtf8 xs parts.0, is_utf8-from_IsUtf8 ys parts.1)

  -- and with such parts the whole is one
  pub joined : IsUnicode xs → IsUnicode ys → IsUnicode (xs ++ c ∷ ys)
  joined one other =
      is_utf8-from_IsUtf8 (xs ++ c ∷ ys)
      (IsUtf8-append xs (c ∷ ys) (IsUtf8-from_is_utf8 xs one)
      (IsUtf8-append (c ∷ []) ys (IsUtf8-from_ascii (c ∷ []) (IsAscii-cons c [] low IsAscii-nil)) (IsUtf8-from_is_utf8 ys other)))
