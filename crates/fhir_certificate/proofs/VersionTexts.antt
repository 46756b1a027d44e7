-- How versions are written: as fields, in UTF-8, and so that they are taken as versions.
use Rattle.std.proofs.Common.{◌≡◌, ℕ, ◌≤◌, ◌||◌, ◌↔◌, ◌⊎◌, inl, inr, Bool, true, false, [], ◌∷◌, Option, Some, None, Result, Ok, Err, refl, ap, ◌∙◌, arith}
use Rattle.std.specs.Prelude.{codes, IsUtf8}
use Rattle.std.specs.Str.{bytes_eq}
use Rattle.std.proofs.lemmas.Bool.{cases_lt, or_cases, agree_below_at, false≢true}
use Rattle.std.proofs.lemmas.Bool.Decides.{nat_tests}
use Rattle.std.proofs.lemmas.List.Folds.{list_all-append}
use Rattle.std.proofs.lemmas.Slice.Eq.{bytes_eq-Decides}
use Rattle.std.proofs.lemmas.Str.{is_utf8-from_IsUtf8, IsUtf8-from_is_utf8, IsUtf8-from_ascii}
use Rattle.std.proofs.lemmas.Str.Ascii.{IsAscii-nil, IsAscii-cons}
use Rattle.fhir_json.specs.Tree.{Text, Tree, null, boolean, number, string, array, object}
use Rattle.fhir_json.specs.Sound.{IsSound, depth, max_depth}
use Rattle.fhir_json.specs.Grammar.{Reads}
use Rattle.fhir_json.specs.Compact.{escape_byte, escape_text, compact}
use Rattle.fhir_json.specs.Reading.{reading}
use Rattle.fhir_json.specs.declared.fault.JsonFault.{JsonFault}
use Rattle.fhir_json.proofs.Utf8.{compact_utf8}
use Rattle.fhir_certificate.specs.Versions.{version_text, is_text_read, is_compact_of, is_version}
use Rattle.fhir_certificate.specs.Format.{is_field}
use Rattle.fhir_certificate.proofs.Naming.{text_same}

-- ---- fields

high_escaped : (b : ℕ) → 128 ≤ b → escape_byte b ≡ b ∷ []
high_escaped b h = grind (arith, nat_tests)

high_field : (b : ℕ) → 128 ≤ b → is_field (b ∷ []) ≡ true
high_field b h = grind (arith, nat_tests)

byte_field : (b : ℕ) → is_field (escape_byte b) ≡ true
byte_field b =
    elim (cases_lt b 128) [
      | inl low ↦ agree_below_at (λ x. is_field (escape_byte x)) (λ _. true) 128 b refl low
      | inr high ↦ ap is_field (high_escaped b high) ∙ high_field b high
    ]

escaped_field : (bs : Text) → is_field (escape_text bs) ≡ true
unfolding escape_text
escaped_field [] = refl
escaped_field (b ∷ bs) = list_all-append _ (escape_byte b) (escape_text bs) ∙ rw (byte_field b, escaped_field bs) refl

compact_field : (version : Text) → is_field (compact (string version)) ≡ true
compact_field version = list_all-append _ (escape_text version) (34 ∷ []) ∙ rw (escaped_field version) refl

pub version_field : (version : Option Text) → is_field (version_text version) ≡ true
version_field None = refl
version_field (Some version) = compact_field version

-- ---- UTF-8

pub version_utf8 : (version : Option Text) → ((text : Text) → version ≡ Some text → IsUtf8 text) → IsUtf8 (version_text version)
version_utf8 None u = IsUtf8-from_ascii (codes "-") (IsAscii-cons 45 [] (omega arith) IsAscii-nil)
version_utf8 (Some text) u = compact_utf8 (string text) (is_utf8-from_IsUtf8 text (u text refl))

-- ---- versions

-- what is known of JSON
pub record IsJson : Type 0 where
  pub sound : (t : Tree) → (IsSound t × (depth t ≤ max_depth)) ↔ Reads (compact t) t
  pub agrees : (bytes : Text) (t : Tree) → (reading bytes ≡ Ok t) ↔ Reads bytes t

module _ (h : IsJson) where
  json_version : (text : Text) → IsUtf8 text → is_version (compact (string text)) ≡ true
  json_version text u =
      let reads : Reads (compact (string text)) (string text) = (h.sound (string text)).0 (is_utf8-from_IsUtf8 text u, omega arith) in
      let read : reading (compact (string text)) ≡ Ok (string text) = (h.agrees (compact (string text)) (string text)).1 reads in
      ap (λ r. bytes_eq (compact (string text)) (codes "-") || is_compact_of (compact (string text)) r) read
      ∙ ap (λ b. bytes_eq (compact (string text)) (codes "-") || b) (text_same (compact (string text)))
      ∙ or_true (bytes_eq (compact (string text)) (codes "-"))
    where
      or_true : (b : Bool) → (b || true) ≡ true
      or_true true = refl
      or_true false = refl

  pub version_is : (version : Option Text) → ((text : Text) → version ≡ Some text → IsUtf8 text) → is_version (version_text version) ≡ true
  version_is None u = refl
  version_is (Some text) u = json_version text (u text refl)

  abbrev pub IsJsonText : Text → Type 0
  IsJsonText text = (version : Text) × IsUtf8 version × (text ≡ compact (string version))

  text_read : (text : Text) (t : Tree) → reading text ≡ Ok t → is_text_read text t ≡ true → IsJsonText text
  text_read text null r e = absurd (false≢true e)
  text_read text (boolean b) r e = absurd (false≢true e)
  text_read text (number n) r e = absurd (false≢true e)
  text_read text (array ts) r e = absurd (false≢true e)
  text_read text (object ms) r e = absurd (false≢true e)
  text_read text (string version) r e =
      let reads = (h.agrees text (string version)).0 r in
      (version, IsUtf8-from_is_utf8 version reads.sound, (bytes_eq-Decides text (compact (string version))).0 e)

  compact_read : (text : Text) (r : Result Tree JsonFault) → reading text ≡ r → is_compact_of text r ≡ true → IsJsonText text
  compact_read text (Ok t) r e = text_read text t r e
  compact_read text (Err fault) r e = absurd (false≢true e)

  pub version_means : (text : Text) → (is_version text ≡ true) ↔ ((text ≡ codes "-") ⊎ IsJsonText text)
  version_means text = (
    λ is.
        elim (or_cases (bytes_eq text (codes "-")) (is_compact_of text (reading text)) is) [
          | inl bare ↦ inl ((bytes_eq-Decides text (codes "-")).0 bare)
          | inr json ↦ inr (compact_read text (reading text) refl json)
        ],
    λ is.
        elim is [
          | inl bare ↦ rw bare refl
          | inr json ↦ rw json.2 (json_version json.0 json.1)
        ],
  )
