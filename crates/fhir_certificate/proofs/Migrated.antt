-- What is migrated is read as the same certificate.
use Rattle.std.proofs.Common.{◌≡◌, ℕ, suc, ◌+◌, ◌≤◌, true, List, [], ◌∷◌, length, Option, Some, None, is_some, Ok, refl, sym, ap, subst, ◌∙◌, arith}
use Rattle.std.specs.Prelude.{IsTrue}
use Rattle.std.specs.Option.{option_map_or}
use Rattle.std.specs.List.{flat_map}
use Rattle.fhir_json.specs.Tree.{Text}
use Rattle.fhir_schema.specs.Schemas.{SchemaValue}
use Rattle.fhir_certificate.specs.declared.pair.Pair.{Pair}
use Rattle.fhir_certificate.specs.declared.pair.Pair.TheVariants.{Item, Kids}
use Rattle.fhir_certificate.specs.Certificate.{CertificateValue, fits}
use Rattle.fhir_certificate.specs.Format.{Line, text_of}
use Rattle.fhir_certificate.specs.Judging.{limit, certificate_of}
use Rattle.fhir_certificate.specs.Reading.{reading}
use Rattle.fhir_certificate.specs.Lines.{pair_in, pairs_of, item_in, kids_in}
use Rattle.fhir_certificate.specs.Writing.{written_by}
use Rattle.fhir_certificate.specs.Migrating.{written_again, migrated}
use Rattle.fhir_certificate.proofs.Judging.{NamedNodes, built, certificate_built, meant_fits, reads_ok}

-- ---- no more pairs than lines

item_first : (p : Pair) (ps : List Pair) → length (flat_map item_in (p ∷ ps)) + length (flat_map kids_in (p ∷ ps))
    ≡ suc (length (flat_map item_in ps) + length (flat_map kids_in ps))
item_first (Item pair) ps = omega arith
item_first (Kids pair) ps = omega arith

pairs_count : (ps : List Pair) → length (flat_map item_in ps) + length (flat_map kids_in ps) ≡ length ps
pairs_count [] = refl
pairs_count (p ∷ ps) = item_first p ps ∙ ap suc (pairs_count ps)

one_more : (o : Option Pair) (ps : List Pair) (n : ℕ) → length ps ≤ n → length (option_map_or (λ p. p ∷ ps) o ps) ≤ suc n
one_more None ps n le = omega arith
one_more (Some p) ps n le = omega arith

pairs_few : (s : SchemaValue) (lines : List Line) → length (pairs_of s lines) ≤ length lines
pairs_few s [] = omega arith
pairs_few s (line ∷ lines) = one_more (pair_in s line) (pairs_of s lines) (length lines) (pairs_few s lines)

-- ---- what was read

some_is : (o : Option CertificateValue) (c : CertificateValue) → o ≡ Some c → is_some o ≡ true
some_is o c e = ap is_some e

pub read_fits : NamedNodes → (s : SchemaValue) (bytes : Text) (c : CertificateValue) → reading s bytes ≡ Ok c → IsTrue (fits s c)
read_fits named s bytes c e = let h = reads_ok s bytes c e in meant_fits named s h.0 c h.2

pub read_few : (s : SchemaValue) (bytes : Text) (c : CertificateValue) → reading s bytes ≡ Ok c → length c.items + length c.kids ≤ limit
read_few s bytes c e =
    let h = reads_ok s bytes c e in
    let w = h.0 in
    let b = certificate_built s w (some_is (certificate_of s w) c h.2) in
    let same : built s w ≡ c = cc in
    let Few : CertificateValue → Type 0 = λ c. length c.items + length c.kids ≤ limit in
    let count = pairs_count (pairs_of s w.lines) in
    let few = pairs_few s w.lines in
    let le : length w.lines ≤ limit = h.3 in
    subst Few same (omega arith)

pub migrated_text : (s : SchemaValue) (bytes text : Text) (c : CertificateValue) → reading s bytes ≡ Ok c → migrated s bytes ≡ Ok text
    → reading s (text_of (written_by s c)) ≡ Ok c → reading s text ≡ Ok c
migrated_text s bytes text c read m back =
    let again : Ok (text_of (written_by s c)) ≡ Ok text = sym (ap (written_again s) read) ∙ m in
    let same : text_of (written_by s c) ≡ text = cc in
    ap (reading s) (sym same) ∙ back
