-- What lines tell that are put in one after the other.
use Rattle.std.proofs.Common.{◌≡◌, All, Option, None, Some, Result, Ok, codes, ℕ, ◌+◌, ◌<◌, ◌≤◌, List, [], ◌∷◌, ◌++◌, length, get_or, take, map, flat_map, Bool, sym, ap, ◌∙◌, subst, append_assoc, append-nil}
use Rattle.std.proofs.lemmas.Grind.{flat_map-append}
use Rattle.std.proofs.lemmas.List.Elements.{All-push}
use Rattle.std.proofs.lemmas.List.{map-append, take_more, take_all}
use Rattle.fhir_findings.specs.declared.finding.Finding.{Finding}
use Rattle.fhir_findings.specs.Finding.{fault_told, faults_told, unusable_told, all_told as unusable_each}
use Rattle.fhir_cert_check.specs.Texts.{pair_text}
use Rattle.fhir_lines.specs.declared.line.Line.{Line}
use Rattle.fhir_lines.specs.declared.line.FaultNumber.{FaultNumber}
use Rattle.fhir_lines.specs.Lines.{LineValue, file_line, line_seen, lines_seen, row, rows}
use Rattle.fhir_words.specs.declared.request.Format.{Format}
use Rattle.fhir_json.specs.Tree.{Text}
use Rattle.fhir_schema.specs.Schemas.{SchemaValue}
use Rattle.fhir_certificate.specs.declared.fault.CertFault.{CertFault}
use Rattle.fhir_certificate.specs.declared.pair.Pair.{Pair}
use Rattle.fhir_cert_check.specs.Rule.{RuleName}
use Rattle.fhir_report.specs.Report.{Head, head, fault_head, unusable_head, is_of_file, is_unusable, kept, all_told, IsOfCertificate, TellsAnswer}
use Rattle.fhir_report.specs.Growing.{Grows}
use Rattle.fhir_report.specs.Lacking.{Lacking}

-- ---- of several

all_told-append : (is : FaultNumber → Bool) (xs ys : List LineValue) → all_told is (xs ++ ys) ≡ all_told is xs ++ all_told is ys
all_told-append is xs ys = flat_map-append (λ l. kept is (head l)) xs ys

-- some, and then others
then : (a b c : List Line) (f d g e : List Head) → Grows a b f d → Grows b c g e → Grows a c (f ++ g) (d ++ e)
then a b c f d g e first second =
    let both : (kind : FaultNumber → Bool) (hs ks : List Head) → all_told kind (lines_seen b) ≡ all_told kind (lines_seen a) ++ hs
    → all_told kind (lines_seen c) ≡ all_told kind (lines_seen b) ++ ks → all_told kind (lines_seen c) ≡ all_told kind (lines_seen a) ++ (hs ++ ks) =
    (λ kind hs ks one two.
    two ∙ ap (λ (xs : List Head). xs ++ ks) one ∙ append_assoc (all_told kind (lines_seen a)) hs ks) in
    (both is_of_file f g first.0 second.0, both is_unusable d e first.1 second.1)

-- the same by other lists that are equal to them
grows_of : (a b : List Line) (f d g e : List Head) → f ≡ g → d ≡ e → Grows a b f d → Grows a b g e
grows_of a b f d g e of_f of_d is = (
  is.0 ∙ ap (λ (xs : List Head). all_told is_of_file (lines_seen a) ++ xs) of_f,
  is.1 ∙ ap (λ (xs : List Head). all_told is_unusable (lines_seen a) ++ xs) of_d,
)

-- ---- findings

flat_more : {A B C : Type 0} (view : B → C) (f : A → List B) (xs : List A) (i : ℕ) (x : A) → i < length xs → x ≡ get_or xs i x
    → map view (flat_map f (take i xs)) ++ map view (f x) ≡ map view (flat_map f (take (i + 1) xs))
flat_more view f xs i x less is =
    sym (map-append view (flat_map f (take i xs)) (f x))
    ∙ ap (map view)
    (ap (λ (ys : List _). flat_map f (take i xs) ++ ys) (sym (append-nil (f x))) ∙ sym (flat_map-append f (take i xs) (x ∷ []))
    ∙ ap (flat_map f) (ap (λ (y : _). take i xs ++ y ∷ []) is ∙ sym (take_more xs i x less)))

module _ (lacking : Lacking) where
  -- a line tells one finding more
  pub next : (a b : List Line) (found : List Finding) (i : ℕ) (x : Finding) → i < length found → x ≡ get_or found i x
      → Grows [] a (map fault_head (faults_told (take i found))) (map (unusable_head lacking) (unusable_each (take i found)))
      → Grows a b (map fault_head (fault_told x)) (map (unusable_head lacking) (unusable_told x))
      → Grows [] b (map fault_head (faults_told (take (i + 1) found))) (map (unusable_head lacking) (unusable_each (take (i + 1) found)))
  next a b found i x less is before line =
      let f = map fault_head (faults_told (take i found)) in
      let d = map (unusable_head lacking) (unusable_each (take i found)) in
      let g = map fault_head (fault_told x) in
      let e = map (unusable_head lacking) (unusable_told x) in
      grows_of [] b (f ++ g) (d ++ e) (map fault_head (faults_told (take (i + 1) found))) (map (unusable_head lacking) (unusable_each (take (i + 1) found)))
      (flat_more fault_head fault_told found i x less is) (flat_more (unusable_head lacking) unusable_told found i x less is)
      (then [] a b f d g e before line)

  -- all are told
  pub last : (a : List Line) (found : List Finding) (i : ℕ) → length found ≤ i
      → Grows [] a (map fault_head (faults_told (take i found))) (map (unusable_head lacking) (unusable_each (take i found)))
      → Grows [] a (map fault_head (faults_told found)) (map (unusable_head lacking) (unusable_each found))
  last a found i all before =
      subst (λ (fs : List Finding). Grows [] a (map fault_head (faults_told fs)) (map (unusable_head lacking) (unusable_each fs))) (take_all i found all) before

-- ---- rows

pub four_rows : (format : Format) (xs ys zs : List LineValue) (l : LineValue) (a b c d : List ℕ) → a ≡ rows format xs → b ≡ a ++ rows format ys
    → c ≡ b ++ rows format zs → d ≡ c ++ row format l → d ≡ rows format (xs ++ ys ++ zs ++ l ∷ [])
four_rows format xs ys zs l a b c d first second third fourth =
    let two : b ≡ rows format (xs ++ ys) =
    second ∙ ap (λ (t : List ℕ). t ++ rows format ys) first ∙ sym (flat_map-append (row format) xs ys) in
    let three : c ≡ rows format (xs ++ ys ++ zs) =
    third ∙ ap (λ (t : List ℕ). t ++ rows format zs) two ∙ sym (flat_map-append (row format) (xs ++ ys) zs) in
    fourth ∙ ap (λ (t : List ℕ). t ++ row format l) three
    ∙ ap (λ (t : List ℕ). rows format (xs ++ ys ++ zs) ++ t) (sym (append-nil (row format l)))
    ∙ sym (flat_map-append (row format) (xs ++ ys ++ zs) (l ∷ []))

-- ---- certificates

pub one_flaw_more : (file : Text) (old new : List Line) (l : Line) → new ≡ old ++ l ∷ [] → IsOfCertificate file (line_seen l)
    → All (IsOfCertificate file) (lines_seen old) → All (IsOfCertificate file) (lines_seen new)
one_flaw_more file old new l is of_l all =
    subst (λ ls. All (IsOfCertificate file) ls) (sym (ap lines_seen is ∙ map-append line_seen old (l ∷ [])))
    (All-push (IsOfCertificate file) (lines_seen old) (line_seen l) all of_l)

-- a pair that fails a rule
pub no_told : (s : SchemaValue) (file : Text) (answer : Result (Option (Pair × RuleName)) CertFault) (wrong : Pair × RuleName) (l : LineValue)
    (ls : List LineValue) → answer ≡ Ok (Some wrong)
    → (words : Text) × (l ≡ file_line file None (codes "no: " ++ pair_text s wrong.0 ++ codes ": " ++ words)) → ls ≡ l ∷ [] → TellsAnswer s file answer ls
no_told s file answer wrong l ls is of_l one =
    subst (λ a. TellsAnswer s file a ls) (sym is) (of_l.0, one ∙ ap (λ (x : LineValue). x ∷ []) of_l.1)
