-- What `derive` prints is a right certificate where it is read, what is found right is derived, and what `migrate` prints is judged as what it is made of.
use Rattle.std.proofs.Common.{◌≡◌, ◌≤◌, ◌+◌, length, eqb, Option, None, Some, Result, Ok, Err, IsTrue, refl, ap, sym, ◌∙◌, subst}
use Rattle.std.specs.Option.{option_map, option_map_or}
use Rattle.std.proofs.lemmas.Bool.{false≢true}
use Rattle.std.proofs.lemmas.Option.{same_Some}
use Rattle.fhir_json.specs.Tree.{Text}
use Rattle.fhir_package.specs.Changing.{AreSound, EachOnce}
use Rattle.fhir_package.specs.Definitions.{Definitions}
use Rattle.fhir_package.specs.Folder.{Files}
use Rattle.fhir_package.specs.Packing.{json_files, pack_files, pack}
use Rattle.fhir_package.specs.ReadFiles.{ReadFiles, given, all_given, pack_given}
use Rattle.fhir_package.specs.Surveying.{FileFault, Surveyed, survey, refusal, told_by, packed_by}
use Rattle.fhir_snapshot.specs.Completing.{Numbered, IsCompletion}
use Rattle.fhir_schema.specs.Schemas.{SchemaValue, schema_of}
use Rattle.fhir_certificate.specs.declared.fault.CertFault.{CertFault}
use Rattle.fhir_certificate.specs.declared.fault.CertFault.TheVariants.{UnknownNode}
use Rattle.fhir_certificate.specs.declared.pair.NodePair.{NodePair}
use Rattle.fhir_certificate.specs.declared.pair.Pair.{Pair}
use Rattle.fhir_certificate.specs.Certificate.{CertificateValue, fits}
use Rattle.fhir_certificate.specs.Format.{text_of}
use Rattle.fhir_certificate.specs.Judging.{limit}
use Rattle.fhir_certificate.specs.Migrating.{migrated}
use Rattle.fhir_certificate.specs.Reading.{reading}
use Rattle.fhir_certificate.specs.Writing.{written_by}
use Rattle.fhir_cert_check.specs.Checking.{is_among, roots_of, wrong_with, IsCertificate, answer_of}
use Rattle.fhir_cert_check.specs.Rule.{RuleName}
use Rattle.fhir_cert_check.proofs.Certified.{wrong_or_not}
use Rattle.fhir_derive_check.specs.Deriving.{IsDerived}
use Rattle.fhir_derive_check.specs.Reaching.{HasCertificate}
use Rattle.fhir_replies.specs.Deriving.{Derivation, derives, fails, missing, unusable, IsDerivationOf}
use Rattle.fhir_report.specs.Lacking.{numbers}
use Rattle.fhir_answers.specs.Answering.{IsDerivationReply}
use Rattle.fhir_answers.specs.Replying.{ReplyValue, status_of, out_of, checked_reply, certificate_reply, migrated_reply, derivation_reply}
use Rattle.fhir_answers.specs.Session.{SessionValue}
use Rattle.snapshot_laws.specs.Right.{AreRight}
use Rattle.answer_laws.specs.Folders.{files_in, IsSessionIn, IsRight}
use Rattle.answer_laws.proofs.Fitting.{AskedAreNodes, derived_fits}

-- ---- a certificate

abbrev pub WrittenBack : Type 0
WrittenBack = (p : Definitions) (c : CertificateValue) → AreSound p → EachOnce p → IsTrue (fits (schema_of p) c)
    → length c.items + length c.kids ≤ limit → reading (schema_of p) (text_of (written_by (schema_of p) c)) ≡ Ok c

module _ (back : WrittenBack) (asked : AskedAreNodes) (p : Definitions) (sound : AreSound p) (once : EachOnce p) where
  read_right : (derived base : Text) (c : CertificateValue) → IsDerived (schema_of p) derived base c → IsCertificate (schema_of p) c
      → length c.items + length c.kids ≤ limit
      → answer_of (reading (schema_of p) (text_of (written_by (schema_of p) c))) (schema_of p) ≡ Ok None
  read_right derived base c is right room =
      let s = schema_of p in
      ap (λ (r : Result CertificateValue CertFault). answer_of r s) (back p c sound once (derived_fits asked p derived base c is) room)
      ∙ ap (λ (o : Option NodePair). option_map_or (λ roots. Ok (wrong_with s c roots)) o (Err UnknownNode)) right.are_roots
      ∙ ap Ok ((wrong_or_not s c right.roots right.are_roots).1 right)

  -- the text of a certificate that is read, and right where it is
  pub record IsReadBack (text : Text) : Type 0 where
    pub certificate : CertificateValue
    pub text_is : text ≡ text_of (written_by (schema_of p) certificate)
    pub reads : length certificate.items + length certificate.kids ≤ limit → answer_of (reading (schema_of p) text) (schema_of p) ≡ Ok None

  read_derivation : (derived base : Text) (d : Derivation) → IsDerivationOf (schema_of p) derived base d
      → status_of (derivation_reply (schema_of p) derived base d) ≡ 0 → IsReadBack (out_of (derivation_reply (schema_of p) derived base d))
  read_derivation derived base (derives c) h e =
      record { certificate = c; text_is = refl; reads = read_right derived base c h.0 h.1 }
  read_derivation derived base (fails pair rule) h e = absurd (false≢true (ap (eqb 0) e))
  read_derivation derived base (missing side) h e = absurd (false≢true (ap (eqb 0) e))
  read_derivation derived base (unusable side) h e = absurd (false≢true (ap (eqb 0) e))

  pub read_reply : (derived base : Text) (reply : ReplyValue) → IsDerivationReply (schema_of p) derived base reply → status_of reply ≡ 0
      → IsReadBack (out_of reply)
  read_reply derived base reply is e =
      subst (λ (r : ReplyValue). IsReadBack (out_of r)) (sym is.is_reply)
      (read_derivation derived base is.derivation is.is_derivation (sym (ap status_of is.is_reply) ∙ e))

-- ---- a text that is found right

-- a certificate that is found right is one
module _ (s : SchemaValue) (c : CertificateValue) where
  right_with : (o : Option NodePair) → roots_of s c ≡ o → option_map_or (λ roots. Ok (wrong_with s c roots)) o (Err UnknownNode) ≡ Ok None → IsCertificate s c
  right_with None is e = absurd (no_error e)
    where
      no_error : ◌≡◌ {A = Result (Option (Pair × RuleName)) CertFault} (Err UnknownNode) (Ok None) → ⊥
      no_error e = cc
  right_with (Some roots) is e = (wrong_or_not s c roots is).0 (same_Ok e)
    where
      same_Ok : ◌≡◌ {A = Result (Option (Pair × RuleName)) CertFault} (Ok (wrong_with s c roots)) (Ok None) → wrong_with s c roots ≡ None
      same_Ok e = cc

  pub certificate_there : (bytes : Text) → reading s bytes ≡ Ok c → answer_of (reading s bytes) s ≡ Ok None → HasCertificate s c.derived c.base
  certificate_there bytes is e =
      let right = right_with (roots_of s c) refl (sym (ap (λ (r : Result CertificateValue CertFault). answer_of r s) is) ∙ e) in
      record {
        roots = right.roots;
        are_roots = right.are_roots;
        tenable = record { set = is_among c; has = right.rooted; right = right.right };
      }

-- ---- a text that is migrated

same_status : (one other : Text) (s : SchemaValue) (r : Result (Option (Pair × RuleName)) CertFault)
    → status_of (checked_reply one s r) ≡ status_of (checked_reply other s r)
same_status one other s (Ok None) = refl
same_status one other s (Ok (Some failing)) = refl
same_status one other s (Err fault) = refl

migrated_by : (name : Text) (r : Result Text CertFault) → status_of (migrated_reply name r) ≡ 0 → r ≡ Ok (out_of (migrated_reply name r))
migrated_by name (Ok text) e = refl
migrated_by name (Err fault) e = absurd (false≢true (ap (eqb 0) e))

module _ (s : SchemaValue) (old new bytes : Text) (made one other : ReplyValue) (is_made : made ≡ migrated_reply old (migrated s bytes)) (status : status_of made ≡ 0)
    (is_one : one ≡ certificate_reply old s bytes) (is_other : other ≡ certificate_reply new s (out_of made)) where
  pub migrated_is : migrated s bytes ≡ Ok (out_of made)
  migrated_is =
      migrated_by old (migrated s bytes) (sym (ap status_of is_made) ∙ status)
      ∙ ap (λ (r : ReplyValue). Ok (out_of r)) (sym is_made)

  pub judged_alike : answer_of (reading s bytes) s ≡ answer_of (reading s (out_of made)) s → status_of one ≡ status_of other
  judged_alike same =
      ap status_of is_one ∙ same_status old new s (answer_of (reading s bytes) s)
      ∙ ap (λ (r : Result (Option (Pair × RuleName)) CertFault). status_of (checked_reply new s r)) same ∙ sym (ap status_of is_other)

-- ---- the package of a session

module _
    (packed : (files : Files) (p : Definitions) → pack files ≡ Ok p → AreSound p × EachOnce p)
    (surveyed : (files : ReadFiles) → packed_by (survey files) ≡ pack_given files)
    (all : (files : Files) → all_given (given files) ≡ Some files)
    (stays_sound : (old new : Definitions) (faults : Numbered) → AreSound old → AreRight old → IsCompletion old new faults → AreSound new)
    (stays_once : (old new : Definitions) (faults : Numbered) → EachOnce old → IsCompletion old new faults → EachOnce new)
    (folder : Files) where
  -- the package of the folder's files, where nothing is wrong with them
  is_packed : refusal (survey (files_in folder)) ≡ None → pack folder ≡ Ok (survey (files_in folder)).definitions
  is_packed none =
      same_Some (pack folder) (Ok (survey (files_in folder)).definitions)
      (sym (ap (option_map pack_files) (all (json_files folder))) ∙ sym (surveyed (files_in folder))
      ∙ ap (λ (o : Option FileFault). told_by o (survey (files_in folder)).definitions) none)

  module _ (s : SessionValue) (is : IsSessionIn folder s) (none : refusal s.survey ≡ None) where
    none_read : refusal (survey (files_in folder)) ≡ None
    none_read = sym (ap (λ (v : Surveyed). refusal v) is.completed.survey_is) ∙ none

    files_sound : AreSound (survey (files_in folder)).definitions × EachOnce (survey (files_in folder)).definitions
    files_sound = packed folder (survey (files_in folder)).definitions (is_packed none_read)

    pub session_sound : IsRight folder → AreSound s.survey.definitions
    session_sound right =
        stays_sound (survey (files_in folder)).definitions s.survey.definitions (numbers s.lacking) files_sound.0 right is.completed.completed

    pub session_once : EachOnce s.survey.definitions
    session_once = stays_once (survey (files_in folder)).definitions s.survey.definitions (numbers s.lacking) files_sound.1 is.completed.completed
