-- Certificates that are told one after the other, and what all of that is.
use Rattle.std.proofs.Common.{◌≡◌, ℕ, ◌+◌, ◌<◌, ◌≤◌, List, [], ◌∷◌, ◌++◌, Option, drop, get_or, length, string_bytes, sym, subst, append_assoc}
use Rattle.std.proofs.lemmas.List.{append-nil, at_drop_more, at_drop_all}
use Rattle.fhir_json.specs.Tree.{Text}
use Rattle.fhir_words.specs.declared.request.Format.{Format}
use Rattle.fhir_package.specs.Definitions.{Definitions}
use Rattle.fhir_package.specs.Surveying.{Surveyed}
use Rattle.fhir_schema.specs.Schemas.{SchemaValue}
use Rattle.fhir_answers.specs.declared.reply.Status.{Status}
use Rattle.fhir_audit.specs.declared.verdict.Audited.{Audited}
use Rattle.fhir_audit.specs.Auditing.{IsAudit}
use Rattle.fhir_audit.specs.Standing.{IsHeld}
use Rattle.fhir_audit.specs.Views.{all_audited}
use Rattle.fhir_audit_lines.specs.declared.held_lines.HeldFile.{HeldFile}
use Rattle.fhir_audit_lines.specs.Held.{files_seen}
use Rattle.fhir_audit_lines.specs.Report.{IsReport}
use Rattle.fhir_audit_engine.specs.declared.asked.NamedBytes.{NamedBytes}
use Rattle.fhir_audit_engine.specs.Told.{audit_status, AreRechecked, AreRecheckedIf, IsAuditOf}

module _ (s : SchemaValue) (p : Definitions) where
  -- what is told of the files up to a place, with what is told of the rest behind it
  pub next_rechecked : (files : List NamedBytes) (i : ℕ) (d : NamedBytes) (all : List HeldFile) (h : HeldFile) → i < length files
      → string_bytes h.name ≡ string_bytes (get_or files i d).name → IsHeld s p (get_or files i d).bytes.items h.held
      → ((rest : List HeldFile) → AreRechecked s p (drop i files) rest → AreRechecked s p files (all ++ rest))
      → (rest : List HeldFile) → AreRechecked s p (drop (i + 1) files) rest → AreRechecked s p files ((all ++ h ∷ []) ++ rest)
  next_rechecked files i d all h lt name held before rest more =
      subst (λ l. AreRechecked s p files l) (sym (append_assoc all (h ∷ []) rest))
      (before (h ∷ rest) (subst (λ l. AreRechecked s p l (h ∷ rest)) (sym (at_drop_more (λ l. l) files i d lt)) (name, held, more)))

  -- where all of them are told, nothing is behind them
  pub all_rechecked : (files : List NamedBytes) (i : ℕ) (all : List HeldFile) → length files ≤ i
      → ((rest : List HeldFile) → AreRechecked s p (drop i files) rest → AreRechecked s p files (all ++ rest)) → AreRechecked s p files all
  all_rechecked files i all past so =
      subst (λ l. AreRechecked s p files l) (append-nil all)
      (so [] (subst (λ l. AreRechecked s p l []) (sym (at_drop_all (λ l. l) files i past)) tt))

-- by the schema and the survey that the audit was given
pub audit_of : (prefixes : List Text) (format : Format) (files : Option (List NamedBytes)) (texts : Option (List Text)) (s s' : SchemaValue) (v v' : Surveyed)
    (told told' : List Audited) (held held' : Option (List HeldFile)) (status : Status) (text : Text) → s' ≡ s → v' ≡ v → told' ≡ told → held' ≡ held
    → IsAudit prefixes texts s' v' (all_audited told) → AreRecheckedIf s v.definitions files held → status ≡ audit_status (all_audited told') held'
    → IsReport format s' told' (files_seen held') text → IsAuditOf prefixes format files texts s v status text
audit_of prefixes format files texts s s' v v' told told' held held' status text same_schema same_survey same_told same_held audit rechecked is report = record {
  told = told;
  is_audit = subst (λ (x : SchemaValue). IsAudit prefixes texts x v (all_audited told)) same_schema
      (subst (λ (x : Surveyed). IsAudit prefixes texts s' x (all_audited told)) same_survey audit);
  held = held;
  are_rechecked = rechecked;
  status_is = subst (λ (x : Option (List HeldFile)). status ≡ audit_status (all_audited told) x) same_held
      (subst (λ (x : List Audited). status ≡ audit_status (all_audited x) held') same_told is);
  report = subst (λ (x : SchemaValue). IsReport format x told (files_seen held) text) same_schema
      (subst (λ (x : List Audited). IsReport format s' x (files_seen held) text) same_told
      (subst (λ (x : Option (List HeldFile)). IsReport format s' told' (files_seen x) text) same_held report));
}
