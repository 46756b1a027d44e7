-- What contracts see of an audit.
use Rattle.std.specs.Prelude.{List, map, string_bytes}
use Rattle.fhir_json.specs.Views.{text_seen}
use Rattle.fhir_cert_check.specs.Views.{rule_name}
use Rattle.fhir_audit.specs.declared.verdict.Audited.{Audited}
use Rattle.fhir_audit.specs.declared.verdict.Verdict.{Verdict}
use Rattle.fhir_audit.specs.declared.verdict.Verdict.TheVariants.{Narrows, DoesNotNarrow, IsNotShown, CannotBeUsed, HasNoBase}
use Rattle.fhir_audit.specs.Auditing.{AuditedValue}
use Rattle.fhir_audit.specs.Verdicts.{VerdictValue, narrows, does_not_narrow, is_not_shown, cannot_be_used, has_no_base}

abbrev pub verdict_seen : Verdict → VerdictValue
verdict_seen (Narrows c) = narrows c
verdict_seen (DoesNotNarrow pair rule resource) = does_not_narrow pair (rule_name rule) resource.items
verdict_seen (IsNotShown pair rule) = is_not_shown pair (rule_name rule)
verdict_seen (CannotBeUsed side) = cannot_be_used side
verdict_seen HasNoBase = has_no_base

abbrev pub audited_seen : Audited → AuditedValue
audited_seen a = record {
  place = a.place;
  url = a.url.now;
  canonical = text_seen a.canonical;
  base = text_seen a.base;
  verdict = verdict_seen a.verdict;
  unread = map string_bytes a.unread.items;
}

abbrev pub all_audited : List Audited → List AuditedValue
all_audited told = map audited_seen told
