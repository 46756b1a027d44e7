-- What contracts see of what is asked.
use Rattle.std.specs.Prelude.{List, map, Result, Ok, Err, string_bytes}
use Rattle.std.specs.Borrow.{Bor}
use Rattle.fhir_json.specs.Tree.{Text}
use Rattle.fhir_json.specs.Views.{text_seen}
use Rattle.fhir_words.specs.declared.request.Request.{Request}
use Rattle.fhir_words.specs.declared.request.Request.TheVariants.{Certify, Migrate, Validate, ValidateGiven, Snapshot, Derive, Counter, CounterGiven, Check, Unread}
use Rattle.fhir_words.specs.declared.request.Invocation.{Invocation}
use Rattle.fhir_words.specs.declared.request.Invocation.TheVariants.{Request as Asked, Version}
use Rattle.fhir_words.specs.declared.request.Task.{Task}
use Rattle.fhir_words.specs.declared.request.Task.TheVariants.{Answer, Serve, Gather, ValidateAll, Audit, Compare}
use Rattle.fhir_words.specs.declared.request.AuditRequest.{AuditRequest}
use Rattle.fhir_words.specs.declared.request.BulkRequest.{BulkRequest}
use Rattle.fhir_words.specs.declared.request.CompareRequest.{CompareRequest}
use Rattle.fhir_words.specs.declared.request.WordsFault.{WordsFault}
use Rattle.fhir_words.specs.Requests.{RequestValue, certify, migrate, validate, validate_given, snapshot, derive, counter, counter_given, check, unread, InvocationValue, request, version, BulkValue, AuditValue, CompareValue, TaskValue, answer, serve, gather, validate_all, audit, compare}

abbrev pub texts_seen : List (Bor Text) → List Text
texts_seen texts = map (λ t. t.now) texts

abbrev pub request_seen : Request → RequestValue
request_seen (Certify folder file) = certify folder.now file.now
request_seen (Migrate folder file) = migrate folder.now file.now
request_seen (Validate folder profile file) = validate folder.now profile.now file.now
request_seen (ValidateGiven folder profile file given) = validate_given folder.now profile.now file.now given.now
request_seen (Snapshot folder url) = snapshot folder.now url.now
request_seen (Derive folder derived base) = derive folder.now derived.now base.now
request_seen (Counter folder derived base) = counter folder.now derived.now base.now
request_seen (CounterGiven folder derived base given) = counter_given folder.now derived.now base.now given.now
request_seen (Check folder certificate prefixes manner) = check folder.now (text_seen certificate) (map string_bytes prefixes.items) manner
request_seen (Unread folder profile) = unread folder.now (text_seen profile)

abbrev pub invocation_seen : Invocation → InvocationValue
invocation_seen (Asked asked) = request (request_seen asked)
invocation_seen Version = version

abbrev pub bulk_seen : BulkRequest → BulkValue
bulk_seen b = record {
  folder = b.folder.now;
  profile = text_seen b.profile;
  inputs = map text_seen b.inputs.items;
  given = text_seen b.given;
  format = b.format;
  only_bad = b.only_bad;
  skip_unknown = b.skip_unknown;
}

abbrev pub audit_seen : AuditRequest → AuditValue
audit_seen a = record {
  folder = a.folder.now;
  prefixes = map string_bytes a.prefixes.items;
  given = text_seen a.given;
  page = text_seen a.page;
  certificates = text_seen a.certificates;
  against = text_seen a.against;
  format = a.format;
}

abbrev pub compare_seen : CompareRequest → CompareValue
compare_seen c = record { old = c.old.now; new = c.new.now; audience = c.audience; format = c.format }

abbrev pub task_seen : Task → TaskValue
task_seen (Answer asked) = answer (invocation_seen asked)
task_seen (Serve folder given) = serve folder.now (text_seen given)
task_seen (Gather g) = gather g.out.now (texts_seen g.folders.items) g.detail
task_seen (ValidateAll b) = validate_all (bulk_seen b)
task_seen (Audit a) = audit (audit_seen a)
task_seen (Compare c) = compare (compare_seen c)

abbrev pub asked_seen : Result Invocation WordsFault → Result InvocationValue WordsFault
asked_seen (Ok asked) = Ok (invocation_seen asked)
asked_seen (Err fault) = Err fault
