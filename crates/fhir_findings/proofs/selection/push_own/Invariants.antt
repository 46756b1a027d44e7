use Rattle.std.proofs.Common.{◌≡◌, ◌++◌, map, filter, string_bytes}
use Rattle.fhir_package.specs.Definitions.{of_kind}
use Rattle.fhir_reach.specs.Keys.{of_url, keys_seen}
use Rattle.fhir_findings.specs.Selecting.{is_own, own_of}
use Rattle.fhir_findings.proofs.selection.push_own.Given as goal

abbrev pub invariant-loop-url : goal.invariant-loop-url
invariant-loop-url l =
    keys_seen l.into.items ++ map of_url (filter (is_own (map string_bytes l.prefixes)) l.url-iterator)
    ≡ keys_seen l.fn.into.items ++ map of_url (own_of (map string_bytes l.prefixes) (of_kind l.fn.kind l.«package»))
