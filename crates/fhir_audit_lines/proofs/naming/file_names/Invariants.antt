use Rattle.std.proofs.Common.{◌≡◌, ◌++◌, ℕ, List, map, take, drop, string_bytes}
use Rattle.std.specs.BTreeMap.{get_by_text}
use Rattle.std.specs.Option.{unwrap_or}
use Rattle.fhir_audit_lines.specs.Naming.{with_front, names_behind, file_names}
use Rattle.fhir_audit_lines.proofs.naming.file_names.Given as goal

abbrev pub invariant-loop-url : goal.invariant-loop-url
invariant-loop-url l = record {
  counted : (q : List ℕ) → unwrap_or (get_by_text l.fronts q) 0 ≡ with_front q (map (λ u. u.now) (take l.url-index l.urls));
  named : map string_bytes l.names.items ++ names_behind (map (λ u. u.now) (take l.url-index l.urls)) (map (λ u. u.now) (drop l.url-index l.urls))
      ≡ file_names (map (λ u. u.now) l.urls);
}
