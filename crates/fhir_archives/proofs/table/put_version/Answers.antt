use Rattle.std.proofs.Common.{List, ℕ, Some, String, string_bytes, subst}
use Rattle.std.specs.declared.alloc.Global.{Global}
use Rattle.std.specs.Ordering.{nat_cmp}
use Rattle.std.specs.Cmp.Lexicographic.{slice_cmp}
use Rattle.std.specs.String.{string_cmp}
use Rattle.std.specs.BTreeMap.{UpdatesBy}
use Rattle.fhir_archives.proofs.KnownLemmas.{put-known}
use Rattle.fhir_archives.proofs.table.put_version.Goals as goal

pub returns : goal.returns
returns c =
    let P : List ℕ → Type 0 =
    λ m. UpdatesBy string_cmp (λ (k : String Global). slice_cmp nat_cmp m (string_bytes k)) c.take_versions-of_name.new.versions c.insert.new.self (Some c.put.new.self) in
    put-known c.args.versions.now c.take_versions-of_name.new.versions c.insert.new.self c.args.name.now c.args.version.now c.take_versions-of_name.result c.put.new.self
    c.take_versions-of_name.ensures.taken (subst P c.in_ok-from_str.ensures.ok c.in_ok-insert.ensures.updates)
    c.take_versions-of_name.ensures.known c.in_ok-put.ensures.put
