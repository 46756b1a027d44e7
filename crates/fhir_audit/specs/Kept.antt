-- Words that the contracts of private functions alone cite: what is kept under the url of a definition.
use Rattle.std.specs.Prelude.{◌≡◌, List, [], Vec}
use Rattle.std.specs.BTreeMap.{BTreeMap, get_by}
use Rattle.std.specs.Borrow.{Bor}
use Rattle.std.specs.Cmp.Lexicographic.{slice_cmp}
use Rattle.std.specs.Option.{option_map_or}
use Rattle.std.specs.Ordering.{nat_cmp}
use Rattle.std.specs.declared.alloc.Global.{Global}
use Rattle.fhir_json.specs.Tree.{Text}
use Rattle.fhir_findings.specs.declared.carrier.Carrier.{Carrier as CarrierOf}
use Rattle.fhir_findings.specs.Carrying.{Carrier}
use Rattle.fhir_findings.specs.Views.{carriers_seen}
use Rattle.fhir_audit.specs.Unread.{carriers_of}

abbrev pub kept_under : Text → BTreeMap (Bor Text) (Vec CarrierOf Global) → List CarrierOf
kept_under url groups = option_map_or (λ g. g.items) (get_by (λ k. slice_cmp nat_cmp url k.now) groups) []

-- under each url is kept what its definition carries, of these
abbrev pub AreGrouped : List Carrier → BTreeMap (Bor Text) (Vec CarrierOf Global) → Type 0
AreGrouped cs groups = (url : Text) → carriers_seen (kept_under url groups) ≡ carriers_of url cs
