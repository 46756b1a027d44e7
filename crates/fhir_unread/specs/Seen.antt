-- Words that the contracts of private functions alone cite: what they see of sayings.
use Rattle.std.specs.Prelude.{◌≡◌, List, [], map, filter, Vec}
use Rattle.std.specs.BTreeMap.{BTreeMap, get_by}
use Rattle.std.specs.Borrow.{Bor}
use Rattle.std.specs.Cmp.Lexicographic.{slice_cmp}
use Rattle.std.specs.Option.{option_map_or}
use Rattle.std.specs.Ordering.{nat_cmp}
use Rattle.std.specs.Str.{bytes_eq}
use Rattle.std.specs.declared.alloc.Global.{Global}
use Rattle.fhir_json.specs.Tree.{Text}
use Rattle.fhir_unread.specs.declared.saying.Saying.{Saying as SayingOf}
use Rattle.fhir_package.specs.Definitions.{Definitions}
use Rattle.fhir_unread.specs.Sayings.{Saying, all_sayings}

abbrev pub saying_seen : SayingOf → Saying
saying_seen y = record { key = y.key.now; human = y.human.now; url = y.url.now; id = y.id.now }

abbrev pub sayings_seen : List SayingOf → List Saying
sayings_seen ys = map saying_seen ys

-- what is kept under a key
abbrev pub kept_under : Text → BTreeMap (Bor Text) (Vec SayingOf Global) → List SayingOf
kept_under key groups = option_map_or (λ g. g.items) (get_by (λ k. slice_cmp nat_cmp key k.now) groups) []

-- what is kept under each key are the sayings of a package that have it, in order
abbrev pub AreGrouped : Definitions → BTreeMap (Bor Text) (Vec SayingOf Global) → Type 0
AreGrouped p groups = (key : Text) → sayings_seen (kept_under key groups) ≡ filter (λ y. bytes_eq key y.key) (all_sayings p)
