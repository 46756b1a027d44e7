-- Words that are kept under the keys and the expressions of constraints.
use Rattle.std.specs.Prelude.{◌≡◌, List, map, Option, None, Some}
use Rattle.std.specs.Option.{option_map, option_and_then}
use Rattle.std.specs.Map.{lookup}
use Rattle.std.specs.Borrow.{Bor}
use Rattle.std.specs.BTreeMap.{BTreeMap, get_by}
use Rattle.std.specs.Cmp.Lexicographic.{slice_cmp}
use Rattle.std.specs.Ordering.{nat_cmp}
use Rattle.std.specs.Str.{bytes_eq}
use Rattle.fhir_json.specs.Tree.{Text, Tree}
use Rattle.fhir_package.specs.Definitions.{Definitions}
use Rattle.fhir_plain.specs.Sayings.{first_said, saying_of}
use Rattle.fhir_plain.specs.declared.sayings.Maps.{Maps}

-- texts, each under another
abbrev pub Texts : Type 0
Texts = List (Text × Text)

-- the words under the keys of constraints that have no expression; and those of the others, under keys and expressions
pub record Kept : Type 0 where
  pub bare : Texts
  pub written : List (Text × Texts)

-- what is kept for a key, and for an expression or none
abbrev pub kept_for : Kept → Text → Option Text → Option Text
kept_for kept key None = lookup (bytes_eq key) kept.bare
kept_for kept key (Some expression) = option_and_then (lookup (bytes_eq expression)) (lookup (bytes_eq key) kept.written)

-- for each key, and each expression or none, it has what a package says
abbrev pub AreSayings : Definitions → Kept → Type 0
AreSayings p kept = (key : Text) (expression : Option Text) → kept_for kept key expression ≡ saying_of p key expression

-- ---- what contracts see

abbrev pub texts_seen : List (Bor Text × Bor Text) → Texts
texts_seen es = map (λ e. (e.0.now, e.1.now)) es

abbrev pub groups_seen : List (Bor Text × BTreeMap (Bor Text) (Bor Text)) → List (Text × Texts)
groups_seen es = map (λ e. (e.0.now, texts_seen e.1.entries)) es

abbrev pub maps_seen : Maps → Kept
maps_seen m = record { bare = texts_seen m.bare.entries; written = groups_seen m.written.entries }

-- the text under a name
abbrev pub text_under : Text → BTreeMap (Bor Text) (Bor Text) → Option Text
text_under name texts = option_map (λ t. t.now) (get_by (λ k. slice_cmp nat_cmp name k.now) texts)

-- that under a key and an expression
abbrev pub text_within : Text → Text → BTreeMap (Bor Text) (BTreeMap (Bor Text) (Bor Text)) → Option Text
text_within key expression groups = option_and_then (text_under expression) (get_by (λ k. slice_cmp nat_cmp key k.now) groups)

-- the same of both maps
abbrev pub found_in : Maps → Text → Option Text → Option Text
found_in maps key None = text_under key maps.bare
found_in maps key (Some expression) = text_within key expression maps.written

-- they have what the first of some constraints says
abbrev pub Says : Maps → List Tree → Type 0
Says maps ts = (key : Text) (expression : Option Text) → found_in maps key expression ≡ first_said key expression ts
