-- What is said of the profiles of a url of which OLD or NEW has one.
use Rattle.std.specs.Prelude.{◌≡◌, ℕ, suc, List, [], ◌∷◌, ◌++◌, map, filter, Bool, true, false, not, ◌&&◌, ◌||◌, Option, None, Some, is_none, is_some, nat_eq, IsSome, IfSome, IsTrue, if◌then◌else◌}
use Rattle.std.specs.List.{slice_get, filter_map, starts_with}
use Rattle.fhir_json.specs.Tree.{Text, Tree}
use Rattle.fhir_package.specs.declared.kind.Kind.TheVariants.{StructureDefinition}
use Rattle.fhir_package.specs.Definitions.{ByUrl, Definitions}
use Rattle.fhir_definition.specs.Definition.{Definition, definition_of}
use Rattle.fhir_schema.specs.Schemas.{SchemaValue, schema_of, is_usable, unusable}
use Rattle.fhir_certificate.specs.declared.pair.Pair.{Pair}
use Rattle.fhir_cert_check.specs.Rule.{RuleName}
use Rattle.fhir_cert_check.specs.Inclusion.{Includes}
use Rattle.fhir_derive_check.specs.Blaming.{IsToBlame}
use Rattle.fhir_derive_check.specs.Faults.{derive_refusal}
use Rattle.fhir_derive_check.specs.Reaching.{HasCertificate}
use Rattle.fhir_counter.specs.Shows.{AlwaysConforms, NeverConforms}
use Rattle.fhir_json.specs.Grammar.{Reads}
use Rattle.fhir_alike.specs.Profiles.{is_profile, has_profile}
use Rattle.fhir_alike.specs.Naming.{profiles_named, place_named}
use Rattle.fhir_alike.specs.Spreading.{Edges, Reaches}
use Rattle.fhir_compare.specs.Losing.{lost_name}
use Rattle.fhir_compare.specs.declared.verdict.Change.{Change}
use Rattle.fhir_compare.specs.declared.verdict.Change.TheVariants.{Same, Narrows, Widens, Neither}

-- ---- what is shown of two profiles

-- that the one narrows the other; that a pair fails a rule, perhaps with a resource; or that one of them can't be used
pub data ShownValue : Type 0 where
  narrows : ShownValue
  fails : Pair → RuleName → (resource : Option (List ℕ)) → ShownValue
  cannot_be_used : ShownValue

abbrev pub is_narrowing : ShownValue → Bool
is_narrowing narrows = true
is_narrowing (fails pair rule resource) = false
is_narrowing cannot_be_used = false

-- ---- the two ways

-- that NEW's narrows OLD's, or that OLD's narrows NEW's
pub data Direction : Type 0 where
  new_in_old old_in_new : Direction

-- a resource conforms to the profile at a url by one schema, and doesn't to that by another
abbrev pub ShowsBy : (one other : SchemaValue) → (url bytes : Text) → Type 0
ShowsBy one other url bytes = (t : Tree) × Reads bytes t × AlwaysConforms one url t × NeverConforms other url t

-- A resource conforms to NEW's profile and not to OLD's, or the reverse: OLD's as OLD by itself says, NEW's as the package says that is made.
abbrev pub ShowsBetween : Direction → (old made : SchemaValue) → (url bytes : Text) → Type 0
ShowsBetween new_in_old old made url bytes = ShowsBy made old url bytes
ShowsBetween old_in_new old made url bytes = ShowsBy old made url bytes

-- By the url and the one under which OLD's stands beside NEW's.
abbrev pub sides_by : Direction → (url own : Text) → Text × Text
sides_by new_in_old url own = (url, own)
sides_by old_in_new url own = (own, url)

-- The one profile narrows the other: a certificate shows it, and each JSON value that conforms to the one conforms to the other.
abbrev pub NarrowsBy : SchemaValue → Text × Text → Type 0
NarrowsBy made sides = HasCertificate made sides.0 sides.1 × Includes made sides.0 sides.1

-- It is what `diagnose` says of two profiles, in the package that is made, and a resource shows it.
abbrev pub IsShownBy : SchemaValue → Text × Text → (Text → Type 0) → ShownValue → Type 0
IsShownBy made sides shows narrows = NarrowsBy made sides
IsShownBy made sides shows (fails pair rule resource) =
    (HasCertificate made sides.0 sides.1 → ⊥) × IsToBlame made sides.0 sides.1 pair rule × IfSome resource shows
IsShownBy made sides shows cannot_be_used = IsSome (derive_refusal made sides.0 sides.1)

abbrev pub IsShown : Direction → (old made : SchemaValue) → (url own : Text) → ShownValue → Type 0
IsShown way old made url own shown = IsShownBy made (sides_by way url own) (ShowsBetween way old made url) shown

-- what is said of one way: what is shown, and the url of a profile that is reached of which the way isn't shown
pub record WayValue : Type 0 where
  pub shown : ShownValue
  pub blamed : Option Text

-- both ways, and a canonical that OLD's names and that doesn't mean the same in both packages
pub record WaysValue : Type 0 where
  pub new_in_old : WayValue
  pub old_in_new : WayValue
  pub lost : Option Text

abbrev pub ways_with : (new_in_old old_in_new : WayValue) → Option Text → WaysValue
ways_with n o lost = record { new_in_old = n; old_in_new = o; lost = lost }

abbrev pub way_of : WaysValue → Direction → WayValue
way_of w new_in_old = w.new_in_old
way_of w old_in_new = w.old_in_new

abbrev pub holds : WayValue → Bool
holds w = is_none w.blamed

abbrev pub change_by : (new_in_old old_in_new : Bool) → Change
change_by true true = Same
change_by true false = Narrows
change_by false true = Widens
change_by false false = Neither

abbrev pub change_of : WaysValue → Change
change_of w = change_by (holds w.new_in_old) (holds w.old_in_new)

pub data VerdictValue : Type 0 where
  both : WaysValue → VerdictValue
  unusable_in : (old new : Bool) → VerdictValue
  only_in_old only_in_new : VerdictValue

-- a url, with what is said of its profiles
abbrev pub Said : Type 0
Said = Text × VerdictValue

-- the definition at a place
abbrev pub definition_at : ℕ → Text × Tree → Definition
definition_at place e = definition_of place e.0 e.1

-- what a profile of OLD names that doesn't mean the same in the package that is made
abbrev pub lost_at : (old made : Definitions) → ℕ → Text × Tree → Option Text
lost_at old made place e = lost_name old made (schema_of old) (schema_of made) (definition_at place e)

-- ---- what is reached

-- The places of what a profile of OLD names as profiles of types. Only a profile leads on, since types are NEW's; a target leads nowhere, since it is
-- judged by its type alone.
abbrev pub leads_to : Definitions → ℕ → Text × Tree → List ℕ
leads_to old place e = if is_profile e.1 then filter_map (place_named StructureDefinition old) (profiles_named (definition_at place e)) else []

abbrev pub edges_from : Definitions → ℕ → ByUrl → Edges
edges_from old place [] = []
edges_from old place (e ∷ es) = leads_to old place e ∷ edges_from old (suc place) es

abbrev pub edges : Definitions → Edges
edges old = edges_from old 0 old.structure_definitions

-- ---- what NEW alone has

-- a url isn't one of OLD's that are put in, and OLD has no profile of it
abbrev pub is_new_url : Definitions → Text → Text → Bool
is_new_url old mark url = not (starts_with nat_eq url mark) && not (has_profile old url)

-- a profile of NEW, of whose url OLD has none
abbrev pub is_new : Definitions → Text → Text × Tree → Bool
is_new old mark e = is_profile e.1 && is_new_url old mark e.0

abbrev pub new_at : Definitions → Text → Option (Text × Tree) → List Said
new_at old mark None = []
new_at old mark (Some e) = if is_new old mark e then (e.0, only_in_new) ∷ [] else []

abbrev pub all_new : (old made : Definitions) → (mark : Text) → List Said
all_new old made mark = map (λ e. (e.0, only_in_new)) (filter (is_new old mark) made.structure_definitions)

-- ---- of OLD, of the package that is made of NEW and of it, and of the mark

module _ (old made : Definitions) (mark : Text) where
  abbrev pub are_usable : ℕ → Text × Tree → Bool
  are_usable place e = is_usable (schema_of old) place && is_none (unusable (schema_of made) e.0)

  -- NEW has a profile of that url too
  abbrev pub are_in_both : Text × Tree → Bool
  are_in_both e = has_profile made e.0

  -- ---- where a way holds

  -- A way is derived of the profile at a place, which both packages have and can use, and all that it names stays.
  abbrev pub IsDerivedAt : Direction → ℕ → Text × Tree → Type 0
  IsDerivedAt way place e =
      IsTrue (are_in_both e) × IsTrue (are_usable place e) × IsTrue (is_none (lost_at old made place e))
      × NarrowsBy (schema_of made) (sides_by way e.0 (mark ++ e.0))

  -- A way fails at a place: a profile stands there, of which it isn't derived.
  abbrev pub FailsAt : Direction → ℕ → Type 0
  FailsAt way place =
      (e : Text × Tree) × (slice_get old.structure_definitions place ≡ Some e) × IsTrue (is_profile e.1) × (IsDerivedAt way place e → ⊥)

  -- A way holds of the profile at a place: it is derived of each profile that is reached from there, itself included.
  abbrev pub Holds : Direction → ℕ → Type 0
  Holds way place =
      (other : ℕ) (e : Text × Tree) → Reaches (edges old) place other → slice_get old.structure_definitions other ≡ Some e
      → IsTrue (is_profile e.1) → IsDerivedAt way other e

  -- the profile of that url is reached, and fails
  abbrev pub IsBlamed : Direction → ℕ → Text → Type 0
  IsBlamed way place url =
      (other : ℕ) × (e : Text × Tree) × (slice_get old.structure_definitions other ≡ Some e) × (e.0 ≡ url) × Reaches (edges old) place other
      × FailsAt way other

  -- ---- what is said

  -- A way holds exactly where no profile is blamed. Where it fails at the profile itself, that one is.
  pub record IsWay (way : Direction) (place : ℕ) (e : Text × Tree) (w : WayValue) : Type 0 where
    pub is_shown : IsShown way (schema_of old) (schema_of made) e.0 (mark ++ e.0) w.shown
    pub blamed : IfSome w.blamed (IsBlamed way place)
    pub own : (IsDerivedAt way place e → ⊥) → w.blamed ≡ Some e.0
    pub holds : w.blamed ≡ None → Holds way place

  abbrev pub IsVerdict : ℕ → Text × Tree → VerdictValue → Type 0
  IsVerdict place e (both w) =
      IsTrue (are_in_both e) × IsTrue (are_usable place e) × (w.lost ≡ lost_at old made place e)
      × ((way : Direction) → IsWay way place e (way_of w way))
  IsVerdict place e (unusable_in in_old in_new) =
      IsTrue (are_in_both e) × IsTrue (in_old || in_new)
      × (in_old ≡ not (is_usable (schema_of old) place)) × (in_new ≡ is_some (unusable (schema_of made) e.0))
  IsVerdict place e only_in_old = are_in_both e ≡ false
  IsVerdict place e only_in_new = ⊥

  -- where a profile stands it is said first, and then the rest
  abbrev pub SaysFirst : Bool → ℕ → Text × Tree → (List Said → Type 0) → List Said → Type 0
  SaysFirst false place e rest said = rest said
  SaysFirst true place e rest said =
      (v : VerdictValue) × (others : List Said) × (said ≡ (e.0, v) ∷ others) × IsVerdict place e v × rest others

  -- of each profile of OLD, in order
  abbrev pub AreOld : ℕ → ByUrl → List Said → Type 0
  AreOld place [] said = said ≡ []
  AreOld place (e ∷ es) said = SaysFirst (is_profile e.1) place e (AreOld (suc place) es) said

  -- all of OLD's profiles in order, each once, and behind them those that NEW alone has
  abbrev pub IsComparison : List Said → Type 0
  IsComparison said = (of_old : List Said) × AreOld 0 old.structure_definitions of_old × (said ≡ of_old ++ all_new old made mark)
