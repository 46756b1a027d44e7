-- What is said of each profile of OLD by itself, and how all of it is put together (used by private contracts alone).
use Rattle.std.specs.Prelude.{◌≡◌, ℕ, suc, List, [], ◌∷◌, ◌++◌, map, Bool, true, false, not, ◌||◌, Option, None, Some, is_some, IsTrue}
use Rattle.std.specs.Option.{option_map, option_and_then}
use Rattle.std.specs.List.{slice_get}
use Rattle.fhir_json.specs.Tree.{Text, Tree}
use Rattle.fhir_package.specs.Definitions.{ByUrl, Definitions}
use Rattle.fhir_schema.specs.Schemas.{SchemaValue, schema_of, is_usable, unusable}
use Rattle.fhir_alike.specs.Profiles.{has_profile}
use Rattle.fhir_alike.specs.Spreading.{told_at}
use Rattle.fhir_beside.specs.Standing.{ProfileValue, profile_at}
use Rattle.fhir_compare.specs.Losing.{lost_name}
use Rattle.fhir_compare.specs.Comparing.{ShownValue, Direction, new_in_old, old_in_new, IsShown, is_narrowing, WayValue, ways_with, VerdictValue, both, unusable_in, only_in_old, Said}

pub data OwnValue : Type 0 where
  own_both : (new_in_old old_in_new : ShownValue) → (lost : Option Text) → OwnValue
  own_unusable : (in_old in_new : Bool) → OwnValue
  own_only_in_old : OwnValue
  own_other : OwnValue

-- ---- what is said of one by itself

-- it is of two that can be used
abbrev pub IsBothOf : (old made : SchemaValue) → (lost : Option Text) → (url own : Text) → OwnValue → Type 0
IsBothOf old made lost url own (own_both n o l) = (l ≡ lost) × IsShown new_in_old old made url own n × IsShown old_in_new old made url own o
IsBothOf old made lost url own (own_unusable in_old in_new) = ⊥
IsBothOf old made lost url own own_only_in_old = ⊥
IsBothOf old made lost url own own_other = ⊥

-- it is of the profile of OLD at a place
abbrev pub IsOwnOf : (old made : Definitions) → (mark : Text) → (old_schema schema : SchemaValue) → ℕ → ProfileValue → OwnValue → Type 0
IsOwnOf old made mark old_schema schema place p (own_both n o l) =
    IsTrue (has_profile made p.0) × (is_usable old_schema place ≡ true) × (unusable schema p.0 ≡ None)
    × IsBothOf old_schema schema (lost_name old made old_schema schema p.1) p.0 (mark ++ p.0) (own_both n o l)
IsOwnOf old made mark old_schema schema place p (own_unusable in_old in_new) =
    IsTrue (has_profile made p.0) × IsTrue (in_old || in_new) × (in_old ≡ not (is_usable old_schema place)) × (in_new ≡ is_some (unusable schema p.0))
IsOwnOf old made mark old_schema schema place p own_only_in_old = has_profile made p.0 ≡ false
IsOwnOf old made mark old_schema schema place p own_other = ⊥

abbrev pub IsOwnBy : (old made : Definitions) → (mark : Text) → ℕ → Option ProfileValue → OwnValue → Type 0
IsOwnBy old made mark place (Some p) own = IsOwnOf old made mark (schema_of old) (schema_of made) place p own
IsOwnBy old made mark place None own = own ≡ own_other

-- it is of what stands at a place of OLD
abbrev pub IsOwnAt : (old made : Definitions) → (mark : Text) → ℕ → OwnValue → Type 0
IsOwnAt old made mark place own = IsOwnBy old made mark place (profile_at old place) own

abbrev pub AreOwnsFrom : (old made : Definitions) → (mark : Text) → ℕ → ByUrl → List OwnValue → Type 0
AreOwnsFrom old made mark place [] owns = owns ≡ []
AreOwnsFrom old made mark place (e ∷ es) [] = ⊥
AreOwnsFrom old made mark place (e ∷ es) (own ∷ owns) = IsOwnAt old made mark place own × AreOwnsFrom old made mark (suc place) es owns

abbrev pub AreOwns : (old made : Definitions) → (mark : Text) → List OwnValue → Type 0
AreOwns old made mark owns = AreOwnsFrom old made mark 0 old.structure_definitions owns

-- ---- which of them fail

abbrev pub shown_of : Direction → (new_in_old old_in_new : ShownValue) → ShownValue
shown_of new_in_old n o = n
shown_of old_in_new n o = o

-- a way isn't derived of it, or what it names doesn't stay
abbrev pub fails : Direction → OwnValue → Bool
fails way (own_both n o lost) = not (is_narrowing (shown_of way n o)) || is_some lost
fails way (own_unusable in_old in_new) = true
fails way own_only_in_old = true
fails way own_other = false

abbrev pub all_fail : Direction → List OwnValue → List Bool
all_fail way owns = map (fails way) owns

-- ---- put together with what they reach

-- the url of what is told of a place
abbrev pub blamed_url : Definitions → List (Option ℕ) → ℕ → Option Text
blamed_url old told place = option_and_then (λ at. option_map (λ e. e.0) (slice_get old.structure_definitions at)) (told_at told place)

abbrev pub way_with : ShownValue → Option Text → WayValue
way_with shown blamed = record { shown = shown; blamed = blamed }

abbrev pub verdict_by : Definitions → (in_old in_new : List (Option ℕ)) → ℕ → OwnValue → Option VerdictValue
verdict_by old in_old in_new place (own_both n o lost) =
    Some (both (ways_with (way_with n (blamed_url old in_old place)) (way_with o (blamed_url old in_new place)) lost))
verdict_by old in_old in_new place (own_unusable a b) = Some (unusable_in a b)
verdict_by old in_old in_new place own_only_in_old = Some only_in_old
verdict_by old in_old in_new place own_other = None

abbrev pub said_with : Option (Text × Tree) → Option VerdictValue → List Said
said_with (Some e) (Some verdict) = (e.0, verdict) ∷ []
said_with (Some e) None = []
said_with None verdict = []

abbrev pub said_by : Definitions → (in_old in_new : List (Option ℕ)) → ℕ → OwnValue → List Said
said_by old in_old in_new place own = said_with (slice_get old.structure_definitions place) (verdict_by old in_old in_new place own)

abbrev pub all_said_by : Definitions → (in_old in_new : List (Option ℕ)) → ℕ → List OwnValue → List Said
all_said_by old in_old in_new place [] = []
all_said_by old in_old in_new place (own ∷ owns) = said_by old in_old in_new place own ++ all_said_by old in_old in_new (suc place) owns
