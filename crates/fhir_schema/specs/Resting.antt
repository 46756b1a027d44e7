-- Which definitions rest on which, by their types and by the elements that they refer to (used by private contracts alone).
use Rattle.std.specs.Prelude.{ℕ, suc, List, [], ◌∷◌, ◌++◌, map, length, replicate, Option, is_some, is_none, if◌then◌else◌}
use Rattle.std.specs.List.{flat_map}
use Rattle.fhir_elements.specs.declared.reason.Reason.{Reason}
use Rattle.fhir_elements.specs.TypeEntry.{TypeEntry}
use Rattle.fhir_elements.specs.Element.{Element}
use Rattle.fhir_elements.specs.Tests.{first_of}
use Rattle.fhir_definition.specs.Snapshot.{is_root}
use Rattle.fhir_definition.specs.Definition.{Definition}
use Rattle.fhir_definition.specs.Gathering.{put_at}
use Rattle.fhir_nodes.specs.Types.{type_place, is_system}
use Rattle.fhir_schema.specs.Settling.{Reasons, target_place, tests, no_reasons}

-- ---- the places of what is asked for

abbrev pub entry_rests_on : List Definition → TypeEntry → List (Option ℕ)
entry_rests_on ds entry = if is_system entry.code then [] else type_place ds entry.code ∷ []

-- the type entries of a root are passed over
abbrev pub element_rests_on : List Definition → Element → List (Option ℕ)
element_rests_on ds e = if is_root e then [] else flat_map (entry_rests_on ds) e.types

-- that of the definition whose element is asked for
abbrev pub target_rests_on : List Definition → Definition → Element → List (Option ℕ)
target_rests_on ds d e = if is_none e.content_reference then [] else target_place ds d e ∷ []

abbrev pub rests_on : List Definition → Definition → List (Option ℕ)
rests_on ds d =
    type_place ds d.type ∷ flat_map (element_rests_on ds) d.elements ++ flat_map (target_rests_on ds d) d.elements

-- ---- the places of those that rest on each

-- a place into each list of those
abbrev pub put_under : List (Option ℕ) → ℕ → List (List ℕ) → List (List ℕ)
put_under [] place lists = lists
put_under (at ∷ ats) place lists = put_under ats place (put_at at place lists)

-- the places of so many definitions into the lists of those that they rest on
abbrev pub users_from : List Definition → List Definition → List (List ℕ) → List (List ℕ)
users_from ds [] lists = lists
users_from ds (e ∷ es) lists = users_from ds es (put_under (rests_on ds e) e.place lists)

abbrev pub users_of : List Definition → List (List ℕ)
users_of ds = users_from ds ds (replicate (length ds) [])

-- ---- what follows

-- why each can't be used, where it rests on no other that can't: the first round
abbrev pub first_reasons : List Definition → Reasons
first_reasons ds = map (λ d. first_of (tests ds (no_reasons ds) d)) ds

abbrev pub unusable_at : ℕ → Option Reason → List ℕ
unusable_at place reason = if is_some reason then place ∷ [] else []

-- the places of those that have a reason, from a place on
abbrev pub unusable_from : ℕ → Reasons → List ℕ
unusable_from place [] = []
unusable_from place (reason ∷ reasons) = unusable_at place reason ++ unusable_from (suc place) reasons
