-- What is to blame for each definition that can't be used, and what one round finds (used by private contracts alone).
use Rattle.std.specs.Prelude.{◌≡◌, ℕ, List, [], ◌∷◌, ◌++◌, map, length, get_or, set, Bool, ◌&&◌, nat_lt, Option, None, Some, is_none, if◌then◌else◌}
use Rattle.std.specs.Option.{option_and_then}
use Rattle.std.specs.List.{slice_get}
use Rattle.fhir_elements.specs.declared.reason.Reason.{Reason}
use Rattle.fhir_elements.specs.declared.reason.Reason.TheVariants.{NoTree, UnsupportedSlicing}
use Rattle.fhir_elements.specs.declared.cause.Blame.{Blame}
use Rattle.fhir_elements.specs.Causes.{blamed_reason, reason_unless, is_blame_among}
use Rattle.fhir_elements.specs.Tests.{first_of}
use Rattle.fhir_definition.specs.Definition.{Definition}
use Rattle.fhir_forms.specs.Forms.{spells_apart}
use Rattle.fhir_forms.specs.Criteria.{are_told_apart}
use Rattle.fhir_schema.specs.declared.settling.Lasting.{Lasting}
use Rattle.fhir_schema.specs.Settling.{Reasons, reason_at, chain_ends, tests}

abbrev pub Blames : Type 0
Blames = List (Option Blame)

abbrev pub blame_at : Blames → ℕ → Option Blame
blame_at blames place = get_or blames place None

abbrev pub reasons_of : Blames → Reasons
reasons_of blames = map blamed_reason blames

-- what a definition is whichever others can't be used
pub record IsLasting (ds : List Definition) (d : Definition) (lasting : Lasting) : Type 0 where
  pub ending : lasting.is_ending ≡ chain_ends ds d
  pub repeated : blamed_reason lasting.repeated ≡ reason_unless (spells_apart ds d) NoTree
  pub untold : blamed_reason lasting.untold ≡ reason_unless (are_told_apart ds d) UnsupportedSlicing
  pub repeated_within : is_blame_among (length d.elements) lasting.repeated
  pub untold_within : is_blame_among (length d.elements) lasting.untold

-- the same of each that is listed
abbrev pub EachLasting : List Definition → List Lasting → Type 0
EachLasting ds all =
    (place : ℕ) (d : Definition) (lasting : Lasting) → slice_get ds place ≡ Some d → slice_get all place ≡ Some lasting → IsLasting ds d lasting

-- and all are
pub record AreLasting (ds : List Definition) (all : List Lasting) : Type 0 where
  pub counted : length all ≡ length ds
  pub each : EachLasting ds all

-- ---- one round

-- why the definition at a place can't be used, judged against what is found
abbrev pub reason_in : List Definition → Reasons → ℕ → Option Reason
reason_in ds reasons place = option_and_then (λ d. first_of (tests ds reasons d)) (slice_get ds place)

abbrev pub is_unblamed : Reasons → ℕ → Bool
is_unblamed reasons place = nat_lt place (length reasons) && is_none (reason_at reasons place)

module _ (judge : ℕ → Option Reason) where
  -- a place that has no reason is judged
  abbrev pub judged : ℕ → Reasons → Reasons
  judged place reasons = if is_unblamed reasons place then set reasons place (judge place) else reasons

  -- and stands behind those of the round
  abbrev pub queued : ℕ → Reasons → List ℕ → List ℕ
  queued place reasons queue = if is_unblamed reasons place then queue ++ place ∷ [] else queue

  abbrev pub all_judged : List ℕ → Reasons → Reasons
  all_judged [] reasons = reasons
  all_judged (place ∷ places) reasons = all_judged places (judged place reasons)

  abbrev pub all_queued : List ℕ → Reasons → List ℕ → List ℕ
  all_queued [] reasons queue = queue
  all_queued (place ∷ places) reasons queue = all_queued places (judged place reasons) (queued place reasons queue)

  -- those that rest on each of some places
  abbrev pub users_judged : List (List ℕ) → List ℕ → Reasons → Reasons
  users_judged users [] reasons = reasons
  users_judged users (place ∷ places) reasons = users_judged users places (all_judged (get_or users place []) reasons)

  abbrev pub users_queued : List (List ℕ) → List ℕ → Reasons → List ℕ → List ℕ
  users_queued users [] reasons queue = queue
  users_queued users (place ∷ places) reasons queue =
      users_queued users places (all_judged (get_or users place []) reasons) (all_queued (get_or users place []) reasons queue)

-- what is found at some places is known to the next round
abbrev pub known_at : ℕ → Reasons → Reasons → Reasons
known_at place found reasons = if nat_lt place (length reasons) then set reasons place (reason_at found place) else reasons

abbrev pub all_known : List ℕ → Reasons → Reasons → Reasons
all_known [] found reasons = reasons
all_known (place ∷ places) found reasons = all_known places found (known_at place found reasons)
