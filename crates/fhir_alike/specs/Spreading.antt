-- Marks that are carried along a graph, against its edges.
use Rattle.std.specs.Prelude.{◌≡◌, ℕ, zero, suc, List, [], ◌∷◌, ◌++◌, length, replicate, get_or, set, Bool, true, false, Option, None, Some, is_none, if◌then◌else◌}
use Rattle.std.specs.List.{Contains, slice_get}
use Rattle.std.specs.Option.{option_map_or}
use Rattle.fhir_definition.specs.Gathering.{put_at}

-- for each place those that it leads to
abbrev pub Edges : Type 0
Edges = List (List ℕ)

-- ---- what is reached

-- a chain of so many edges leads from one place to another
abbrev pub ReachesIn : ℕ → Edges → ℕ → ℕ → Type 0
ReachesIn zero edges from to = from ≡ to
ReachesIn (suc n) edges from to = (next : ℕ) × Contains (get_or edges from []) next × ReachesIn n edges next to

-- a place reaches itself, and each to which a chain of edges leads
abbrev pub Reaches : Edges → ℕ → ℕ → Type 0
Reaches edges from to = (n : ℕ) × ReachesIn n edges from to

abbrev pub is_marked : List Bool → ℕ → Bool
is_marked marks place = get_or marks place false

abbrev pub told_at : List (Option ℕ) → ℕ → Option ℕ
told_at told place = get_or told place None

-- Of each place a marked one is told that it reaches, itself if it is marked; of one of which none is told it reaches none.
pub record IsSpread (edges : Edges) (marks : List Bool) (told : List (Option ℕ)) : Type 0 where
  pub count : length told ≡ length edges
  pub found : (place marked : ℕ) → told_at told place ≡ Some marked → Reaches edges place marked × (is_marked marks marked ≡ true)
  pub own : (place : ℕ) → is_marked marks place ≡ true → told_at told place ≡ Some place
  pub none : (place other : ℕ) → told_at told place ≡ None → Reaches edges place other → is_marked marks other ≡ false

-- ---- how it is found (used by private contracts alone)

-- a place into the list of each that it leads to
abbrev pub users_under : List ℕ → ℕ → Edges → Edges
users_under [] place users = users
users_under (at ∷ ats) place users = users_under ats place (put_at (Some at) place users)

abbrev pub users_from : ℕ → Edges → Edges → Edges
users_from place [] users = users
users_from place (e ∷ es) users = users_from (suc place) es (users_under e place users)

-- for each place those that lead to it
abbrev pub users_of : Edges → Edges
users_of edges = users_from 0 edges (replicate (length edges) [])

-- what is told of each place, and the places of which something is told
abbrev pub ToldValue : Type 0
ToldValue = List (Option ℕ) × List ℕ

abbrev pub is_untold : ℕ → List (Option ℕ) → Bool
is_untold place told = option_map_or is_none (slice_get told place) false

abbrev pub tell : ℕ → ℕ → ToldValue → ToldValue
tell place marked t = if is_untold place t.0 then (set t.0 place (Some marked), t.1 ++ place ∷ []) else t

abbrev pub tell_all : List ℕ → ℕ → ToldValue → ToldValue
tell_all [] marked t = t
tell_all (place ∷ places) marked t = tell_all places marked (tell place marked t)

abbrev pub tell_if : Bool → ℕ → ToldValue → ToldValue
tell_if true place t = tell place place t
tell_if false place t = t

abbrev pub tell_marked : ℕ → List Bool → ToldValue → ToldValue
tell_marked place [] t = t
tell_marked place (m ∷ ms) t = tell_marked (suc place) ms (tell_if m place t)

abbrev pub first_told : List Bool → ToldValue
first_told marks = tell_marked 0 marks (replicate (length marks) None, [])

-- what is told of a place is told of all that lead to it, if anything is
abbrev pub carry_mark : List ℕ → Option ℕ → ToldValue → ToldValue
carry_mark users None t = t
carry_mark users (Some marked) t = tell_all users marked t

abbrev pub carry : Edges → ℕ → ToldValue → ToldValue
carry users place t = carry_mark (get_or users place []) (told_at t.0 place) t
