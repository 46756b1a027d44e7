-- How pairs are found from a first one: with each pair all that it asks for, breadth first.
use Rattle.std.specs.Prelude.{◌≡◌, List, [], ◌∷◌, ◌++◌, Bool, IsTrue, if◌then◌else◌}
use Rattle.std.specs.List.{Contains, list_any, flat_map}
use Rattle.fhir_certificate.specs.declared.pair.Pair.{Pair}
use Rattle.fhir_cert_check.specs.PairSet.{same_pair}

-- the pair is one of the list
abbrev pub is_in : List Pair → Pair → Bool
is_in ps p = list_any (same_pair p) ps

-- behind the others, unless it is one of them
abbrev pub added : List Pair → Pair → List Pair
added seen p = if is_in seen p then seen else seen ++ p ∷ []

abbrev pub all_added : List Pair → List Pair → List Pair
all_added seen [] = seen
all_added seen (p ∷ ps) = all_added (added seen p) ps

-- each pair of a list where it first stands
abbrev pub firsts : List Pair → List Pair
firsts ps = all_added [] ps

-- where a pair asks for these, and the search begins with this one
module _ (asks : Pair → List Pair) (root : Pair) where
  -- the set has the root, and with each pair all that it asks for
  pub record IsClosed (set : Pair → Bool) : Type 0 where
    pub rooted : IsTrue (set root)
    pub closed : (p q : Pair) → IsTrue (set p) → Contains (asks p) q → IsTrue (set q)

  -- the pair is in each such set: it is the root, or one that is found asks for it
  abbrev pub IsFound : Pair → Type 0
  IsFound p = (set : Pair → Bool) → IsClosed set → IsTrue (set p)

  -- Found are these: each stands where it is first asked for, behind the root what that asks for, then what the next asks for, and so on.
  pub record IsDiscovery (found : List Pair) : Type 0 where
    pub in_turn : found ≡ firsts (root ∷ flat_map asks found)
    pub each : (p : Pair) → Contains found p → IsFound p
