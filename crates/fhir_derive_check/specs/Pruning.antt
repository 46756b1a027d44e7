-- How pairs fall that aren't right (used by private contracts alone).
use Rattle.std.specs.Prelude.{◌≡◌, ◌⊎◌, ◌++◌, List, [], Bool, true, false, not, ◌&&◌, ◌||◌, Option, option_map, IsTrue, Vec}
use Rattle.std.specs.declared.alloc.Global.{Global}
use Rattle.std.specs.List.{Contains, filter_map}
use Rattle.std.specs.Option.{option_map_or}
use Rattle.std.specs.BTreeMap.{BTreeMap, get_by}
use Rattle.fhir_schema.specs.Schemas.{SchemaValue}
use Rattle.fhir_certificate.specs.declared.pair.NodePair.{NodePair}
use Rattle.fhir_certificate.specs.declared.pair.Pair.{Pair}
use Rattle.fhir_certificate.specs.declared.pair.Pair.TheVariants.{Item, Kids}
use Rattle.fhir_certificate.specs.contracts.pair.NodePairOrd.TheImpl.{cmp-value}
use Rattle.fhir_cert_check.specs.Rule.{RuleName}
use Rattle.fhir_cert_check.specs.Rules.{is_local}
use Rattle.fhir_cert_check.specs.Asked.{asked_for}
use Rattle.fhir_cert_check.specs.Views.{rule_name}
use Rattle.fhir_cert_check.specs.declared.rule.Rule.{Rule}
use Rattle.fhir_cert_check.specs.PairSet.{PairLists, same_pair, has_pair}
use Rattle.fhir_derive_check.specs.Finding.{is_in}
use Rattle.fhir_derive_check.specs.Discovering.{HasAll}
use Rattle.fhir_derive_check.specs.Deriving.{none_twice}
use Rattle.fhir_derive_check.specs.Reaching.{IsTenable}
use Rattle.fhir_derive_check.specs.declared.pruning.Askers.{Askers}
use Rattle.fhir_derive_check.specs.declared.queue.Queue.{Queue}

-- ---- those that fail

abbrev pub wrong_seen : Pair × Rule → Pair × RuleName
wrong_seen wrong = (wrong.0, rule_name wrong.1)

-- each pair that fails a rule, with the first that it fails
abbrev pub all_failing : (Pair → Option RuleName) → List Pair → List (Pair × RuleName)
all_failing failing_rule ps = filter_map (λ p. option_map (λ rule. (p, rule)) (failing_rule p)) ps

-- ---- those that ask for a pair

abbrev pub askers_at : BTreeMap NodePair (Vec Pair Global) → NodePair → List Pair
askers_at askers nodes = option_map_or (λ ps. ps.items) (get_by (cmp-value.it nodes) askers) []

abbrev pub askers_of : Askers → Pair → List Pair
askers_of askers (Item nodes) = askers_at askers.items nodes
askers_of askers (Kids nodes) = askers_at askers.kids nodes

-- those of the list that ask for a pair are listed with it
abbrev pub ListsAskers : SchemaValue → List Pair → (Pair → List Pair) → Type 0
ListsAskers s ps askers = (p q : Pair) → IsTrue (is_in ps q) → Contains (asked_for s q) p → IsTrue (is_in (askers p) q)

-- ---- those that wait to be judged again

abbrev pub waiting_in : Queue → List Pair
waiting_in queue = queue.soon.items ++ queue.late.items

-- the set has those that wait, of which none waits twice
pub record IsQueue (queue : Queue) : Type 0 where
  pub same : HasAll queue.waiting (waiting_in queue)
  pub once : none_twice (waiting_in queue) ≡ true

-- ---- a pair judged again

-- those that count are of the list
abbrev pub IsWithin : (Pair → Bool) → List Pair → Type 0
IsWithin live ps = (p : Pair) → IsTrue (live p) → IsTrue (is_in ps p)

-- all stays as it was, where the pair doesn't count or is right
pub record IsKept (s : SchemaValue) (p : Pair) (live now : PairLists) (list more : List Pair) : Type 0 where
  pub right : IsTrue (has_pair live p) → IsTrue (is_local (has_pair live) s p)
  pub same_live : now ≡ live
  pub same_list : more ≡ list

-- it counts no longer, and those that ask for it are to be judged again too
pub record HasFallen (s : SchemaValue) (askers : List Pair) (p : Pair) (live now : PairLists) (list more : List Pair) : Type 0 where
  pub counted : IsTrue (has_pair live p)
  pub wrong : is_local (has_pair live) s p ≡ false
  pub without : (q : Pair) → has_pair now q ≡ (not (same_pair q p) && has_pair live q)
  pub listed : (q : Pair) → is_in more q ≡ (is_in askers q || is_in list q)

abbrev pub IsRevised : SchemaValue → List Pair → Pair → PairLists → PairLists → List Pair → List Pair → Type 0
IsRevised s askers p live now list more = IsKept s p live now list more ⊎ HasFallen s askers p live now list more

-- The pairs that are found and tenable count; and each that counts is right, or is to be judged again.
pub record IsPruning (s : SchemaValue) (found : List Pair) (live : Pair → Bool) (list : List Pair) : Type 0 where
  pub keeps : (p : Pair) → IsTrue (is_in found p) → IsTenable s p → IsTrue (live p)
  pub right : (p : Pair) → IsTrue (live p) → IsTrue (is_in list p) ⊎ IsTrue (is_local live s p)
