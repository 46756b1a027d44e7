-- What holds by one meaning of the unread rules holds by another that says no less.
use Rattle.std.proofs.Common.{Bool, List, [], ◌∷◌, Option, None, Some, inl, inr, IsTrue}
use Rattle.std.specs.Option.{option_map_or}
use Rattle.std.specs.List.{list_any, Contains}
use Rattle.std.proofs.lemmas.Bool.{and_parts, and_from, or_cases, or_left, or_right}
use Rattle.fhir_json.specs.Tree.{Text}
use Rattle.fhir_json.specs.Bytes.{is_empty}
use Rattle.fhir_elements.specs.TypeEntry.{TypeEntry}
use Rattle.fhir_nodes.specs.declared.node.NodeRef.{NodeRef}
use Rattle.fhir_schema.specs.Schemas.{SchemaValue, loaded, types as node_types}
use Rattle.fhir_instance.specs.Items.{Item}
use Rattle.fhir_facets.specs.Unread.{Unread, Meaning, profile as unread_profile}
use Rattle.fhir_conformance.specs.Asks.{ElementRuleName, own, types}
use Rattle.fhir_conformance.specs.Conformance.{Interpretation, Around, meaning_at, rule_holds, entry_allows, entry_holds, profile_holds, profiles_hold, types_hold, is_untyped, ask_conforms, conforms}
use Rattle.fhir_conformance.specs.Meeting.{targets_unread, rule_unread}
use Rattle.fhir_validator.specs.Listing.{IsOver}

-- the laws on which it rests
abbrev pub RulesHang : SchemaValue → Type 0
RulesHang s =
    (less more : Meaning) (resource x : Item) (rule : ElementRuleName) (n : NodeRef)
    → ((u : Unread) → Contains (rule_unread s x rule n) u → IsTrue (less u) → IsTrue (more u))
    → IsTrue (rule_holds s less resource x rule n) → IsTrue (rule_holds s more resource x rule n)

abbrev pub EntriesHang : SchemaValue → Type 0
EntriesHang s =
    (less more : Meaning) (x : Item) (e : TypeEntry)
    → ((u : Unread) → Contains (targets_unread s e) u → IsTrue (less u) → IsTrue (more u))
    → IsTrue (entry_allows s less x e) → IsTrue (entry_allows s more x e)

abbrev pub IsPositive : SchemaValue → Type 0
IsPositive s =
    (less more : Interpretation) → IsOver less more
    → (around : Around) (x : Item) (n : NodeRef) → IsTrue (conforms s less around x n) → IsTrue (conforms s more around x n)

pub any_raised : {A : Type 0} (p q : A → Bool) → ((x : A) → IsTrue (p x) → IsTrue (q x)) → (xs : List A) → IsTrue (list_any p xs) → IsTrue (list_any q xs)
any_raised p q f [] holds = holds
any_raised p q f (x ∷ xs) holds =
    elim (or_cases (p x) (list_any p xs) holds) [
      | inl here ↦ or_left (q x) (list_any q xs) (f x here)
      | inr there ↦ or_right (q x) (list_any q xs) (any_raised p q f xs there)
    ]

module _ (s : SchemaValue) (x : Item) where
  -- a rule
  pub own_raised : RulesHang s → (less more : Interpretation) → IsOver less more → (around : Around) (rule : ElementRuleName) (n : NodeRef)
      → IsTrue (ask_conforms s less around x (own rule n)) → IsTrue (ask_conforms s more around x (own rule n))
  own_raised rules less more over around rule n =
      rules (meaning_at less around) (meaning_at more around) _ x rule n (λ u has h. over u around.outermost around.place h)

  -- where the item conforms to no fewer roots, and a profile that is unread holds no less
  module _ (less more : Meaning) (over : (u : Unread) → IsTrue (less u) → IsTrue (more u)) (roots others : NodeRef → Bool)
      (of_roots : (r : NodeRef) → IsTrue (roots r) → IsTrue (others r)) where
    pub profile_raised : (p : Text) → IsTrue (profile_holds s less roots x p) → IsTrue (profile_holds s more others x p)
    profile_raised p = by_case (loaded s p)
      where
        by_case : (o : Option NodeRef) → IsTrue (option_map_or roots o (less (unread_profile p))) → IsTrue (option_map_or others o (more (unread_profile p)))
        by_case None holds = over (unread_profile p) holds
        by_case (Some r) holds = of_roots r holds

    pub profiles_raised : (ps : List Text) → IsTrue (profiles_hold s less roots x ps) → IsTrue (profiles_hold s more others x ps)
    profiles_raised ps holds =
        elim (or_cases (is_empty ps) (list_any (profile_holds s less roots x) ps) holds) [
          | inl none ↦ or_left (is_empty ps) (list_any (profile_holds s more others x) ps) none
          | inr some ↦ or_right (is_empty ps) (list_any (profile_holds s more others x) ps)
              (any_raised (profile_holds s less roots x) (profile_holds s more others x) profile_raised ps some)
        ]

    pub entry_raised : EntriesHang s → (e : TypeEntry) → IsTrue (entry_holds s less roots x e) → IsTrue (entry_holds s more others x e)
    entry_raised entries e holds =
        let parts = and_parts (entry_allows s less x e) (profiles_hold s less roots x e.profiles) holds in
        and_from (entry_allows s more x e) (profiles_hold s more others x e.profiles)
        (entries less more x e (λ u has. over u) parts.0) (profiles_raised e.profiles parts.1)

    pub types_raised : EntriesHang s → (n : NodeRef) → IsTrue (types_hold s less roots x n) → IsTrue (types_hold s more others x n)
    types_raised entries n holds =
        elim (or_cases (is_untyped s n) (list_any (entry_holds s less roots x) (node_types s n)) holds) [
          | inl none ↦ or_left (is_untyped s n) (list_any (entry_holds s more others x) (node_types s n)) none
          | inr some ↦ or_right (is_untyped s n) (list_any (entry_holds s more others x) (node_types s n))
              (any_raised (entry_holds s less roots x) (entry_holds s more others x) (entry_raised entries) (node_types s n) some)
        ]

  pub types_asked_raised : EntriesHang s → IsPositive s → (less more : Interpretation) → IsOver less more → (around : Around) (n : NodeRef)
      → IsTrue (ask_conforms s less around x (types n)) → IsTrue (ask_conforms s more around x (types n))
  types_asked_raised entries positive less more over around n =
      types_raised (meaning_at less around) (meaning_at more around) (λ u. over u around.outermost around.place)
      (conforms s less around x) (conforms s more around x) (λ r. positive less more over around x r) entries n
