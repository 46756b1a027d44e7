-- What a package is to be completed with, before it is (used by private contracts alone).
use Rattle.std.specs.Prelude.{◌≡◌, ℕ, List, [], ◌∷◌, ◌++◌, Bool, true, false, Option, drop, take}
use Rattle.fhir_json.specs.Tree.{Text, Tree}
use Rattle.fhir_package.specs.declared.kind.Kind.TheVariants.{StructureDefinition}
use Rattle.fhir_package.specs.Definitions.{ByUrl, Definitions, with_kind}
use Rattle.fhir_package.specs.Changing.{with_tree}
use Rattle.fhir_snapshot.specs.declared.fault.SnapNumber.{SnapNumber}
use Rattle.fhir_snapshot.specs.Completing.{Becomes, Numbered, listed, AreCompleted}

-- trees for places, and the definitions that have no snapshot
pub record PlanValue : Type 0 where
  pub trees : List (ℕ × Tree)
  pub faults : Numbered

abbrev pub no_plan : PlanValue
no_plan = record { trees = []; faults = [] }

-- a tree is put in for a place, or is the one there
abbrev pub IsPut : ℕ → Tree → Tree → List (ℕ × Tree) → List (ℕ × Tree) → Bool → Type 0
IsPut place t new old_trees trees true = trees ≡ old_trees ++ (place, new) ∷ []
IsPut place t new old_trees trees false = (trees ≡ old_trees) × (new ≡ t)

-- the plan for one definition more
pub record PlansOne (p : Definitions) (place : ℕ) (url : Text) (t : Tree) (old plan : PlanValue) : Type 0 where
  pub new : Tree
  pub is_put : Bool
  pub number : Option SnapNumber
  pub becomes : Becomes p url t new number
  pub trees : IsPut place t new old.trees plan.trees is_put
  pub faults : plan.faults ≡ old.faults ++ listed number url

-- each tree in place of the one at its place
abbrev pub put_trees : List (ℕ × Tree) → Definitions → Definitions
put_trees [] p = p
put_trees (t ∷ ts) p = put_trees ts (with_tree StructureDefinition t.0 t.1 p)

-- the trees complete the first definitions up to a place, of which these are listed, and the others stay
pub record Plans (p : Definitions) (place : ℕ) (plan : PlanValue) : Type 0 where
  pub news : ByUrl
  pub completed : AreCompleted p (take place p.structure_definitions) news plan.faults
  pub trees : put_trees plan.trees p ≡ with_kind StructureDefinition (news ++ drop place p.structure_definitions) p

-- the same of all of them
pub record PlansAll (p : Definitions) (plan : PlanValue) : Type 0 where
  pub news : ByUrl
  pub completed : AreCompleted p p.structure_definitions news plan.faults
  pub trees : put_trees plan.trees p ≡ with_kind StructureDefinition news p
