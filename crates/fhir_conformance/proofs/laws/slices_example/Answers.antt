use Rattle.std.proofs.Common.{refl, List, [], ◌∷◌, Some}
use Rattle.std.specs.Prelude.{codes}
use Rattle.fhir_json.specs.Tree.{Text, string}
use Rattle.fhir_nodes.specs.declared.node.NodeRef.{NodeRef}
use Rattle.fhir_instance.specs.Items.{Item, item, Kids, kid, no_kids}
use Rattle.std.specs.Str.{chars}
use Rattle.fhir_conformance.specs.Recipes.{recipes, of_steps}
use Rattle.fhir_conformance.proofs.Refuted.{refuted_in}
use Rattle.fhir_conformance.proofs.laws.slices_example.Goals as goal

abbrev closed_root : NodeRef
closed_root = record { definition = 6; element = 0 }

abbrev open_root : NodeRef
open_root = record { definition = 7; element = 0 }

abbrev doubly_root : NodeRef
doubly_root = record { definition = 8; element = 0 }

abbrev steps : List Text → Kids
steps [] = no_kids
steps (t ∷ ts) = kid (codes "step") (item (codes "code") (Some (string t)) no_kids) (steps ts)

abbrev with_steps : List Text → Item
with_steps ts = item (codes "Recipe") (Some (of_steps ts)) (steps ts)

pub returns-clause-sliced : goal.returns-clause-sliced
unfolding chars
returns-clause-sliced c meaning = record {
  node = closed_root;
  itself = with_steps (codes "boil" ∷ codes "fry" ∷ []);
  usable = refl;
  typed = refl;
  holds = refl;
}

pub returns-clause-in_none : goal.returns-clause-in_none
unfolding chars
returns-clause-in_none c meaning =
    refuted_in recipes meaning (codes "urn:closed") (of_steps (codes "boil" ∷ codes "bake" ∷ [])) (with_steps (codes "boil" ∷ codes "bake" ∷ [])) closed_root refl refl refl

pub returns-clause-open : goal.returns-clause-open
unfolding chars
returns-clause-open c meaning = record {
  node = open_root;
  itself = with_steps (codes "boil" ∷ codes "bake" ∷ []);
  usable = refl;
  typed = refl;
  holds = refl;
}

pub returns-clause-too_few : goal.returns-clause-too_few
unfolding chars
returns-clause-too_few c meaning =
    refuted_in recipes meaning (codes "urn:open") (of_steps (codes "fry" ∷ [])) (with_steps (codes "fry" ∷ [])) open_root refl refl refl

pub returns-clause-too_many : goal.returns-clause-too_many
unfolding chars
returns-clause-too_many c meaning =
    refuted_in recipes meaning (codes "urn:open") (of_steps (codes "boil" ∷ codes "boil" ∷ [])) (with_steps (codes "boil" ∷ codes "boil" ∷ [])) open_root refl refl refl

pub returns-clause-long : goal.returns-clause-long
unfolding chars
returns-clause-long c meaning =
    refuted_in recipes meaning (codes "urn:open") (of_steps (codes "boil" ∷ codes "salt" ∷ [])) (with_steps (codes "boil" ∷ codes "salt" ∷ [])) open_root refl refl refl

pub returns-clause-in_two : goal.returns-clause-in_two
unfolding chars
returns-clause-in_two c meaning =
    refuted_in recipes meaning (codes "urn:doubly") (of_steps (codes "boil" ∷ [])) (with_steps (codes "boil" ∷ [])) doubly_root refl refl refl
