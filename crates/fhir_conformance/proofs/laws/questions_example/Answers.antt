use Rattle.std.proofs.Common.{refl, Some}
use Rattle.std.specs.Prelude.{codes}
use Rattle.fhir_json.specs.Tree.{Tree, string, no_members, Members}
use Rattle.fhir_nodes.specs.declared.node.NodeRef.{NodeRef}
use Rattle.fhir_instance.specs.Items.{Item, item, Kids, kid, no_kids}
use Rattle.fhir_conformance.specs.Questions.{questions, questionnaire, one_item, contained, identified, texted, nested, nested_resources}
use Rattle.fhir_conformance.proofs.Refuted.{refuted_in}
use Rattle.fhir_conformance.proofs.laws.questions_example.Goals as goal

abbrev root : NodeRef
root = record { definition = 2; element = 0 }

-- ---- the items

abbrev with_id : Kids → Kids
with_id kids = kid (codes "id") (item (codes "code") (Some (string (codes "a"))) no_kids) kids

abbrev with_text : Kids
with_text = kid (codes "text") (item (codes "code") (Some (string (codes "t"))) no_kids) no_kids

abbrev part : Tree → Kids → Item
part tree kids = item (codes "Part") (Some tree) kids

abbrev with_item : Item → Kids
with_item x = kid (codes "item") x no_kids

abbrev with_contained : Item → Kids
with_contained x = kid (codes "contained") x no_kids

abbrev resource : Members → Kids → Item
resource more kids = item (codes "Questionnaire") (Some (questionnaire more)) kids

abbrev nested_item : Tree → Item → Item
nested_item tree x =
    resource (one_item (identified (one_item (identified (one_item tree)))))
    (with_item (part (identified (one_item (identified (one_item tree))))
    (with_id (with_item (part (identified (one_item tree)) (with_id (with_item x)))))))

abbrev nested_resource : Tree → Item → Item
nested_resource tree x =
    resource (contained (questionnaire (contained (questionnaire (one_item tree)))))
    (with_contained (resource (contained (questionnaire (one_item tree))) (with_contained (resource (one_item tree) (with_item x)))))

-- ---- the clauses

pub returns-clause-nested : goal.returns-clause-nested
returns-clause-nested c meaning = record {
  node = root;
  itself = nested_item (identified no_members) (part (identified no_members) (with_id no_kids));
  usable = refl;
  typed = refl;
  holds = refl;
}

pub returns-clause-nameless : goal.returns-clause-nameless
returns-clause-nameless c meaning =
    refuted_in questions meaning (codes "urn:Questionnaire") (nested texted) (nested_item texted (part texted with_text)) root refl refl refl

pub returns-clause-contained : goal.returns-clause-contained
returns-clause-contained c meaning = record {
  node = root;
  itself = nested_resource (identified no_members) (part (identified no_members) (with_id no_kids));
  usable = refl;
  typed = refl;
  holds = refl;
}

pub returns-clause-nameless_within : goal.returns-clause-nameless_within
returns-clause-nameless_within c meaning =
    refuted_in questions meaning (codes "urn:Questionnaire") (nested_resources texted) (nested_resource texted (part texted with_text)) root refl refl refl
