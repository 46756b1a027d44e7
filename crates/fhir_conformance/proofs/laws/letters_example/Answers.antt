use Rattle.std.proofs.Common.{refl, false, Some}
use Rattle.std.specs.Prelude.{codes}
use Rattle.fhir_json.specs.Tree.{Text, string, object, Members, no_members, member}
use Rattle.fhir_nodes.specs.declared.node.NodeRef.{NodeRef}
use Rattle.fhir_instance.specs.Items.{Item, item, Kids, kid, no_kids}
use Rattle.fhir_conformance.specs.Conformance.{constant}
use Rattle.fhir_conformance.specs.Letters.{given, title, from, answering, coded, one_name, three_names}
use Rattle.fhir_conformance.proofs.Refuted.{letter_root, refuted}
use Rattle.fhir_conformance.proofs.laws.letters_example.Goals as goal

-- ---- the items

leaf : Text → Item
leaf text = item (codes "code") (Some (string text)) no_kids

name : Text → Kids → Kids
name text kids = kid (codes "given") (leaf text) kids

with_title : Kids
with_title = kid (codes "title") (leaf (codes "t")) no_kids

letter_from : Members → Kids → Item
letter_from sender kids =
    item (codes "Letter") (Some (from sender)) (kid (codes "sender") (item (codes "Name") (Some (object sender)) kids) no_kids)

-- ---- the roots

titled_root : NodeRef
titled_root = record { definition = 4; element = 0 }

-- ---- the clauses

pub returns-clause-own : goal.returns-clause-own
unfolding leaf name letter_from
returns-clause-own c meaning = record {
  node = letter_root;
  itself = letter_from (given one_name no_members) (name (codes "a") no_kids);
  usable = refl;
  typed = refl;
  holds = refl;
}

pub returns-clause-nameless : goal.returns-clause-nameless
unfolding leaf with_title letter_from
returns-clause-nameless c meaning =
    refuted meaning (codes "urn:Letter") (from title) (letter_from title with_title) letter_root refl refl refl

pub returns-clause-many : goal.returns-clause-many
unfolding leaf name letter_from
returns-clause-many c meaning =
    refuted meaning (codes "urn:Letter") (from (given three_names no_members))
    (letter_from (given three_names no_members) (name (codes "a") (name (codes "b") (name (codes "c") no_kids)))) letter_root refl refl refl

pub returns-clause-titled : goal.returns-clause-titled
unfolding leaf name with_title letter_from titled_root
returns-clause-titled c meaning = record {
  node = titled_root;
  itself = letter_from (given one_name title) (name (codes "a") with_title);
  usable = refl;
  typed = refl;
  holds = refl;
}

pub returns-clause-untitled : goal.returns-clause-untitled
unfolding leaf name letter_from titled_root
returns-clause-untitled c meaning =
    refuted meaning (codes "urn:titled") (from (given one_name no_members)) (letter_from (given one_name no_members) (name (codes "a") no_kids))
    titled_root refl refl refl

answer : Text → Members → Item
answer reference json =
    item (codes "Letter") (Some (answering reference))
    (kid (codes "answers") (item (codes "Reference") (Some (object json)) (kid (codes "reference") (leaf reference) no_kids)) no_kids)

reference_to : Text → Members
reference_to reference = member (codes "reference") (string reference) no_members

pub returns-clause-answer : goal.returns-clause-answer
unfolding leaf answer reference_to
returns-clause-answer c meaning = record {
  node = letter_root;
  itself = answer (codes "Letter/1") (reference_to (codes "Letter/1"));
  usable = refl;
  typed = refl;
  holds = refl;
}

pub returns-clause-other : goal.returns-clause-other
unfolding leaf answer reference_to
returns-clause-other c =
    refuted (constant false) (codes "urn:Letter") (answering (codes "Person/1")) (answer (codes "Person/1") (reference_to (codes "Person/1")))
    letter_root refl refl refl

pub returns-clause-open : goal.returns-clause-open
unfolding leaf answer reference_to
returns-clause-open c = record {
  node = letter_root;
  itself = answer (codes "Person/1") (reference_to (codes "Person/1"));
  usable = refl;
  typed = refl;
  holds = refl;
}

coded_letter : Text → Item
coded_letter name = item (codes "Letter") (Some (coded name (codes "c"))) (kid name (leaf (codes "c")) no_kids)

pub returns-clause-kind : goal.returns-clause-kind
unfolding leaf coded_letter
returns-clause-kind c =
    refuted (constant false) (codes "urn:Letter") (coded (codes "kind") (codes "c")) (coded_letter (codes "kind")) letter_root refl refl refl

pub returns-clause-open_kind : goal.returns-clause-open_kind
unfolding leaf coded_letter
returns-clause-open_kind c = record {
  node = letter_root;
  itself = coded_letter (codes "kind");
  usable = refl;
  typed = refl;
  holds = refl;
}

pub returns-clause-mood : goal.returns-clause-mood
unfolding leaf coded_letter
returns-clause-mood c meaning = record {
  node = letter_root;
  itself = coded_letter (codes "mood");
  usable = refl;
  typed = refl;
  holds = refl;
}
