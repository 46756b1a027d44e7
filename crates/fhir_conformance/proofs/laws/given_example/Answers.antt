use Rattle.std.proofs.Common.{refl, [], ◌∷◌, Some}
use Rattle.std.specs.Prelude.{codes}
use Rattle.fhir_json.specs.Tree.{Text, string, object, Members, no_members, member}
use Rattle.fhir_instance.specs.Items.{Item, item, kid, no_kids}
use Rattle.fhir_facets.specs.Unread.{as_given}
use Rattle.fhir_conformance.specs.Conformance.{as_read}
use Rattle.fhir_conformance.specs.Letters.{answering, coded}
use Rattle.fhir_conformance.proofs.Refuted.{letter_root, refuted}
use Rattle.fhir_conformance.proofs.laws.given_example.Goals as goal

leaf : Text → Item
leaf text = item (codes "code") (Some (string text)) no_kids

answer : Text → Members → Item
answer reference json =
    item (codes "Letter") (Some (answering reference))
    (kid (codes "answers") (item (codes "Reference") (Some (object json)) (kid (codes "reference") (leaf reference) no_kids)) no_kids)

reference_to : Text → Members
reference_to reference = member (codes "reference") (string reference) no_members

coded_letter : Text → Item
coded_letter name = item (codes "Letter") (Some (coded name (codes "c"))) (kid name (leaf (codes "c")) no_kids)

pub returns-clause-target : goal.returns-clause-target
unfolding leaf answer reference_to
returns-clause-target c = record {
  node = letter_root;
  itself = answer (codes "Person/1") (reference_to (codes "Person/1"));
  usable = refl;
  typed = refl;
  holds = refl;
}

pub returns-clause-kind : goal.returns-clause-kind
unfolding leaf coded_letter
returns-clause-kind c = record {
  node = letter_root;
  itself = coded_letter (codes "kind");
  usable = refl;
  typed = refl;
  holds = refl;
}

pub returns-clause-front : goal.returns-clause-front
unfolding leaf coded_letter
returns-clause-front c =
    refuted (as_read (codes "binding urn:se" ∷ []) as_given) (codes "urn:Letter") (coded (codes "kind") (codes "c")) (coded_letter (codes "kind"))
    letter_root refl refl refl

pub returns-clause-strange : goal.returns-clause-strange
unfolding leaf coded_letter
returns-clause-strange c =
    refuted (as_read (codes "binding urn:sets" ∷ []) as_given) (codes "urn:Letter") (coded (codes "kind") (codes "c")) (coded_letter (codes "kind"))
    letter_root refl refl refl
