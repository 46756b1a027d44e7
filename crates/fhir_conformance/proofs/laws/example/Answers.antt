use Rattle.std.proofs.Common.{◌≡◌, refl, sym, subst, Some, IsTrue}
use Rattle.std.specs.Prelude.{codes}
use Rattle.std.proofs.lemmas.Bool.{false≢true}
use Rattle.fhir_json.specs.Tree.{string}
use Rattle.fhir_nodes.specs.declared.node.NodeRef.{NodeRef}
use Rattle.fhir_instance.specs.Items.{Item, item, kid, no_kids}
use Rattle.fhir_conformance.specs.Conformance.{outermost, conforms}
use Rattle.fhir_conformance.specs.Example.{schema, bare, noted}
use Rattle.fhir_conformance.proofs.laws.example.Goals as goal

pub returns-clause-noted : goal.returns-clause-noted
returns-clause-noted c meaning =
    record {
      node = record { definition = 2; element = 0 };
      itself = item (codes "Thing") (Some noted) (kid (codes "note") (item (codes "code") (Some (string (codes "x"))) no_kids) no_kids);
      usable = refl;
      typed = refl;
      holds = refl;
    }

pub returns-clause-own : goal.returns-clause-own
returns-clause-own c meaning = record {
  node = record { definition = 1; element = 0 };
  itself = item (codes "Thing") (Some bare) no_kids;
  usable = refl;
  typed = refl;
  holds = refl;
}

-- what holds of what is there holds of what that is
at_some : {A : Type 0} (P : A → Type 0) (x y : A) → Some x ≡ Some y → P y → P x
at_some {A} P x y e h =
    let same : x ≡ y = cc in
    subst P (sym same) h

thing : Item
thing = item (codes "Thing") (Some bare) no_kids

pub returns-clause-bare : goal.returns-clause-bare
unfolding thing
returns-clause-bare c meaning h =
    let n : NodeRef = record { definition = 2; element = 0 } in
    false≢true
    (at_some (λ x. IsTrue (conforms schema meaning (outermost x) x n)) thing h.itself h.typed
    (at_some (λ m. IsTrue (conforms schema meaning (outermost h.itself) h.itself m)) n h.node h.usable h.holds))

pub returns-clause-named : goal.returns-clause-named
unfolding thing
returns-clause-named c meaning h =
    let n : NodeRef = record { definition = 3; element = 0 } in
    false≢true
    (at_some (λ x. IsTrue (conforms schema meaning (outermost x) x n)) thing h.itself h.typed
    (at_some (λ m. IsTrue (conforms schema meaning (outermost h.itself) h.itself m)) n h.node h.usable h.holds))
