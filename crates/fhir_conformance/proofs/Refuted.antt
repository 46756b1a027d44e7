-- Resources that don't conform.
use Rattle.std.proofs.Common.{◌≡◌, sym, subst, ◌∙◌, false, Some, IsTrue}
use Rattle.std.proofs.lemmas.Bool.{false≢true}
use Rattle.fhir_json.specs.Tree.{Text, Tree}
use Rattle.fhir_nodes.specs.declared.node.NodeRef.{NodeRef}
use Rattle.fhir_schema.specs.Schemas.{SchemaValue, root}
use Rattle.fhir_instance.specs.Items.{Item}
use Rattle.fhir_instance.specs.Typing.{resource}
use Rattle.fhir_conformance.specs.Conformance.{Interpretation, outermost, conforms, Conforms}
use Rattle.fhir_conformance.specs.Letters.{letters}

abbrev pub letter_root : NodeRef
letter_root = record { definition = 3; element = 0 }

-- what holds of what is there holds of what that is
at_some : {A : Type 0} (P : A → Type 0) (x y : A) → Some x ≡ Some y → P y → P x
at_some {A} P x y e h =
    let same : x ≡ y = cc in
    subst P (sym same) h

pub refuted_in : (s : SchemaValue) (meaning : Interpretation) (profile : Text) (t : Tree) (x : Item) (n : NodeRef) → root s profile ≡ Some n
    → resource s t ≡ Some x → conforms s meaning (outermost x) x n ≡ false → Conforms s meaning profile t → ⊥
refuted_in s meaning profile t x n usable typed fails h =
    false≢true
    (sym fails
    ∙ at_some (λ y. IsTrue (conforms s meaning (outermost y) y n)) x h.itself (sym typed ∙ h.typed)
    (at_some (λ m. IsTrue (conforms s meaning (outermost h.itself) h.itself m)) n h.node (sym usable ∙ h.usable) h.holds))

pub refuted : (meaning : Interpretation) (profile : Text) (t : Tree) (x : Item) (n : NodeRef) → root letters profile ≡ Some n → resource letters t ≡ Some x
    → conforms letters meaning (outermost x) x n ≡ false → Conforms letters meaning profile t → ⊥
refuted = refuted_in letters
