-- What completes a package is one.
use Rattle.std.proofs.Common.{◌≡◌, List, [], ◌∷◌, ◌++◌, Bool, true, false, Option, Some, None, is_some, refl, ap, sym, ◌∙◌, subst}
use Rattle.std.specs.Map.{keys_of}
use Rattle.fhir_json.specs.Tree.{Text, Tree}
use Rattle.fhir_elements.specs.Element.{Element}
use Rattle.fhir_overlay.specs.Completed.{with_snapshot}
use Rattle.fhir_package.specs.declared.kind.Kind.TheVariants.{StructureDefinition}
use Rattle.fhir_package.specs.Definitions.{ByUrl, Definitions, with_kind}
use Rattle.fhir_inheritance.specs.Sources.{brings_snapshot}
use Rattle.fhir_snapshot.specs.Snapshots.{IsSnapshot, HasNone}
use Rattle.fhir_snapshot.specs.declared.fault.SnapNumber.{SnapNumber}
use Rattle.fhir_snapshot.specs.Completing.{Gets, Becomes, Numbered, listed, AreCompleted, IsCompletion}
use Rattle.fhir_snapshot.proofs.Ordered.{OneAnswer}
use Rattle.fhir_snapshot.proofs.Snapshotting.{one_snapshot}
use Rattle.fhir_snapshot.proofs.Refused.{applies_none}

module _ (answer : OneAnswer) (p : Definitions) where
  one_gets : (url : Text) (t one other : Tree) (b : Bool) → Gets p url t b one → Gets p url t b other → one ≡ other
  one_gets url t one other true a b = a ∙ sym b
  one_gets url t one other false a b =
      let same : a.0 ≡ b.0 = one_snapshot answer p a.1.0 b.1.0 url a.0 b.0 a.1.1 b.1.1 in
      a.2 ∙ ap (λ (es : List Element). with_snapshot es t) same ∙ sym b.2

  has_and_none : (url : Text) (t new : Tree) (b : Bool) → b ≡ false → HasNone p url → Gets p url t b new → ⊥
  has_and_none url t new true isnt none gets = absurd cc
  has_and_none url t new false isnt none gets = none gets.0 gets.1

  one_becomes : (url : Text) (t one other : Tree) (a b : Option SnapNumber) → Becomes p url t one a → Becomes p url t other b → (one ≡ other) × (is_some a ≡ is_some b)
  one_becomes url t one other None None x y = (one_gets url t one other (brings_snapshot t) x y, refl)
  one_becomes url t one other (Some a) (Some b) x y = (x.2 ∙ sym y.2, refl)
  one_becomes url t one other (Some a) None x y = absurd (has_and_none url t other (brings_snapshot t) x.0 (applies_none answer p url a x.1) y)
  one_becomes url t one other None (Some b) x y = absurd (has_and_none url t one (brings_snapshot t) y.0 (applies_none answer p url b y.1) x)

  same_listed : (url : Text) (a b : Option SnapNumber) (xs ys : Numbered) → is_some a ≡ is_some b → keys_of xs ≡ keys_of ys → keys_of (listed a url ++ xs) ≡ keys_of (listed b url ++ ys)
  same_listed url None None xs ys e same = same
  same_listed url (Some a) (Some b) xs ys e same = ap (λ (l : List Text). url ∷ l) same
  same_listed url (Some a) None xs ys e same = absurd cc
  same_listed url None (Some b) xs ys e same = absurd cc

  one_list : (es one other : ByUrl) (faults more : Numbered) → AreCompleted p es one faults → AreCompleted p es other more → (one ≡ other) × (keys_of faults ≡ keys_of more)
  one_list [] one other faults more a b = (a.0 ∙ sym b.0, ap keys_of a.1 ∙ sym (ap keys_of b.1))
  one_list (e ∷ es) one other faults more a b =
      let first = one_becomes e.0 e.1 a.0 b.0 a.2 b.2 a.6 b.6 in
      let rest = one_list es a.1 b.1 a.3 b.3 a.7 b.7 in (
        a.4 ∙ ap (λ (t : Tree). (e.0, t) ∷ a.1) first.0 ∙ ap (λ (l : ByUrl). (e.0, b.0) ∷ l) rest.0 ∙ sym b.4,
        ap keys_of a.5 ∙ same_listed e.0 a.2 b.2 a.3 b.3 first.1 rest.1 ∙ sym (ap keys_of b.5),
      )

pub one_completed : OneAnswer → (old one other : Definitions) (faults more : Numbered) → IsCompletion old one faults → IsCompletion old other more
    → (one ≡ other) × (keys_of faults ≡ keys_of more)
one_completed answer old one other faults more a b =
    let same = one_list answer old old.structure_definitions one.structure_definitions other.structure_definitions faults more a.completed b.completed in
    (a.others_stay ∙ ap (λ (es : ByUrl). with_kind StructureDefinition es old) same.0 ∙ sym b.others_stay, same.1)
