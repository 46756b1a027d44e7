-- What stands under an element of a snapshot.
use Rattle.std.proofs.Common.{◌≡◌, List, [], ◌∷◌, ◌++◌, map, refl, ap, sym, ◌∙◌, subst}
use Rattle.std.proofs.lemmas.List.{append_assoc}
use Rattle.fhir_json.specs.Tree.{Text}
use Rattle.fhir_elements.specs.Element.{Element}
use Rattle.fhir_package.specs.Definitions.{Definitions}
use Rattle.fhir_inheritance.specs.Keys.{child_id}
use Rattle.fhir_inheritance.specs.Node.{Node}
use Rattle.fhir_snapshot.specs.Order.{IsAt, Lists, under}

-- what is listed of some ids and others is what is listed of the ones, and then of the others
parted : (p : Definitions) (url : Text) (es : List Element) (xs ys : List Text) → Lists p url es (xs ++ ys)
    → (one : List Element) × (other : List Element) × (es ≡ one ++ other) × Lists p url one xs × Lists p url other ys
parted p url es [] ys l = ([], es, refl, tt, l)
parted p url [] (x ∷ xs) ys l = absurd l
parted p url (e ∷ es) (x ∷ xs) ys l =
    let rest = subst (Lists p url es) (sym (append_assoc (under x l.0) xs ys)) l.4 in
    let s = parted p url es (under x l.0 ++ xs) ys rest in
    (e ∷ s.0, s.1, ap (λ (more : List Element). e ∷ more) s.2, (l.0, l.1, l.2, l.3, s.3), s.4)

pub in_order : (p : Definitions) (url id : Text) (ids : List Text) (es : List Element) → Lists p url es (id ∷ ids)
    → (n : Node) × (children : List Element) × (slices : List Element) × (others : List Element)
    × IsAt p url id n × (es ≡ n.element ∷ (children ++ (slices ++ others)))
    × Lists p url children (map (child_id id) n.names) × Lists p url slices n.slices × Lists p url others ids
in_order p url id ids [] l = absurd l
in_order p url id ids (e ∷ es) l =
    let n = l.0 in
    let rest = subst (Lists p url es) (append_assoc (map (child_id id) n.names) n.slices ids) l.4 in
    let s = parted p url es (map (child_id id) n.names) (n.slices ++ ids) rest in
    let t = parted p url s.1 n.slices ids s.4 in (
      n,
      s.0,
      t.0,
      t.1,
      l.1,
      ap (λ (more : List Element). e ∷ more) (s.2 ∙ ap (λ (more : List Element). s.0 ++ more) t.2) ∙ ap (λ (x : Element). x ∷ (s.0 ++ (t.0 ++ t.1))) (sym l.3),
      s.3,
      t.3,
      t.4,
    )
