-- Where the differential has a child of an id, or a slice of one, that the base doesn't have, its siblings come.
use Rattle.std.proofs.Common.{◌≡◌, cond, true, false, List, [], ◌∷◌, Option, Some, None, is_some, refl, ap, sym, ◌∙◌, subst, inl, inr, not}
use Rattle.std.proofs.lemmas.Bool.{or_left, or_right, false≢true}
use Rattle.std.proofs.lemmas.Option.{same_Some}
use Rattle.fhir_json.specs.Tree.{Text}
use Rattle.fhir_names.specs.Parents.{front_of, name_of, slice_of}
use Rattle.fhir_elements.specs.Element.{Element}
use Rattle.fhir_package.specs.Definitions.{Definitions}
use Rattle.fhir_asking.specs.Asking.{Has}
use Rattle.fhir_overlay.specs.Overlay.{as_slice}
use Rattle.fhir_inheritance.specs.Keys.{key, twin_of}
use Rattle.fhir_inheritance.specs.Node.{Node}
use Rattle.fhir_inheritance.specs.Elements.{slice_parent_of, names_under, sliced_names_under}
use Rattle.fhir_inheritance.specs.Sources.{Source, only_type_key, target_key}
use Rattle.fhir_inheritance.specs.Laying.{moved, has_new, is_touched}
use Rattle.fhir_inheritance.specs.Lists.{is_among, with_others}
use Rattle.fhir_inheritance.specs.Inheriting.{names_in, key_at, asking}
use Rattle.fhir_snapshot.specs.Order.{IsAt}
use Rattle.snapshot_laws.specs.Snapshots.{BringsChild}
use Rattle.snapshot_laws.proofs.Coming.{OneAnswer}
use Rattle.snapshot_laws.proofs.Among.{In, among_in, in_among, others_stay, others_there}
use Rattle.snapshot_laws.proofs.Finding.{ids, IsPlain, parent_from, in_child, in_sliced}
use Rattle.snapshot_laws.proofs.Origins.{ByBase, same_source, not_both, NamesOf, HasMore, IsMadeOf, Origin, from_written, from_base, from_whole, from_front}
use Rattle.snapshot_laws.proofs.Itself.{own_id}
use Rattle.snapshot_laws.proofs.Parents.{Q, origin_at}

-- ---- a name that is new

any_new : (names others : List Text) (x : Text) → In x others → is_among names x ≡ false → has_new names others ≡ true
any_new names [] x h none = absurd h
any_new names (y ∷ ys) x (inl e) none =
    or_left (not (is_among names y)) (has_new names ys) (ap (λ (z : Text). not (is_among names z)) (sym e) ∙ ap not none)
any_new names (y ∷ ys) x (inr h) none = or_right (not (is_among names y)) (has_new names ys) (any_new names ys x h none)

slice_parent : (id up slice : Text) → slice_of id ≡ Some slice → front_of id ≡ Some up → slice_parent_of id ≡ Some up
slice_parent id up slice is e = ap (λ (o : Option Text). cond (is_some o) (front_of id) None) is ∙ e

touched : (es : List Element) (id up : Text) (names : List Text) → In id (ids es) → front_of id ≡ Some up → is_among names (name_of id) ≡ false
    → is_touched es up names ≡ true
touched es id up names h front none = by (slice_of id) refl
  where
    by : (o : Option Text) → slice_of id ≡ o → is_touched es up names ≡ true
    by None is =
        or_left (has_new names (names_under es up)) (has_new names (sliced_names_under es up))
        (any_new names (names_under es up) (name_of id) (in_child es up id h (parent_from id up is front)) none)
    by (Some slice) is =
        or_right (has_new names (names_under es up)) (has_new names (sliced_names_under es up))
        (any_new names (sliced_names_under es up) (name_of id) (in_sliced es up id h (slice_parent id up slice is front)) none)

-- ---- what is made of a base that lacks it

module _ (p : Definitions) where
  -- a node is made of names among which this one isn't
  record IsMadeWithout (url : Text) (es : List Element) (x : Text) (n : Node) : Type 0 where
    inherited : Element
    names : List Text
    slices : List Text
    is_made : IsMadeOf p (Q p) url es inherited names slices n
    lacks : is_among names x ≡ false

  same_base : (url base other : Text) (s t : Source) → ByBase p url s base → ByBase p url t other → base ≡ other
  same_base url base other s t one two =
      same_Some base other (sym one.rests ∙ ap (λ (u : Source). u.base) (same_source p url s t one.at two.at) ∙ two.rests)

  made_without : (url base other x : Text) (s t : Source) (n : Node) (inherited : Element) (names slices : List Text) → ByBase p url s base → ByBase p url t other
      → IsMadeOf p (Q p) url t.elements inherited names slices n → is_among names x ≡ false → IsMadeWithout url s.elements x n
  made_without url base other x s t n inherited names slices based by made lacks =
      record {
        inherited = inherited;
        names = names;
        slices = slices;
        is_made = subst (λ (u : Source). IsMadeOf p (Q p) url u.elements inherited names slices n) (same_source p url t s by.at based.at) made;
        lacks = lacks;
      }

  without : (up url base x : Text) (s : Source) (n : Node) → ByBase p url s base → ((m : Node) → IsAt p base up m → is_among m.names x ≡ false)
      → Origin p (Q p) up url n → IsMadeWithout url s.elements x n
  without up url base x s n based none (from_written r) = absurd (not_both p url base r.source s r.at r.is_written based)
  without up url base x s n based none (from_base r) =
      let below = subst (λ (u : Text). Has (asking p) (key up u) (Some r.below)) (same_base url r.base base r.source s r.by_base based) r.has_base.0 in
      made_without url base r.base x s r.source n r.below.element r.below.names r.below.slices based r.by_base r.is_made (none r.below below)
  without up url base x s n based none (from_whole r) =
      made_without url base r.base x s r.source n (moved up (as_slice r.sliced.element)) [] [] based r.by_base r.is_made refl
  without up url base x s n based none (from_front r) =
      made_without url base r.base x s r.source n (moved up r.like.element) [] [] based r.by_base r.is_made refl

  siblings : (up url : Text) (n : Node) → IsPlain up → BringsChild p url up → IsAt p url up n → (names : List Text) × HasMore p (Q p) url names n
  siblings up url n plain b at =
      let based : ByBase p url b.source b.base = record { at = b.at; unwritten = b.unwritten; rests = b.rests } in
      let made = without up url b.base (name_of b.id) b.source n based b.new (origin_at p up url n plain at) in
      let there : In b.id (ids b.source.elements) = among_in (ids b.source.elements) b.id b.stands in
      elim made.is_made.names_are [
        | inl more ↦ (made.names, more)
        | inr same ↦ absurd (false≢true (sym same.none_new
            ∙ subst (λ (x : Text). is_touched b.source.elements x made.names ≡ true) (sym (own_id p up url n plain at))
            (touched b.source.elements b.id up made.names there b.under made.lacks)))
      ]

  -- ---- the names that come

  names_of : OneAnswer → (o : Option Text) (name : Text) (names : List Text) (r : Node) → o ≡ Some name → Has (asking p) name (Some r) → NamesOf p (Q p) o names
      → names ≡ r.names
  names_of one o name names r is has of =
      let known = subst (λ (k : Option Text). NamesOf p (Q p) k names) is of in
      known.2 ∙ ap names_in (one (asking p) name known.0 (Some r) known.1.0 has)

  pub of_sliced : OneAnswer → (up url sliced x : Text) (n r : Node) → IsPlain up → BringsChild p url up → IsAt p url up n
      → twin_of up ≡ Some sliced → IsAt p url sliced r → is_among r.names x ≡ true → is_among n.names x ≡ true
  of_sliced one up url sliced x n r plain b at is has h =
      let s = siblings up url n plain b at in
      let all = s.1 in
      let same : key_at url (twin_of n.element.id) ≡ Some (key sliced url) =
      ap (λ (y : Text). key_at url (twin_of y)) (own_id p up url n plain at) ∙ ap (key_at url) is
      in
      let twins = names_of one (key_at url (twin_of n.element.id)) (key sliced url) all.twins r same has all.of_twin in
      in_among n.names x
      (subst (In x) (sym all.names_are)
      (others_stay (with_others (with_others s.0 all.twins) all.kinds) all.targets x
      (others_stay (with_others s.0 all.twins) all.kinds x (others_there s.0 all.twins x (subst (In x) (sym twins) (among_in r.names x h))))))

  pub of_type : OneAnswer → (up url kind x : Text) (n r : Node) → IsPlain up → BringsChild p url up → IsAt p url up n
      → only_type_key p n.element.types ≡ Some kind → Has (asking p) kind (Some r) → is_among r.names x ≡ true → is_among n.names x ≡ true
  of_type one up url kind x n r plain b at is has h =
      let s = siblings up url n plain b at in
      let all = s.1 in
      let kinds = names_of one (only_type_key p n.element.types) kind all.kinds r is has all.of_kind in
      in_among n.names x
      (subst (In x) (sym all.names_are)
      (others_stay (with_others (with_others s.0 all.twins) all.kinds) all.targets x
      (others_there (with_others s.0 all.twins) all.kinds x (subst (In x) (sym kinds) (among_in r.names x h)))))

  pub of_content : OneAnswer → (up url target x : Text) (n r : Node) → IsPlain up → BringsChild p url up → IsAt p url up n
      → target_key p url n.element ≡ Some target → Has (asking p) target (Some r) → is_among r.names x ≡ true → is_among n.names x ≡ true
  of_content one up url target x n r plain b at is has h =
      let s = siblings up url n plain b at in
      let all = s.1 in
      let targets = names_of one (target_key p url n.element) target all.targets r is has all.of_target in
      in_among n.names x
      (subst (In x) (sym all.names_are)
      (others_there (with_others (with_others s.0 all.twins) all.kinds) all.targets x (subst (In x) (sym targets) (among_in r.names x h))))
