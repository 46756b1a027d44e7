-- Which elements are listed of ids that wait.
use Rattle.std.proofs.Common.{◌≡◌, List, [], ◌∷◌, ◌++◌, map, Bool, true, false, cond, Option, None, Some, is_none, refl, ap, sym, ◌∙◌, subst, inl}
use Rattle.std.proofs.Common.{inr, ◌⊎◌}
use Rattle.std.specs.List.{filter}
use Rattle.std.proofs.lemmas.Bool.{false≢true}
use Rattle.std.proofs.lemmas.Option.{none-some, same_Some}
use Rattle.fhir_json.specs.Tree.{Text}
use Rattle.fhir_json.specs.Bytes.{line_feed, dot}
use Rattle.fhir_names.specs.Parents.{sliced_of}
use Rattle.fhir_elements.specs.Element.{Element}
use Rattle.fhir_package.specs.Definitions.{Definitions}
use Rattle.fhir_definition.specs.Snapshot.{up_of, is_root}
use Rattle.fhir_inheritance.specs.Keys.{key, child_id}
use Rattle.fhir_inheritance.specs.Node.{Node}
use Rattle.fhir_inheritance.specs.Inheriting.{asking}
use Rattle.fhir_snapshot.specs.Order.{IsAt, Lists, under, roots, IsThere}
use Rattle.snapshot_laws.proofs.Among.{In, Each, Differ, in_left, in_right, in_cases, differ_both}
use Rattle.snapshot_laws.proofs.Ups.{IsName, lacks_both, up_child, up_sliced, same_child, unsliced_child, none_sliced}
use Rattle.snapshot_laws.proofs.Finding.{ids, IsPlain, map_in}
use Rattle.snapshot_laws.proofs.Nodes.{IsRight}
use Rattle.snapshot_laws.proofs.Coming.{OneAnswer}
use Rattle.snapshot_laws.proofs.Rising.{Below, Free, none_above, below_up, free_under}

-- ---- what stands under a right node

children_differ : (id : Text) (names : List Text) → Each IsName names → Differ names → Differ (map (child_id id) names)
children_differ id [] named d = tt
children_differ id (x ∷ xs) named d = (
  λ h. let m = map_in (child_id id) xs (child_id id x) h in
      d.0 (subst (λ (y : Text). In y xs) (sym (same_child id x m.0 (named x (inl refl)) (named m.0 (inr m.1)) m.2)) m.1),
  children_differ id xs (λ y h. named y (inr h)) d.1,
)

under_differs : (id : Text) (n : Node) → IsRight id n → Differ (under id n)
under_differs id n r =
    differ_both (map (child_id id) n.names) n.slices (children_differ id n.names r.names r.names_differ) r.slices_differ
    (λ x child slice. let m = map_in (child_id id) n.names x child in
    none_sliced (child_id id m.0) id (unsliced_child id m.0 (r.names m.0 m.1)) (subst (λ (y : Text). sliced_of y ≡ Some id) m.2 (r.slices x slice)))

under_up : (id : Text) (n : Node) → IsRight id n → Each (λ x. up_of x ≡ Some id) (under id n)
under_up id n r x h =
    elim (in_cases x (map (child_id id) n.names) n.slices h) [
      | inl child ↦ let m = map_in (child_id id) n.names x child in ap up_of m.2 ∙ up_child id m.0 (r.names m.0 m.1)
      | inr slice ↦ up_sliced x id (r.slices x slice)
    ]

pub under_plain : (id : Text) (n : Node) → IsPlain id → Each IsPlain n.names → Each IsPlain n.slices → Each IsPlain (under id n)
under_plain id n plain names slices x h =
    elim (in_cases x (map (child_id id) n.names) n.slices h) [
      | inl child ↦
          let m = map_in (child_id id) n.names x child in
          subst IsPlain (sym m.2) (lacks_both line_feed id (dot ∷ m.0) plain (names m.0 m.1))
      | inr slice ↦ slices x slice
    ]

-- ---- what is listed

-- each id that waits is there
pub waits_there : (p : Definitions) (url : Text) (es : List Element) (waiting : List Text) → Lists p url es waiting → (x : Text) → In x waiting
    → IsThere p url x
waits_there p url es [] l x h = absurd h
waits_there p url [] (id ∷ waiting) l x h = absurd l
waits_there p url (e ∷ es) (id ∷ waiting) l x (inl is) = (l.0, subst (λ (y : Text). IsAt p url y l.0) (sym is) l.1)
waits_there p url (e ∷ es) (id ∷ waiting) l x (inr h) =
    waits_there p url es (under id l.0 ++ waiting) l.4 x (in_right x (under id l.0) waiting h)

-- a node is right, and where what stands under it is listed, that has ids without line feeds
pub record IsFit (p : Definitions) (url id : Text) (n : Node) : Type 0 where
  pub right : IsRight id n
  pub next : (es : List Element) (waiting : List Text) → Lists p url es (under id n ++ waiting) → Each IsPlain (under id n)

module _ (p : Definitions) (url : Text) (fit : (id : Text) (n : Node) → IsPlain id → IsAt p url id n → IsFit p url id n) where
  own_id : (id : Text) (e : Element) (n : Node) → IsPlain id → IsAt p url id n → n.element ≡ e → e.id ≡ id
  own_id id e n plain at is = ap (λ (x : Element). x.id) (sym is) ∙ (fit id n plain at).right.itself

  next_plain : (es : List Element) (id : Text) (waiting : List Text) (n : Node) → IsAt p url id n → Each IsPlain (id ∷ waiting)
      → Lists p url es (under id n ++ waiting) → Each IsPlain (under id n ++ waiting)
  next_plain es id waiting n at plain l x h =
      elim (in_cases x (under id n) waiting h) [
        | inl here ↦ (fit id n (plain id (inl refl)) at).next es waiting l x here
        | inr later ↦ plain x (inr later)
      ]

  -- each element stands below an id that waits
  listed_below : (es : List Element) (waiting : List Text) → Lists p url es waiting → Each IsPlain waiting
      → (x : Text) → In x (ids es) → (w : Text) × In w waiting × Below x w
  listed_below [] waiting l plain x h = absurd h
  listed_below (e ∷ es) [] l plain x h = absurd l
  listed_below (e ∷ es) (id ∷ waiting) l plain x (inl is) = (id, inl refl, (0, is ∙ own_id id e l.0 (plain id (inl refl)) l.1 l.3))
  listed_below (e ∷ es) (id ∷ waiting) l plain x (inr h) =
      let n = l.0 in
      let b = listed_below es (under id n ++ waiting) l.4 (next_plain es id waiting n l.1 plain l.4) x h in
      elim (in_cases b.0 (under id n) waiting b.1) [
        | inl here ↦ (id, inl refl, below_up x b.0 id b.2 (under_up id n (fit id n (plain id (inl refl)) l.1).right b.0 here))
        | inr later ↦ (b.0, inr later, b.2)
      ]

  -- no two elements have one id
  pub listed_differ : (es : List Element) (waiting : List Text) → Lists p url es waiting → Each IsPlain waiting → Free waiting → Differ (ids es)
  listed_differ [] waiting l plain free = tt
  listed_differ (e ∷ es) [] l plain free = absurd l
  listed_differ (e ∷ es) (id ∷ waiting) l plain free =
      let n = l.0 in
      let more = next_plain es id waiting n l.1 plain l.4 in
      let r = (fit id n (plain id (inl refl)) l.1).right in
      let own = own_id id e n (plain id (inl refl)) l.1 l.3 in (
        λ h. let b = listed_below es (under id n ++ waiting) l.4 more e.id h in
            let below : Below id b.0 = subst (λ (x : Text). Below x b.0) own b.2 in
            elim (in_cases b.0 (under id n) waiting b.1) [
              | inl here ↦ none_above id b.0 (under_up id n r b.0 here) below
              | inr later ↦ (free.0 b.0 later).0 below
            ],
        listed_differ es (under id n ++ waiting) l.4 more (free_under id (under id n) waiting (under_differs id n r) (under_up id n r) free),
      )

  -- an id stands under one that is listed
  pub record IsUnder (es : List Element) (x : Text) : Type 0 where
    pub up : Text
    pub node : Node
    pub listed : In up (ids es)
    pub at : IsAt p url up node
    pub plain : IsPlain up
    pub here : In x (under up node)

  -- each id that is listed waits, or stands under one that is listed
  pub listed_from : (es : List Element) (waiting : List Text) → Lists p url es waiting → Each IsPlain waiting → (x : Text) → In x (ids es)
      → In x waiting ⊎ IsUnder es x
  listed_from [] waiting l plain x h = absurd h
  listed_from (e ∷ es) [] l plain x h = absurd l
  listed_from (e ∷ es) (id ∷ waiting) l plain x (inl is) = inl (inl (is ∙ own_id id e l.0 (plain id (inl refl)) l.1 l.3))
  listed_from (e ∷ es) (id ∷ waiting) l plain x (inr h) =
      elim (listed_from es (under id l.0 ++ waiting) l.4 (next_plain es id waiting l.0 l.1 plain l.4) x h) [
        | inl waits ↦ elim (in_cases x (under id l.0) waiting waits) [
          | inl here ↦
              inr (record {
                up = id;
                node = l.0;
                listed = inl (sym (own_id id e l.0 (plain id (inl refl)) l.1 l.3));
                at = l.1;
                plain = plain id (inl refl);
                here = here;
              })
          | inr later ↦ inl (inr later)
        ]
        | inr u ↦ inr (record { up = u.up; node = u.node; listed = inr u.listed; at = u.at; plain = u.plain; here = u.here })
      ]

  -- each id that is listed waits, or stands under the one that its id says
  pub listed_uppers : (es : List Element) (waiting : List Text) → Lists p url es waiting → Each IsPlain waiting → Each (λ x. up_of x ≡ None) waiting
      → (x up : Text) → In x (ids es) → up_of x ≡ Some up → (m : Node) × In up (ids es) × IsAt p url up m × In x (under up m)
  listed_uppers es waiting l plain none x up h is =
      elim (listed_from es waiting l plain x h) [
        | inl waits ↦ absurd (none-some up (sym (none x waits) ∙ is))
        | inr u ↦
            let same : u.up ≡ up = same_Some u.up up (sym (under_up u.up u.node (fit u.up u.node u.plain u.at).right x u.here) ∙ is) in (
              u.node,
              subst (λ (y : Text). In y (ids es)) same u.listed,
              subst (λ (y : Text). IsAt p url y u.node) same u.at,
              subst (λ (y : Text). In x (under y u.node)) same u.here,
            )
      ]

  -- each id that waits is listed
  pub listed_all : (es : List Element) (waiting : List Text) → Lists p url es waiting → Each IsPlain waiting → (x : Text) → In x waiting
      → In x (ids es)
  listed_all es [] l plain x h = absurd h
  listed_all [] (id ∷ waiting) l plain x h = absurd l
  listed_all (e ∷ es) (id ∷ waiting) l plain x (inl is) = inl (is ∙ sym (own_id id e l.0 (plain id (inl refl)) l.1 l.3))
  listed_all (e ∷ es) (id ∷ waiting) l plain x (inr h) =
      inr (listed_all es (under id l.0 ++ waiting) l.4 (next_plain es id waiting l.0 l.1 plain l.4) x (in_right x (under id l.0) waiting h))

  pub listed_plain : (es : List Element) (waiting : List Text) → Lists p url es waiting → Each IsPlain waiting → Each IsPlain (ids es)
  listed_plain [] waiting l plain x h = absurd h
  listed_plain (e ∷ es) [] l plain x h = absurd l
  listed_plain (e ∷ es) (id ∷ waiting) l plain x (inl is) =
      subst IsPlain (sym (is ∙ own_id id e l.0 (plain id (inl refl)) l.1 l.3)) (plain id (inl refl))
  listed_plain (e ∷ es) (id ∷ waiting) l plain x (inr h) =
      listed_plain es (under id l.0 ++ waiting) l.4 (next_plain es id waiting l.0 l.1 plain l.4) x h

  -- what stands under an element that is listed is listed
  pub listed_under : OneAnswer → (es : List Element) (waiting : List Text) → Lists p url es waiting → Each IsPlain waiting
      → (x y : Text) (n : Node) → In x (ids es) → IsAt p url x n → In y (under x n) → In y (ids es)
  listed_under one [] waiting l plain x y n h at u = absurd h
  listed_under one (e ∷ es) [] l plain x y n h at u = absurd l
  listed_under one (e ∷ es) (id ∷ waiting) l plain x y n (inl is) at u =
      let same : x ≡ id = is ∙ own_id id e l.0 (plain id (inl refl)) l.1 l.3 in
      let there : IsAt p url id n = subst (λ (z : Text). IsAt p url z n) same at in
      let node : n ≡ l.0 = same_Some n l.0 (one (asking p) (key id url) (Some n) (Some l.0) there l.1) in
      let here : In y (under id l.0) = subst (λ (m : Node). In y (under id m)) node (subst (λ (z : Text). In y (under z n)) same u) in
      inr (listed_all es (under id l.0 ++ waiting) l.4 (next_plain es id waiting l.0 l.1 plain l.4) y (in_left y (under id l.0) waiting here))
  listed_under one (e ∷ es) (id ∷ waiting) l plain x y n (inr h) at u =
      inr (listed_under one es (under id l.0 ++ waiting) l.4 (next_plain es id waiting l.0 l.1 plain l.4) x y n h at u)

-- ---- roots

rootless : (o : Option Text) → is_none o ≡ true → o ≡ None
rootless None e = refl
rootless (Some x) e = absurd (false≢true e)

pub root_in : (es : List Element) (x : Text) → In x (roots es) → In x (ids es) × (up_of x ≡ None)
root_in [] x h = absurd h
root_in (e ∷ es) x h = by (is_root e) refl h (root_in es x)
  where
    by : (b : Bool) → is_root e ≡ b → In x (map (λ e. e.id) (cond b (e ∷ filter is_root es) (filter is_root es)))
        → (In x (roots es) → In x (ids es) × (up_of x ≡ None)) → In x (ids (e ∷ es)) × (up_of x ≡ None)
    by true is (inl same) rest = (inl same, ap up_of same ∙ rootless (up_of e.id) is)
    by true is (inr h) rest = let r = rest h in (inr r.0, r.1)
    by false is h rest = let r = rest h in (inr r.0, r.1)

pub in_root : (es : List Element) (x : Text) → In x (ids es) → up_of x ≡ None → In x (roots es)
in_root [] x h none = absurd h
in_root (e ∷ es) x h none = by (is_root e) refl h (λ h. in_root es x h none)
  where
    by : (b : Bool) → is_root e ≡ b → (x ≡ e.id) ⊎ In x (ids es) → (In x (ids es) → In x (roots es))
        → In x (map (λ e. e.id) (cond b (e ∷ filter is_root es) (filter is_root es)))
    by true is (inl same) rest = inl same
    by true is (inr h) rest = inr (rest h)
    by false is (inl same) rest = absurd (false≢true (sym is ∙ ap is_none (ap up_of (sym same) ∙ none)))
    by false is (inr h) rest = rest h

pub roots_differ : (es : List Element) → Differ (ids es) → Differ (roots es)
roots_differ [] d = tt
roots_differ (e ∷ es) d = by (is_root e) (roots_differ es d.1)
  where
    by : (b : Bool) → Differ (roots es) → Differ (map (λ e. e.id) (cond b (e ∷ filter is_root es) (filter is_root es)))
    by true rest = (λ h. d.0 (root_in es e.id h).0, rest)
    by false rest = rest
