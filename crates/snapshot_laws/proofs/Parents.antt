-- Each node stands under one: under that of the id that its id stands under.
use Rattle.std.proofs.Common.{◌≡◌, zero, suc, Bool, cond, true, List, [], ◌∷◌, map, Option, Some, None, option_map, refl, ap, sym, ◌∙◌, subst, inl, inr}
use Rattle.std.specs.Option.{option_map_or}
use Rattle.std.proofs.lemmas.Bool.{false≢true}
use Rattle.std.proofs.lemmas.Option.{none-some, same_Some}
use Rattle.fhir_json.specs.Tree.{Text}
use Rattle.fhir_json.specs.Bytes.{line_feed, dot}
use Rattle.fhir_names.specs.Parents.{name_of}
use Rattle.fhir_elements.specs.Element.{Element}
use Rattle.fhir_package.specs.Definitions.{Definitions}
use Rattle.fhir_definition.specs.Snapshot.{up_of}
use Rattle.fhir_asking.specs.Asking.{Asking, given, run, answer, Has}
use Rattle.fhir_overlay.specs.Overlay.{as_slice}
use Rattle.fhir_inheritance.specs.Keys.{key, key_parts, child_id, twin_of}
use Rattle.fhir_inheritance.specs.Node.{Node}
use Rattle.fhir_inheritance.specs.Elements.{find, slices_under}
use Rattle.fhir_inheritance.specs.Sources.{Source, source_at}
use Rattle.fhir_inheritance.specs.Laying.{moved}
use Rattle.fhir_inheritance.specs.Lists.{with_others}
use Rattle.fhir_inheritance.specs.Inheriting.{written_node, written, names_in, key_at, child_key, made, new, inherits, in_source, at, asking}
use Rattle.fhir_snapshot.specs.Order.{under}
use Rattle.snapshot_laws.proofs.Coming.{OneAnswer}
use Rattle.snapshot_laws.proofs.Among.{In, in_left, in_right, in_cases, others_stay, others_there}
use Rattle.snapshot_laws.proofs.Ups.{IsName, name_read, name_lacks, up_child, same_child, child_again, up_sliced, up_unsliced, sliced_none, none_sliced}
use Rattle.snapshot_laws.proofs.Ups.{unsliced_child, up_lacks, lacks_both}
use Rattle.snapshot_laws.proofs.Asked.{ComesWith, Known, by_answers, comes_of}
use Rattle.snapshot_laws.proofs.Finding.{IsPlain, found_id, found_in, finds, in_slice, in_map, map_in, stands_under}
use Rattle.snapshot_laws.proofs.Origins.{ByBase, same_source, not_both, NamesOf, HasMore, IsMadeOf, made_is, FromWritten, FromBase, FromWhole}
use Rattle.snapshot_laws.proofs.Origins.{FromFront, Origin, from_written, from_base, from_whole, from_front, origin}
use Rattle.snapshot_laws.proofs.Nodes.{key_is, parts_of, AreSound, IsRight, node_right}

-- ---- what stands under a node

child_under : (up id : Text) (n : Node) → In id (map (child_id up) n.names) → In id (under up n)
child_under up id n h = in_left id (map (child_id up) n.names) n.slices h

slice_under : (up id : Text) (n : Node) → In id n.slices → In id (under up n)
slice_under up id n h = in_right id (map (child_id up) n.names) n.slices h

-- there is a node, and the id stands under it
abbrev pub IsListedUnder : Text → Text → Option Node → Type 0
IsListedUnder id up o = (m : Node) × (o ≡ Some m) × In id (under up m)

-- a name under which a child stands is one of the children's names
name_under : (up name : Text) (n : Node) → IsName name → IsRight up n → In (child_id up name) (under up n) → In name n.names
name_under up name n named r h =
    elim (in_cases (child_id up name) (map (child_id up) n.names) n.slices h) [
      | inl child ↦
          let m = map_in (child_id up) n.names (child_id up name) child in
          subst (λ (x : Text). In x n.names) (sym (same_child up name m.0 named (r.names m.0 m.1) m.2)) m.1
      | inr slice ↦ absurd (none_sliced (child_id up name) up (unsliced_child up name named) (r.slices (child_id up name) slice))
    ]

module _ (p : Definitions) where
  abbrev pub Any : Text → Option Node → Type 0
  Any name thing = Unit {0}

  abbrev pub Q : Text → Option Node → Type 0
  Q = Known (asking p) Any

  any : (name : Text) (thing : Option Node) → Has (asking p) name thing → Any name thing
  any name thing h = tt

  -- ---- what an id asks for

  parted : (id url : Text) → IsPlain id → asking p (key id url) ≡ at p id url
  parted id url h = ap (λ (o : Option (Text × Text)). option_map_or (λ parts. at p parts.0 parts.1) o (given None)) (parts_of id url h)

  of_source : (id url : Text) (s : Source) → source_at p url ≡ Some s → at p id url ≡ in_source p id url s
  of_source id url s is = ap (λ (o : Option Source). option_map_or (in_source p id url) o (given None)) is

  in_written : (id url : Text) (s : Source) → s.written ≡ true → in_source p id url s ≡ written s.elements id
  in_written id url s is = ap (λ (b : Bool). cond b (written s.elements id) (inherits p url s.elements id s.base)) is

  in_differential : (id url base : Text) (s : Source) → ByBase p url s base → in_source p id url s ≡ inherits p url s.elements id (Some base)
  in_differential id url base s by =
      ap (λ (b : Bool). cond b (written s.elements id) (inherits p url s.elements id s.base)) by.unwritten
      ∙ ap (λ (o : Option Text). inherits p url s.elements id o) by.rests

  pub comes : (name : Text) (thing : Option Node) → Has (asking p) name thing → ComesWith Q (asking p name) thing
  comes = comes_of (asking p) Any any

  -- what is in a snapshot that is brought
  written_answer : (id url : Text) (s : Source) (e : Element) (o : Option Node) → IsPlain id → source_at p url ≡ Some s → s.written ≡ true
      → find s.elements id ≡ Some e
      → Has (asking p) (key id url) o → o ≡ Some (written_node s.elements id e)
  written_answer id url s e o plain at_url is found h =
      let same : asking p (key id url) ≡ written s.elements id = parted id url plain ∙ of_source id url s at_url ∙ in_written id url s is in
      let whole : option_map (written_node s.elements id) (find s.elements id) ≡ o =
      subst (λ (a : Asking Node). ComesWith Q a o) same (comes (key id url) o h) in
      sym whole ∙ ap (option_map (written_node s.elements id)) found

  pub written_there : (id url : Text) (s : Source) (e : Element) → IsPlain id → source_at p url ≡ Some s → s.written ≡ true → find s.elements id ≡ Some e
      → Has (asking p) (key id url) (Some (written_node s.elements id e))
  written_there id url s e plain at_url is found =
      let same : asking p (key id url) ≡ written s.elements id = parted id url plain ∙ of_source id url s at_url ∙ in_written id url s is in
      (suc zero, ap (run (answer (asking p) zero)) (same ∙ ap (λ (o : Option Element). given (option_map (written_node s.elements id) o)) found))

  -- what the base's is asked for
  base_asked : (id url base : Text) (s : Source) (o : Option Node) → IsPlain id → ByBase p url s base → Has (asking p) (key id url) o
      → ComesWith Q (inherits p url s.elements id (Some base)) o
  base_asked id url base s o plain based h =
      subst (λ (a : Asking Node). ComesWith Q a o)
      (parted id url plain ∙ of_source id url s based.at ∙ in_differential id url base s based) (comes (key id url) o h)

  -- what is made of the base's
  pub base_answer : OneAnswer → (id url base : Text) (s : Source) (m : Node) (o : Option Node) → IsPlain id → ByBase p url s base
      → Has (asking p) (key id base) (Some m) → Has (asking p) (key id url) o
      → (n : Node) × (o ≡ Some n) × IsMadeOf p Q url s.elements m.element m.names m.slices n
  base_answer one id url base s m o plain based below h =
      let asked = base_asked id url base s o plain based h in
      let there : asked.0 ≡ Some m = one (asking p) (key id base) asked.0 (Some m) asked.1.0 below in
      made_is p Q url s.elements m.element m.names m.slices o
      (subst (λ (r : Option Node). ComesWith Q (option_map_or (λ m. made p url s.elements m.element m.names m.slices) r (new p url s.elements id)) o)
      there asked.2)

  -- ---- what is made has what it is made of

  names_stay : (url : Text) (es : List Element) (e : Element) (names slices : List Text) (n : Node) → IsMadeOf p Q url es e names slices n
      → (x : Text) → In x names → In x n.names
  names_stay url es e names slices n m x h =
      elim m.names_are [
        | inl more ↦
            subst (In x) (sym more.names_are)
            (others_stay (with_others (with_others names more.twins) more.kinds) more.targets x
            (others_stay (with_others names more.twins) more.kinds x (others_stay names more.twins x h)))
        | inr same ↦ subst (In x) (sym same.names_are) h
      ]

  slices_stay : (url : Text) (es : List Element) (e : Element) (names slices : List Text) (n : Node) → IsMadeOf p Q url es e names slices n
      → (x : Text) → In x slices → In x n.slices
  slices_stay url es e names slices n m x h = subst (In x) (sym m.slices_are) (others_stay slices (slices_under es e.id) x h)

  pub under_stays : (up url : Text) (es : List Element) (m n : Node) → IsMadeOf p Q url es m.element m.names m.slices n → (x : Text) → In x (under up m)
      → In x (under up n)
  under_stays up url es m n made x h =
      elim (in_cases x (map (child_id up) m.names) m.slices h) [
        | inl child ↦
            let c = map_in (child_id up) m.names x child in
            child_under up x n (subst (λ (y : Text). In y (map (child_id up) n.names)) (sym c.2)
            (in_map (child_id up) n.names c.0 (names_stay url es m.element m.names m.slices n made c.0 c.1)))
        | inr slice ↦ slice_under up x n (slices_stay url es m.element m.names m.slices n made x slice)
      ]

  -- ---- the node of an id in a definition by differential

  pub record Made (id url : Text) (s : Source) (n : Node) : Type 0 where
    pub inherited : Element
    pub names : List Text
    pub slices : List Text
    pub itself : inherited.id ≡ id
    pub is_made : IsMadeOf p Q url s.elements inherited names slices n

  moved_made : (id url base : Text) (s t : Source) (e : Element) (n : Node) → ByBase p url s base → source_at p url ≡ Some t
      → e.id ≡ id → (names slices : List Text) → IsMadeOf p Q url t.elements e names slices n → Made id url s n
  moved_made id url base s t e n based is own names slices m =
      record {
        inherited = e;
        names = names;
        slices = slices;
        itself = own;
        is_made = subst (λ (u : Source). IsMadeOf p Q url u.elements e names slices n) (same_source p url t s is based.at) m;
      }

  of_origin : AreSound p → (id url base : Text) (s : Source) (n : Node) → IsPlain id → ByBase p url s base → Origin p Q id url n → Made id url s n
  of_origin sound id url base s n plain based (from_written r) =
      absurd (not_both p url base r.source s r.at r.is_written based)
  of_origin sound id url base s n plain based (from_base r) =
      moved_made id url base s r.source r.below.element n based r.by_base.at (node_right p sound id r.base r.below plain r.has_base.0).itself
      r.below.names r.below.slices r.is_made
  of_origin sound id url base s n plain based (from_whole r) =
      moved_made id url base s r.source (moved id (as_slice r.sliced.element)) n based r.by_base.at refl [] [] r.is_made
  of_origin sound id url base s n plain based (from_front r) =
      moved_made id url base s r.source (moved id r.like.element) n based r.by_base.at refl [] [] r.is_made

  pub origin_at : (id url : Text) (n : Node) → IsPlain id → Has (asking p) (key id url) (Some n) → Origin p Q id url n
  origin_at id url n plain h =
      let o = origin p Q (key id url) n (comes (key id url) (Some n) h) in
      let same = same_Some (o.0, o.1) (id, url) (sym o.2 ∙ parts_of id url plain) in
      subst (λ (q : Text × Text). Origin p Q q.0 q.1 n) same o.3

  pub made_at : AreSound p → (id url base : Text) (s : Source) (n : Node) → IsPlain id → ByBase p url s base → Has (asking p) (key id url) (Some n)
      → Made id url s n
  made_at sound id url base s n plain based h = of_origin sound id url base s n plain based (origin_at id url n plain h)

  -- it has the differential's slices of it
  slices_there : (id url : Text) (s : Source) (n : Node) → Made id url s n → (x : Text) → In x (slices_under s.elements id) → In x n.slices
  slices_there id url s n m x h =
      subst (In x) (sym m.is_made.slices_are)
      (others_there m.slices (slices_under s.elements m.inherited.id) x (subst (λ (y : Text). In x (slices_under s.elements y)) (sym m.itself) h))

  -- where it is touched, it has the children of these
  more_there : (id url : Text) (s : Source) (n : Node) → Made id url s n → n.touched ≡ true → (names : List Text) × HasMore p Q url names n
  more_there id url s n m touched =
      elim m.is_made.names_are [
        | inl more ↦ (m.names, more)
        | inr same ↦ absurd (false≢true (sym same.untouched ∙ touched))
      ]

  -- ---- what a node stands under

  abbrev pub HasUpper : Text → Option Node → Type 0
  HasUpper name None = Unit {0}
  HasUpper name (Some n) =
      (id url up : Text) → key_parts name ≡ Some (id, url) → up_of id ≡ Some up → (o : Option Node) → Has (asking p) (key up url) o
      → IsListedUnder id up o

  abbrev S : Text → Option Node → Type 0
  S = Known (asking p) HasUpper

  stands_written : AreSound p → (id url up : Text) (n : Node) (o : Option Node) → IsPlain id → FromWritten p S id url n → up_of id ≡ Some up
      → Has (asking p) (key up url) o
      → IsListedUnder id up o
  stands_written sound id url up n o plain r up_is h =
      let right = sound url r.source r.at r.is_written in
      let own = (found_id r.source.elements id r.own r.finds).1 in
      let there = finds r.source.elements up (right.parents id up own up_is) in (
        written_node r.source.elements up there.0,
        written_answer up url r.source there.0 o (up_lacks line_feed id up up_is plain) r.at r.is_written there.1 h,
        stands_under r.source.elements id up own up_is,
      )

  stands_base : OneAnswer → (id url up : Text) (n : Node) (o : Option Node) → IsPlain id → FromBase p S id url n → up_of id ≡ Some up
      → Has (asking p) (key up url) o
      → IsListedUnder id up o
  stands_base one id url up n o plain r up_is h =
      let plain_up = up_lacks line_feed id up up_is plain in
      let asked = base_asked up url r.base r.source o plain_up r.by_base h in
      let below = r.has_base.1 id r.base up (parts_of id r.base plain) up_is asked.0 asked.1.0 in
      let there = base_answer one up url r.base r.source below.0 o plain_up r.by_base (subst (Has (asking p) (key up r.base)) below.1 asked.1.0) h in
      (there.0, there.1, under_stays up url r.source.elements below.0 there.0 there.2 id below.2)

  stands_whole : AreSound p → OneAnswer → (id url up : Text) (n : Node) (o : Option Node) → IsPlain id → FromWhole p S id url n → up_of id ≡ Some up
      → Has (asking p) (key up url) o
      → IsListedUnder id up o
  stands_whole sound one id url up n o plain r up_is h =
      let same : r.whole ≡ up = same_Some r.whole up (sym (up_sliced id r.whole r.sliced_is) ∙ up_is) in
      let whole : Has (asking p) (key up url) (Some r.sliced) = subst (λ (x : Text). Has (asking p) (key x url) (Some r.sliced)) same r.has_whole.0 in
      let made = made_at sound up url r.base r.source r.sliced (up_lacks line_feed id up up_is plain) r.by_base whole in (
        r.sliced,
        one (asking p) (key up url) o (Some r.sliced) h whole,
        slice_under up id r.sliced (slices_there up url r.source r.sliced made id
            (in_slice r.source.elements up id (found_in r.source.elements id r.finds) (r.sliced_is ∙ ap Some same))),
      )

  -- the child of that name is there, where it is among the children of such an element
  name_there : AreSound p → (name other from : Text) (like : Node) (names : List Text) → IsName name → IsPlain name → child_key name other ≡ Some from
      → S from (Some like)
      → NamesOf p Q (Some other) names → In name names
  name_there sound name other from like names named unbroken child stands h = by (key_parts other) refl child
    where
      by : (o : Option (Text × Text)) → key_parts other ≡ o → option_map (λ at. key (child_id at.0 name) at.1) o ≡ Some from → In name names
      by None is e = absurd (none-some from e)
      by (Some q) is e =
          let k = key_is other q.0 q.1 is in
          let plain : IsPlain (child_id q.0 name) = lacks_both line_feed q.0 (dot ∷ name) k.1 unbroken in
          let parts : key_parts from ≡ Some (child_id q.0 name, q.1) =
          ap key_parts (sym (same_Some (key (child_id q.0 name) q.1) from e)) ∙ parts_of (child_id q.0 name) q.1 plain in
          let answer : Has (asking p) (key q.0 q.1) h.0 = subst (λ (x : Text). Has (asking p) x h.0) k.0 h.1.0 in
          let there = stands.1 (child_id q.0 name) q.1 q.0 parts (up_child q.0 name named) h.0 answer in
          let right = node_right p sound q.0 q.1 there.0 k.1 (subst (Has (asking p) (key q.0 q.1)) there.1 answer) in
          subst (In name) (sym (h.2 ∙ ap names_in there.1)) (name_under q.0 name there.0 named right there.2)

  stands_front : AreSound p → OneAnswer → (id url up : Text) (n : Node) (o : Option Node) → IsPlain id → FromFront p S id url n → up_of id ≡ Some up
      → Has (asking p) (key up url) o
      → IsListedUnder id up o
  stands_front sound one id url up n o plain r up_is h =
      let none = sliced_none id r.unsliced in
      let same : r.front ≡ up = same_Some r.front up (sym r.front_is ∙ sym (up_unsliced id none) ∙ up_is) in
      let plain_front : IsPlain r.front = up_lacks line_feed id r.front (up_is ∙ ap Some (sym same)) plain in
      let named = name_read id in
      let made = made_at sound r.front url r.base r.source r.parent plain_front r.by_base r.has_front.0 in
      let more = more_there r.front url r.source r.parent made r.is_touched in
      let own : r.parent.element.id ≡ r.front = (node_right p sound r.front url r.parent plain_front r.has_front.0).itself in
      let all = more.1 in
      let inside : (names : List Text) → NamesOf p Q (Some r.other) names → In (name_of id) names =
      λ names. name_there sound (name_of id) r.other r.from r.like names named (name_lacks line_feed id plain) r.child_is r.has_from in
      let there : In (name_of id) r.parent.names =
      subst (In (name_of id)) (sym all.names_are)
      (elim r.leads [
        | inl twin ↦
            others_stay (with_others (with_others more.0 all.twins) all.kinds) all.targets (name_of id)
            (others_stay (with_others more.0 all.twins) all.kinds (name_of id)
            (others_there more.0 all.twins (name_of id)
            (inside all.twins
            (subst (λ (k : Option Text). NamesOf p Q k all.twins) (ap (λ (x : Text). key_at url (twin_of x)) own ∙ twin) all.of_twin))))
        | inr rest ↦ elim rest [
          | inl kind ↦
              others_stay (with_others (with_others more.0 all.twins) all.kinds) all.targets (name_of id)
              (others_there (with_others more.0 all.twins) all.kinds (name_of id)
              (inside all.kinds (subst (λ (k : Option Text). NamesOf p Q k all.kinds) kind all.of_kind)))
          | inr target ↦
              others_there (with_others (with_others more.0 all.twins) all.kinds) all.targets (name_of id)
              (inside all.targets (subst (λ (k : Option Text). NamesOf p Q k all.targets) target all.of_target))
        ]
      ]) in (
        r.parent,
        one (asking p) (key up url) o (Some r.parent) h (subst (λ (x : Text). Has (asking p) (key x url) (Some r.parent)) same r.has_front.0),
        child_under up id r.parent (subst (λ (x : Text). In x (map (child_id up) r.parent.names))
            (sym (child_again id up none (r.front_is ∙ ap Some same))) (in_map (child_id up) r.parent.names (name_of id) there)),
      )

  stands_by : AreSound p → OneAnswer → (id url up : Text) (n : Node) (o : Option Node) → IsPlain id → Origin p S id url n → up_of id ≡ Some up
      → Has (asking p) (key up url) o
      → IsListedUnder id up o
  stands_by sound one id url up n o plain (from_written r) = stands_written sound id url up n o plain r
  stands_by sound one id url up n o plain (from_base r) = stands_base one id url up n o plain r
  stands_by sound one id url up n o plain (from_whole r) = stands_whole sound one id url up n o plain r
  stands_by sound one id url up n o plain (from_front r) = stands_front sound one id url up n o plain r

  stands_step : AreSound p → OneAnswer → (name : Text) (thing : Option Node) → ComesWith S (asking p name) thing → HasUpper name thing
  stands_step sound one name None h = tt
  stands_step sound one name (Some n) h = λ id url up parts up_is o answer.
      let from = origin p S name n h in
      let same = same_Some (from.0, from.1) (id, url) (sym from.2 ∙ parts) in
      stands_by sound one id url up n o (key_is name id url parts).1 (subst (λ (q : Text × Text). Origin p S q.0 q.1 n) same from.3) up_is answer

  -- where one stands under an id, that id's node is there, and it stands under it
  pub stands : AreSound p → OneAnswer → (id url up : Text) (n : Node) (o : Option Node) → IsPlain id → Has (asking p) (key id url) (Some n)
      → up_of id ≡ Some up
      → Has (asking p) (key up url) o → IsListedUnder id up o
  stands sound one id url up n o plain h up_is answer =
      by_answers (asking p) HasUpper (stands_step sound one) (key id url) (Some n) h id url up (parts_of id url plain) up_is o answer
