-- What the node of an id comes of, where something holds of each answer that it comes of.
use Rattle.std.proofs.Common.{◌≡◌, Bool, cond, true, false, List, [], Option, Some, None, is_some, option_map, refl, ap, sym, ◌∙◌, subst, inl, inr}
use Rattle.std.proofs.Common.{◌⊎◌}
use Rattle.std.specs.Option.{option_map_or}
use Rattle.std.proofs.lemmas.Bool.{false≢true}
use Rattle.std.proofs.lemmas.Option.{none-some, same_Some}
use Rattle.fhir_json.specs.Tree.{Text}
use Rattle.fhir_names.specs.Parents.{sliced_of, front_of, name_of}
use Rattle.fhir_elements.specs.Element.{Element}
use Rattle.fhir_package.specs.Definitions.{Definitions}
use Rattle.fhir_asking.specs.Asking.{Asking, given, asks}
use Rattle.fhir_overlay.specs.Overlay.{as_slice}
use Rattle.fhir_inheritance.specs.Keys.{key, key_parts, twin_of}
use Rattle.fhir_inheritance.specs.Node.{Node}
use Rattle.fhir_inheritance.specs.Elements.{find}
use Rattle.fhir_inheritance.specs.Sources.{Source, source_at, only_type_key, target_key}
use Rattle.fhir_inheritance.specs.Laying.{laid, moved, all_slices, is_touched}
use Rattle.fhir_inheritance.specs.Lists.{with_others}
use Rattle.fhir_inheritance.specs.Inheriting.{written_node, written, names_in, asks_names, key_at, asks_targets, asks_kinds, touched_node, made}
use Rattle.fhir_inheritance.specs.Inheriting.{made_from}
use Rattle.fhir_inheritance.specs.Inheriting.{first_there, child_key, child_of, from_target, from_types, from_parent, from_node, new_slice}
use Rattle.fhir_inheritance.specs.Inheriting.{new_child, new, inherits, in_source, at, asking}
use Rattle.snapshot_laws.proofs.Asked.{ComesWith}

-- a definition is written by differential
pub record ByBase (p : Definitions) (url : Text) (s : Source) (base : Text) : Type 0 where
  pub at : source_at p url ≡ Some s
  pub unwritten : s.written ≡ false
  pub rests : s.base ≡ Some base

pub same_source : (p : Definitions) (url : Text) (s t : Source) → source_at p url ≡ Some s → source_at p url ≡ Some t → s ≡ t
same_source p url s t one other = same_Some s t (sym one ∙ other)

-- none brings a snapshot and is written by differential
pub not_both : (p : Definitions) (url base : Text) (s t : Source) → source_at p url ≡ Some s → s.written ≡ true → ByBase p url t base → ⊥
not_both p url base s t at is by =
    false≢true (sym by.unwritten ∙ ap (λ (u : Source). u.written) (same_source p url t s by.at at) ∙ is)

-- the name of the element whose child a new child may inherit from
abbrev pub Leads : Definitions → Text → Text → Element → Text → Type 0
Leads p url front parent name =
    (key_at url (twin_of front) ≡ Some name) ⊎ ((only_type_key p parent.types ≡ Some name) ⊎ (target_key p url parent ≡ Some name))

-- a node with these names, and what asks for nothing more
abbrev node_with : Element → List Text → List Text → Bool → Node
node_with e names slices touched = record { element = e; names = names; slices = slices; touched = touched }

abbrev it_is : Node → Asking Node
it_is n = given (Some n)

module _ (p : Definitions) (Q : Text → Option Node → Type 0) where
  -- ---- what is made of what an id inherits

  -- the names of the children of an element that is asked for
  abbrev pub NamesOf : Option Text → List Text → Type 0
  NamesOf None names = names ≡ []
  NamesOf (Some name) names = (o : Option Node) × Q name o × (names ≡ names_in o)

  pub record HasMore (url : Text) (names : List Text) (n : Node) : Type 0 where
    pub twins : List Text
    pub kinds : List Text
    pub targets : List Text
    pub names_are : n.names ≡ with_others (with_others (with_others names twins) kinds) targets
    pub of_twin : NamesOf (key_at url (twin_of n.element.id)) twins
    pub of_kind : NamesOf (only_type_key p n.element.types) kinds
    pub of_target : NamesOf (target_key p url n.element) targets

  pub record HasSame (es : List Element) (names : List Text) (n : Node) : Type 0 where
    pub names_are : n.names ≡ names
    pub untouched : n.touched ≡ false
    pub none_new : is_touched es n.element.id names ≡ false

  pub record IsMadeOf (url : Text) (es : List Element) (inherited : Element) (names slices : List Text) (n : Node) : Type 0 where
    pub element_is : n.element ≡ laid es (all_slices es inherited.id slices) inherited
    pub slices_are : n.slices ≡ all_slices es inherited.id slices
    pub names_are : HasMore url names n ⊎ HasSame es names n

  after_names : (o : Option Text) (next : List Text → Asking Node) (thing : Option Node) → ComesWith Q (asks_names o next) thing
      → (names : List Text) × NamesOf o names × ComesWith Q (next names) thing
  after_names None next thing h = ([], refl, h)
  after_names (Some name) next thing h = (names_in h.0, (h.0, h.1, refl), h.2)

  touched_made : (url : Text) (e : Element) (names slices : List Text) (o : Option Node) → ComesWith Q (touched_node p url e names slices) o
      → (n : Node) × (o ≡ Some n) × (n.element ≡ e) × (n.slices ≡ slices) × HasMore url names n
  touched_made url e names slices o h =
      let one = after_names (key_at url (twin_of e.id)) (λ twins. asks_kinds p url e slices (with_others names twins)) o h in
      let two = after_names (only_type_key p e.types) (λ kinds. asks_targets p url e slices (with_others (with_others names one.0) kinds)) o one.2 in
      let before = with_others (with_others names one.0) two.0 in
      let three = after_names (target_key p url e) (λ targets. it_is (node_with e (with_others before targets) slices true)) o two.2 in
      let n = node_with e (with_others before three.0) slices true in
      let more : HasMore url names n = record {
        twins = one.0;
        kinds = two.0;
        targets = three.0;
        names_are = refl;
        of_twin = one.1;
        of_kind = two.1;
        of_target = three.1;
      } in
      (n, sym three.2, refl, refl, more)

  node_made : (url : Text) (es : List Element) (inherited : Element) (names slices : List Text) (o : Option Node) (b : Bool)
      → is_touched es (laid es (all_slices es inherited.id slices) inherited).id names ≡ b
      → ComesWith Q (cond b (touched_node p url (laid es (all_slices es inherited.id slices) inherited) names (all_slices es inherited.id slices))
      (it_is (node_with (laid es (all_slices es inherited.id slices) inherited) names (all_slices es inherited.id slices) false))) o
      → (n : Node) × (o ≡ Some n) × IsMadeOf url es inherited names slices n
  node_made url es inherited names slices o true is h =
      let t = touched_made url (laid es (all_slices es inherited.id slices) inherited) names (all_slices es inherited.id slices) o h in
      (t.0, t.1, record { element_is = t.2; slices_are = t.3; names_are = inl t.4 })
  node_made url es inherited names slices o false is h =
      (_, sym h, record { element_is = refl; slices_are = refl; names_are = inr (record { names_are = refl; untouched = refl; none_new = is }) })

  pub made_is : (url : Text) (es : List Element) (inherited : Element) (names slices : List Text) (o : Option Node)
      → ComesWith Q (made p url es inherited names slices) o → (n : Node) × (o ≡ Some n) × IsMadeOf url es inherited names slices n
  made_is url es inherited names slices o h =
      node_made url es inherited names slices o (is_touched es (laid es (all_slices es inherited.id slices) inherited).id names) refl h

  made_some : (url : Text) (es : List Element) (inherited : Element) (names slices : List Text) (n : Node)
      → ComesWith Q (made p url es inherited names slices) (Some n) → IsMadeOf url es inherited names slices n
  made_some url es inherited names slices n h = by (made_is url es inherited names slices (Some n) h)
    where
      by : (m : Node) × (Some n ≡ Some m) × IsMadeOf url es inherited names slices m → IsMadeOf url es inherited names slices n
      by m = subst (IsMadeOf url es inherited names slices) (same_Some m.0 n (sym m.1)) m.2

  -- ---- where a node comes from

  pub record FromWritten (id url : Text) (n : Node) : Type 0 where
    pub source : Source
    pub own : Element
    pub at : source_at p url ≡ Some source
    pub is_written : source.written ≡ true
    pub finds : find source.elements id ≡ Some own
    pub node_is : n ≡ written_node source.elements id own

  pub record FromBase (id url : Text) (n : Node) : Type 0 where
    pub source : Source
    pub base : Text
    pub below : Node
    pub by_base : ByBase p url source base
    pub has_base : Q (key id base) (Some below)
    pub is_made : IsMadeOf url source.elements below.element below.names below.slices n

  pub record FromWhole (id url : Text) (n : Node) : Type 0 where
    pub source : Source
    pub base : Text
    pub whole : Text
    pub sliced : Node
    pub by_base : ByBase p url source base
    pub sliced_is : sliced_of id ≡ Some whole
    pub finds : is_some (find source.elements id) ≡ true
    pub has_whole : Q (key whole url) (Some sliced)
    pub is_made : IsMadeOf url source.elements (moved id (as_slice sliced.element)) [] [] n

  pub record FromFront (id url : Text) (n : Node) : Type 0 where
    pub source : Source
    pub base : Text
    pub front : Text
    pub parent : Node
    pub other : Text
    pub from : Text
    pub like : Node
    pub by_base : ByBase p url source base
    pub unsliced : sliced_of id ≡ None
    pub front_is : front_of id ≡ Some front
    pub has_front : Q (key front url) (Some parent)
    pub is_touched : parent.touched ≡ true
    pub leads : Leads p url front parent.element other
    pub child_is : child_key (name_of id) other ≡ Some from
    pub has_from : Q from (Some like)
    pub is_made : IsMadeOf url source.elements (moved id like.element) [] [] n

  pub data Origin (id url : Text) (n : Node) : Type 0 where
    from_written : FromWritten id url n → Origin id url n
    from_base : FromBase id url n → Origin id url n
    from_whole : FromWhole id url n → Origin id url n
    from_front : FromFront id url n → Origin id url n

  -- ---- a new child

  abbrev One : Text → Text → List Element → Node → Option Text → Type 0
  One url id es n o = (from : Text) × (like : Node) × (o ≡ Some from) × Q from (Some like) × IsMadeOf url es (moved id like.element) [] [] n

  first_cases : (url id : Text) (es : List Element) (n : Node) (o : Option Text) (otherwise : Asking Node)
      → ComesWith Q (first_there p url es id o otherwise) (Some n)
      → One url id es n o ⊎ ComesWith Q otherwise (Some n)
  first_cases url id es n None otherwise h = inr h
  first_cases url id es n (Some from) otherwise h = by h.0 h.1 h.2
    where
      by : (o : Option Node) → Q from o → ComesWith Q (option_map_or (λ n. made_from p url es id n.element) o otherwise) (Some n)
          → One url id es n (Some from) ⊎ ComesWith Q otherwise (Some n)
      by None q h = inr h
      by (Some like) q h = inl (from, like, refl, q, made_some url es (moved id like.element) [] [] n h)

  child_from : (name : Text) (o : Option Text) (from : Text) → child_of name o ≡ Some from
      → (other : Text) × (o ≡ Some other) × (child_key name other ≡ Some from)
  child_from name None from e = absurd (none-some from e)
  child_from name (Some other) from e = (other, refl, e)

  abbrev Like : Text → Text → List Element → Text → Element → Node → Type 0
  Like id url es front parent n =
      (other : Text) × (from : Text) × (like : Node) × Leads p url front parent other × (child_key (name_of id) other ≡ Some from)
      × Q from (Some like) × IsMadeOf url es (moved id like.element) [] [] n

  like_target : (id url : Text) (es : List Element) (front : Text) (parent : Element) (n : Node)
      → ComesWith Q (from_target p url es id parent) (Some n) → Like id url es front parent n
  like_target id url es front parent n h =
      elim (first_cases url id es n (child_of (name_of id) (target_key p url parent)) (given None) h) [
        | inl l ↦ let c = child_from (name_of id) (target_key p url parent) l.0 l.2 in (c.0, l.0, l.1, inr (inr c.1), c.2, l.3, l.4)
        | inr none ↦ absurd (none-some n none)
      ]

  like_types : (id url : Text) (es : List Element) (front : Text) (parent : Element) (n : Node)
      → ComesWith Q (from_types p url es id parent) (Some n) → Like id url es front parent n
  like_types id url es front parent n h =
      elim (first_cases url id es n (child_of (name_of id) (only_type_key p parent.types)) (from_target p url es id parent) h) [
        | inl l ↦ let c = child_from (name_of id) (only_type_key p parent.types) l.0 l.2 in (c.0, l.0, l.1, inr (inl c.1), c.2, l.3, l.4)
        | inr later ↦ like_target id url es front parent n later
      ]

  like_parent : (id url : Text) (es : List Element) (front : Text) (parent : Element) (n : Node)
      → ComesWith Q (from_parent p url es id front parent) (Some n) → Like id url es front parent n
  like_parent id url es front parent n h =
      elim (first_cases url id es n (child_of (name_of id) (key_at url (twin_of front))) (from_types p url es id parent) h) [
        | inl l ↦ let c = child_from (name_of id) (key_at url (twin_of front)) l.0 l.2 in (c.0, l.0, l.1, inl c.1, c.2, l.3, l.4)
        | inr later ↦ like_types id url es front parent n later
      ]

  of_child : (id url base : Text) (s : Source) (n : Node) → ByBase p url s base → sliced_of id ≡ None → (o : Option Text) → front_of id ≡ o
      → ComesWith Q (new_child p url s.elements id o) (Some n) → Origin id url n
  of_child id url base s n by none None is h = absurd (none-some n h)
  of_child id url base s n based none (Some front) is h = at_front h.0 h.1 h.2
    where
      touched : (parent : Node) → Q (key front url) (Some parent) → (b : Bool) → parent.touched ≡ b
          → ComesWith Q (cond b (from_parent p url s.elements id front parent.element) (given None)) (Some n) → Origin id url n
      touched parent q false is_b h = absurd (none-some n h)
      touched parent q true is_b h =
          let l = like_parent id url s.elements front parent.element n h in
          from_front (record {
            source = s;
            base = base;
            front = front;
            parent = parent;
            other = l.0;
            from = l.1;
            like = l.2;
            by_base = based;
            unsliced = none;
            front_is = is;
            has_front = q;
            is_touched = is_b;
            leads = l.3;
            child_is = l.4;
            has_from = l.5;
            is_made = l.6;
          })

      at_front : (o : Option Node) → Q (key front url) o → ComesWith Q (option_map_or (from_node p url s.elements id front) o (given None)) (Some n)
          → Origin id url n
      at_front None q h = absurd (none-some n h)
      at_front (Some parent) q h = touched parent q parent.touched refl h

  -- ---- a new slice

  abbrev with_whole : Text → Text → List Element → Option Node → Asking Node
  with_whole url id es node = option_map_or (λ w. made_from p url es id (as_slice w.element)) node (given None)

  of_slice : (id url base : Text) (s : Source) (n : Node) (whole : Text) → ByBase p url s base → sliced_of id ≡ Some whole
      → ComesWith Q (new_slice p url s.elements id whole) (Some n) → Origin id url n
  of_slice id url base s n whole based is h = found (is_some (find s.elements id)) refl h
    where
      at_whole : is_some (find s.elements id) ≡ true → (o : Option Node) → Q (key whole url) o
          → ComesWith Q (with_whole url id s.elements o) (Some n) → Origin id url n
      at_whole finds None q h = absurd (none-some n h)
      at_whole finds (Some w) q h =
          from_whole (record {
            source = s;
            base = base;
            whole = whole;
            sliced = w;
            by_base = based;
            sliced_is = is;
            finds = finds;
            has_whole = q;
            is_made = made_some url s.elements (moved id (as_slice w.element)) [] [] n h;
          })

      found : (b : Bool) → is_some (find s.elements id) ≡ b
          → ComesWith Q (cond b (asks (key whole url) (with_whole url id s.elements)) (given None)) (Some n)
          → Origin id url n
      found false finds h = absurd (none-some n h)
      found true finds h = at_whole finds h.0 h.1 h.2

  of_new : (id url base : Text) (s : Source) (n : Node) → ByBase p url s base → (o : Option Text) → sliced_of id ≡ o
      → ComesWith Q (option_map_or (new_slice p url s.elements id) o (new_child p url s.elements id (front_of id))) (Some n) → Origin id url n
  of_new id url base s n based None is h = of_child id url base s n based is (front_of id) refl h
  of_new id url base s n based (Some whole) is h = of_slice id url base s n whole based is h

  -- ---- any id

  of_base : (id url base : Text) (s : Source) (n : Node) → ByBase p url s base → (o : Option Node) → Q (key id base) o
      → ComesWith Q (option_map_or (λ m. made p url s.elements m.element m.names m.slices) o (new p url s.elements id)) (Some n) → Origin id url n
  of_base id url base s n based None q h = of_new id url base s n based (sliced_of id) refl h
  of_base id url base s n based (Some m) q h =
      let is_made = made_some url s.elements m.element m.names m.slices n h in
      from_base (record { source = s; base = base; below = m; by_base = based; has_base = q; is_made = is_made })

  of_found : (id url : Text) (s : Source) (n : Node) → source_at p url ≡ Some s → s.written ≡ true → (o : Option Element) → find s.elements id ≡ o
      → option_map (written_node s.elements id) o ≡ Some n → Origin id url n
  of_found id url s n at is None finds h = absurd (none-some n h)
  of_found id url s n at is (Some e) finds h =
      let node_is = sym (same_Some (written_node s.elements id e) n h) in
      from_written (record { source = s; own = e; at = at; is_written = is; finds = finds; node_is = node_is })

  of_source : (id url : Text) (s : Source) (n : Node) → source_at p url ≡ Some s → (b : Bool) → s.written ≡ b → (o : Option Text) → s.base ≡ o
      → ComesWith Q (cond b (written s.elements id) (inherits p url s.elements id o)) (Some n) → Origin id url n
  of_source id url s n at true is o rests h = of_found id url s n at is (find s.elements id) refl h
  of_source id url s n at false is None rests h = absurd (none-some n h)
  of_source id url s n at false is (Some base) rests h = of_base id url base s n (record { at = at; unwritten = is; rests = rests }) h.0 h.1 h.2

  of_url : (id url : Text) (n : Node) (o : Option Source) → source_at p url ≡ o
      → ComesWith Q (option_map_or (in_source p id url) o (given None)) (Some n) → Origin id url n
  of_url id url n None is h = absurd (none-some n h)
  of_url id url n (Some s) is h = of_source id url s n is s.written refl s.base refl h

  pub origin : (name : Text) (n : Node) → ComesWith Q (asking p name) (Some n)
      → (id : Text) × (url : Text) × (key_parts name ≡ Some (id, url)) × Origin id url n
  origin name n h = by (key_parts name) refl h
    where
      by : (o : Option (Text × Text)) → key_parts name ≡ o → ComesWith Q (option_map_or (λ parts. at p parts.0 parts.1) o (given None)) (Some n)
          → (id : Text) × (url : Text) × (key_parts name ≡ Some (id, url)) × Origin id url n
      by None is h = absurd (none-some n h)
      by (Some parts) is h = (parts.0, parts.1, is, of_url parts.0 parts.1 n (source_at p parts.1) refl h)
