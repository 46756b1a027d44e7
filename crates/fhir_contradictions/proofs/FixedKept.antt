-- What the value of a child is equal to is a value of the child's type.
use Rattle.std.proofs.Common.{◌≡◌, Bool, true, false, cond, not, List, [], ◌∷◌, Option, None, Some, refl, sym, ap, ◌∙◌, subst, IsTrue, ◌&&◌}
use Rattle.std.specs.Option.{option_map, option_map_or}
use Rattle.std.specs.List.{Contains, list_all, list_any}
use Rattle.std.specs.Str.{bytes_eq}
use Rattle.std.proofs.lemmas.Bool.{and_parts, and_from, not-true, both_ways, false≢true}
use Rattle.std.proofs.lemmas.Option.{none-some, same_Some}
use Rattle.std.proofs.lemmas.Slice.Eq.{bytes_eq-Decides}
use Rattle.fhir_json.specs.Tree.{Text, Tree, null, boolean, number, string, array, object}
use Rattle.fhir_json.specs.Fields.{is_object}
use Rattle.fhir_matching.specs.Equality.{equal}
use Rattle.fhir_prims.specs.declared.prim.PrimType.{PrimType}
use Rattle.fhir_prims.specs.Values.{lexical, allows_number, allows_text}
use Rattle.fhir_elements.specs.Element.{Element}
use Rattle.fhir_nodes.specs.declared.node.NodeRef.{NodeRef}
use Rattle.fhir_nodes.specs.Types.{names_resource, primitive_of, is_system}
use Rattle.fhir_forms.specs.declared.form.Content.TheVariants.{Primitive, System, Resource, Complex}
use Rattle.fhir_forms.specs.Forms.{content_of, typing_node}
use Rattle.fhir_schema.specs.Schemas.{SchemaValue, element_at, entry_of}
use Rattle.fhir_instance.specs.Items.{Item, item, Named, json_of, kids_in}
use Rattle.fhir_instance.specs.Typing.{Value, content_item, item_with, plain_item, kids_by, primitive_item, system_item, complex_item, alone, is_filled_text, value_of, kids_as}
use Rattle.fhir_instance.specs.declared.role.ObjectRole.TheVariants as roles
use Rattle.fhir_facets.specs.Values.{is_alone, fixed_holds}
use Rattle.fhir_conformance.specs.Asks.{own, fixed, pattern, range, length_limit, binding}
use Rattle.fhir_conformance.specs.Conformance.{Interpretation, Around, seen, fixed_at}
use Rattle.fhir_contradictions.specs.Typing.{allows_code, codes_under}
use Rattle.fhir_contradictions.specs.Contradictions.{may_have, is_possible, misses_type, fixed_misses}
use Rattle.fhir_contradictions.proofs.Listed.{any_from}
use Rattle.fhir_contradictions.proofs.Slotted.{IsOfType}
use Rattle.fhir_contradictions.proofs.Asked.{holds, Meets}
use Rattle.fhir_contradictions.proofs.Typed.{IsCoveringAlone, by_value, child_allowed}

-- ---- equal values

-- texts that are equal are the same
same_text : (a b : Text) → IsTrue (bytes_eq a b) → a ≡ b
same_text a b e = (bytes_eq-Decides a b).0 e

-- what is equal to a text that isn't empty is one
filled_same : (f j : Tree) → IsTrue (equal f j) → IsTrue (is_filled_text j) → IsTrue (is_filled_text f)
filled_same f null same h = absurd (false≢true h)
filled_same f (boolean b) same h = absurd (false≢true h)
filled_same f (number n) same h = absurd (false≢true h)
filled_same null (string t) same h = absurd (false≢true same)
filled_same (boolean b) (string t) same h = absurd (false≢true same)
filled_same (number n) (string t) same h = absurd (false≢true same)
filled_same (string u) (string t) same h = subst (λ (w : Text). IsTrue (is_filled_text (string w))) (sym (same_text u t same)) h
filled_same (array ts) (string t) same h = absurd (false≢true same)
filled_same (object ms) (string t) same h = absurd (false≢true same)
filled_same f (array ts) same h = absurd (false≢true h)
filled_same f (object ms) same h = absurd (false≢true h)

-- what is equal to a value of a primitive type is one
lexical_same : (prim : PrimType) (f j : Tree) → IsTrue (equal f j) → IsTrue (lexical prim j) → IsTrue (lexical prim f)
lexical_same prim f null same h = absurd (false≢true h)
lexical_same prim null (boolean b) same h = absurd (false≢true same)
lexical_same prim (boolean a) (boolean b) same h = h
lexical_same prim (number n) (boolean b) same h = absurd (false≢true same)
lexical_same prim (string t) (boolean b) same h = absurd (false≢true same)
lexical_same prim (array ts) (boolean b) same h = absurd (false≢true same)
lexical_same prim (object ms) (boolean b) same h = absurd (false≢true same)
lexical_same prim null (number n) same h = absurd (false≢true same)
lexical_same prim (boolean a) (number n) same h = absurd (false≢true same)
lexical_same prim (number m) (number n) same h = subst (λ (w : Text). IsTrue (allows_number prim w)) (sym (same_text m n same)) h
lexical_same prim (string t) (number n) same h = absurd (false≢true same)
lexical_same prim (array ts) (number n) same h = absurd (false≢true same)
lexical_same prim (object ms) (number n) same h = absurd (false≢true same)
lexical_same prim null (string t) same h = absurd (false≢true same)
lexical_same prim (boolean a) (string t) same h = absurd (false≢true same)
lexical_same prim (number n) (string t) same h = absurd (false≢true same)
lexical_same prim (string u) (string t) same h = subst (λ (w : Text). IsTrue (allows_text prim w)) (sym (same_text u t same)) h
lexical_same prim (array ts) (string t) same h = absurd (false≢true same)
lexical_same prim (object ms) (string t) same h = absurd (false≢true same)
lexical_same prim f (array ts) same h = absurd (false≢true h)
lexical_same prim f (object ms) same h = absurd (false≢true h)

-- what is equal to an object is one
object_same : (f j : Tree) → IsTrue (equal f j) → IsTrue (is_object j) → IsTrue (is_object f)
object_same f null same h = absurd (false≢true h)
object_same f (boolean b) same h = absurd (false≢true h)
object_same f (number n) same h = absurd (false≢true h)
object_same f (string t) same h = absurd (false≢true h)
object_same f (array ts) same h = absurd (false≢true h)
object_same null (object ms) same h = absurd (false≢true same)
object_same (boolean b) (object ms) same h = absurd (false≢true same)
object_same (number n) (object ms) same h = absurd (false≢true same)
object_same (string t) (object ms) same h = absurd (false≢true same)
object_same (array ts) (object ms) same h = absurd (false≢true same)
object_same (object ns) (object ms) same h = refl

-- ---- the value of an item, by its content

-- the item has a value, which passes a test, if it has one
abbrev IsValued : (Tree → Bool) → Item → Type 0
IsValued test y = (j : Tree) → json_of y ≡ Some j → IsTrue (test j)

-- an item with a value has that one
valued : (test : Tree → Bool) (code : Text) (t : Tree) (kids : Option (List Named)) (y : Item) → IsTrue (test t) → item_with code (Some t) kids ≡ Some y → IsValued test y
valued test code t None y passes is j there = absurd (none-some y is)
valued test code t (Some ks) y passes is j there =
    let same : item code (Some t) (kids_in ks) ≡ y = same_Some (item code (Some t) (kids_in ks)) y is in
    subst (λ (w : Tree). IsTrue (test w)) (same_Some t j (ap json_of same ∙ there)) passes

-- an item without children, of a value that passes the test
valued_plain : (test : Tree → Bool) (code : Text) (t : Tree) (y : Item) → plain_item (test t) code t ≡ Some y → IsValued test y
valued_plain test code t y is = go (test t) refl is
  where
    go : (b : Bool) → test t ≡ b → plain_item b code t ≡ Some y → IsValued test y
    go true e is = valued test code t (Some []) y e is
    go false e is = absurd (none-some y is)

-- the value of a primitive is one of its type
valued_primitive : (prim : PrimType) (below : Option NodeRef) (code : Text) (v c : Option Value) (y : Item) → primitive_item prim below code v c ≡ Some y
    → IsValued (lexical prim) y
valued_primitive prim below code None None y is = absurd (none-some y is)
valued_primitive prim below code (Some v) None y is = valued_plain (lexical prim) code v.json y is
valued_primitive prim below code None (Some c) y is = without (kids_by roles.Companion below c) is
  where
    without : (kids : Option (List Named)) → item_with code None kids ≡ Some y → IsValued (lexical prim) y
    without None is j there = absurd (none-some y is)
    without (Some ks) is j there =
        absurd (none-some j (ap json_of (same_Some (item code None (kids_in ks)) y is) ∙ there))
valued_primitive prim below code (Some v) (Some c) y is = go (lexical prim v.json) refl is
  where
    go : (b : Bool) → lexical prim v.json ≡ b → cond b (item_with code (Some v.json) (kids_by roles.Companion below c)) None ≡ Some y → IsValued (lexical prim) y
    go true e is = valued (lexical prim) code v.json (kids_by roles.Companion below c) y e is
    go false e is = absurd (none-some y is)

module _ (s : SchemaValue) where
  -- what has children as an object is one
  valued_complex : (below : Option NodeRef) (code : Text) (t : Tree) (y : Item) → complex_item below code (value_of s t) ≡ Some y → IsValued is_object y
  valued_complex None code t y is = absurd (none-some y is)
  valued_complex (Some n) code null y is = absurd (none-some y is)
  valued_complex (Some n) code (boolean b) y is = absurd (none-some y is)
  valued_complex (Some n) code (number m) y is = absurd (none-some y is)
  valued_complex (Some n) code (string t) y is = absurd (none-some y is)
  valued_complex (Some n) code (array ts) y is = absurd (none-some y is)
  valued_complex (Some n) code (object ms) y is =
      valued is_object code (object ms) (kids_as s (object ms) (record { node = n; role = roles.Element })) y refl is

  -- the same of a value that stands alone
  valued_alone : (below : Option NodeRef) (code : Text) (v c : Option Tree) (y : Item)
      → alone (complex_item below code) (option_map (value_of s) v) (option_map (value_of s) c) ≡ Some y → IsValued is_object y
  valued_alone below code None c y is = absurd (none-some y is)
  valued_alone below code (Some v) None y is = valued_complex below code v y is
  valued_alone below code (Some v) (Some c) y is = absurd (none-some y is)

  -- what an item's value is equal to is a value of the type of that code
  value_possible : (k : NodeRef) (code : Text) (v c : Option Tree) (y : Item) (f j : Tree)
      → content_item s (content_of s.definitions k code) code (option_map (value_of s) v) (option_map (value_of s) c) ≡ Some y
      → json_of y ≡ Some j → IsTrue (equal f j) → IsTrue (may_have s f code)
  value_possible k code v c y f j is there same = go (is_system code) (names_resource s.definitions code) (primitive_of s.definitions code) is
    where
      below : Option NodeRef
      below = typing_node s.definitions k code

      go : (system resource : Bool) (prim : Option PrimType)
          → content_item s (cond system System (cond resource Resource (option_map_or (λ (prim : PrimType). Primitive prim below) prim (Complex below)))) code
          (option_map (value_of s) v) (option_map (value_of s) c) ≡ Some y
          → IsTrue (cond system (is_filled_text f) (cond resource true (option_map_or (λ (prim : PrimType). lexical prim f) prim (is_object f))))
      go true resource prim is =
          filled_same f j same
          (by_value (IsValued is_filled_text) (system_item code) (λ w z. valued_plain is_filled_text code w.json z)
          (option_map (value_of s) v) (option_map (value_of s) c) y is j there)
      go false true prim is = refl
      go false false (Some prim) is =
          lexical_same prim f j same (valued_primitive prim below code (option_map (value_of s) v) (option_map (value_of s) c) y is j there)
      go false false None is = object_same f j same (valued_alone below code v c y is j there)

  -- ---- the fixed value of a node

  -- a value that is fixed is equal to that of the item
  pub record IsFixed (f : Tree) (y : Item) : Type 0 where
    pub value : Tree
    pub there : json_of y ≡ Some value
    pub same : IsTrue (equal f value)

  -- where a fixed value holds, the item has a value, to which it is equal
  fixed_value : (f : Tree) (y : Item) → IsTrue (fixed_holds f (seen y)) → IsFixed f y
  fixed_value f y h = go (json_of y) refl h
    where
      go : (o : Option Tree) → json_of y ≡ o → IsTrue (option_map_or (λ (json : Tree). equal f json && is_alone (seen y) json) o false) → IsFixed f y
      go None e h = absurd (false≢true h)
      go (Some j) e h = record { value = j; there = e; same = (and_parts (equal f j) (is_alone (seen y) j) h).0 }

  -- no child is of a type that has no such value
  none_misses : IsCoveringAlone s → (meaning : Interpretation) (around : Around) (by : NodeRef) (name : Text) (y : Item) (n : NodeRef) → (g : IsOfType s by name y)
      → Contains (codes_under s by name) g.code → Meets s meaning around y n → (f : Tree) → IsTrue (misses_type s by name n f) → IsFixed f y → ⊥
  none_misses only meaning around by name y n g listed met f misses is =
      let codes = codes_under s by name in
      let parts = and_parts (list_any (allows_code s n) codes) (not (list_any (is_possible s n f) codes)) misses in
      let have = value_possible (entry_of by g.slot) g.code g.value g.companion y f is.value g.is is.there is.same in
      let possible : IsTrue (is_possible s n f g.code) =
      and_from (allows_code s n g.code) (may_have s f g.code) (child_allowed s only by name y n g met.type) have in
      both_ways (list_any (is_possible s n f) codes) (not-true (list_any (is_possible s n f) codes) parts.1)
      (any_from (is_possible s n f) codes g.code listed possible)

  -- no child conforms to a node whose fixed value is none of a type that the child can have
  pub no_fixed_misses : IsCoveringAlone s → (meaning : Interpretation) (around : Around) (by : NodeRef) (name : Text) (y : Item) (n : NodeRef)
      → (g : IsOfType s by name y) → Contains (codes_under s by name) g.code → Meets s meaning around y n
      → IsTrue (fixed_misses (λ e. misses_type s by name n) s n) → ⊥
  no_fixed_misses only meaning around by name y n g listed met misses =
      at_node (element_at s n) misses
      (and_parts (holds s meaning around y met.roots (own fixed n))
      (list_all (holds s meaning around y met.roots) (own pattern n ∷ own range n ∷ own length_limit n ∷ own binding n ∷ [])) met.facets).0
    where
      at_value : (o : Option (Text × Tree)) → IsTrue (option_map_or (λ (p : Text × Tree). misses_type s by name n p.1) o false)
          → IsTrue (option_map_or (λ (p : Text × Tree). fixed_holds p.1 (seen y)) o true) → ⊥
      at_value None misses h = false≢true misses
      at_value (Some p) misses h = none_misses only meaning around by name y n g listed met p.1 misses (fixed_value p.1 y h)

      at_node : (o : Option Element) → IsTrue (option_map_or (λ (e : Element). option_map_or (λ p. misses_type s by name n p.1) e.fixed false) o false)
          → IsTrue (option_map_or (fixed_at y) o true) → ⊥
      at_node None misses h = false≢true misses
      at_node (Some e) misses h = at_value e.fixed misses h
