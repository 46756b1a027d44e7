-- NEW's definitions stand at their places in the schema of the package that is made, and each type is NEW's.
use Rattle.std.proofs.Common.{◌≡◌, ℕ, zero, suc, ◌<◌, ◌+◌, Bool, true, false, not, ◌&&◌, List, [], ◌∷◌, ◌++◌, map, length, Option, None, Some, is_some, nat_eq, if◌then◌else◌, cond, codes}
use Rattle.std.proofs.Common.{refl, ap, sym, ◌∙◌, subst, arith}
use Rattle.std.proofs.lemmas.Bool.{and_parts}
use Rattle.std.proofs.lemmas.Slice.Eq.{bytes_eq-Decides}
use Rattle.std.specs.Option.{option_map_or, option_and_then}
use Rattle.std.specs.Result.{result_ok}
use Rattle.std.specs.List.{slice_get, starts_with, Contains}
use Rattle.std.specs.Str.{bytes_eq}
use Rattle.fhir_json.specs.Tree.{Text, Tree, null, boolean, number, string, array, object, Property, members_of, properties_of}
use Rattle.fhir_json.specs.Fields.{value_named, field, as_text, members_in}
use Rattle.fhir_json.proofs.Trees.{pairs_again, members_of-properties_of}
use Rattle.fhir_names.specs.Canonicals.{CanonicalParts, read_canonical}
use Rattle.fhir_names.proofs.ReadCanonicals.{canonical_found}
use Rattle.fhir_package.specs.Definitions.{ByUrl, Definitions}
use Rattle.fhir_package.specs.Canonical.{has_version}
use Rattle.fhir_elements.specs.Element.{Element}
use Rattle.fhir_overlay.specs.Completed.{without_member, snapshot_tree, with_snapshot}
use Rattle.fhir_definition.specs.Head.{kind_in, is_type_definition}
use Rattle.fhir_definition.specs.Definition.{Definition, definition_of, definitions_from}
use Rattle.fhir_nodes.specs.Urls.{url_place, where_versioned, version_place, canonical_place}
use Rattle.fhir_nodes.specs.Types.{type_place}
use Rattle.fhir_schema.specs.Schemas.{schema_of}
use Rattle.fhir_alike.specs.Mark.{package_texts}
use Rattle.fhir_alike.specs.Profiles.{is_profile}
use Rattle.fhir_beside.specs.Standing.{is_compared}
use Rattle.fhir_beside.specs.Made.{with_url_member, with_url, elements_of, bound_anew, moved, profiles_from}
use Rattle.fhir_beside.specs.Beside.{IsBeside}
use Rattle.fhir_beside.proofs.Marked.{AllMarked, other, url_not, read_so, mark_new, put_profiles, put_sets}

-- ---- definitions behind others

definitions_more : (n : ℕ) (xs ys : ByUrl) → definitions_from n (xs ++ ys) ≡ definitions_from n xs ++ definitions_from (n + length xs) ys
definitions_more n [] ys = let same : n ≡ n + 0 = omega arith in ap (λ m. definitions_from m ys) same
definitions_more n (x ∷ xs) ys =
    let next : suc n + length xs ≡ n + suc (length xs) = omega arith in
    ap (λ ds. definition_of n x.0 x.1 ∷ ds) (definitions_more (suc n) xs ys ∙ ap (λ m. definitions_from (suc n) xs ++ definitions_from m ys) next)

length_from : (n : ℕ) (es : ByUrl) → length (definitions_from n es) ≡ length es
length_from n [] = refl
length_from n (e ∷ es) = ap suc (length_from (suc n) es)

get_before : {A : Type 0} (xs ys : List A) (i : ℕ) → i < length xs → slice_get (xs ++ ys) i ≡ slice_get xs i
get_before [] ys i h = absurd (omega arith)
get_before (x ∷ xs) ys zero h = refl
get_before (x ∷ xs) ys (suc i) h = get_before xs ys i (omega arith)

-- ---- by urls

none_at : (mark url : Text) → starts_with nat_eq url mark ≡ false → (n : ℕ) (es : ByUrl) → AllMarked mark es → url_place (definitions_from n es) url ≡ None
none_at mark url h n [] m = refl
none_at mark url h n (e ∷ es) m =
    ap (λ b. if b then Some n else url_place (definitions_from (suc n) es) url) (other mark url h e.0 m.0) ∙ none_at mark url h (suc n) es m.1

url_before : (url : Text) (ds more : List Definition) → url_place more url ≡ None → url_place (ds ++ more) url ≡ url_place ds url
url_before url [] more m = m
url_before url (d ∷ ds) more m = ap (λ (o : Option ℕ). if bytes_eq url d.url then Some d.place else o) (url_before url ds more m)

within : (url : Text) (n : ℕ) (es : ByUrl) (k : ℕ) → url_place (definitions_from n es) url ≡ Some k → k < n + length es
within url n [] k e = cc
within url n (x ∷ es) k e = go (bytes_eq url x.0) (within url (suc n) es k) e
  where
    go : (b : Bool) → (url_place (definitions_from (suc n) es) url ≡ Some k → k < suc n + length es)
        → (if b then Some n else url_place (definitions_from (suc n) es) url) ≡ Some k → k < n + suc (length es)
    go true so f = let same : n ≡ k = cc in omega (arith, same)
    go false so f = let r = so f in omega (arith, r)

version_before : (ds more : List Definition) (version : Option Text) (k : ℕ) → k < length ds
    → where_versioned (ds ++ more) version k ≡ where_versioned ds version k
version_before ds more version k h =
    ap (λ (o : Option Definition). if option_map_or (λ v. option_map_or (λ d. has_version v d.version) o false) version true then Some k else None)
    (get_before ds more k h)

module _ (es : ByUrl) (more : List Definition) where
  found_before : (r : CanonicalParts) → url_place more r.0 ≡ None
      → version_place (definitions_from 0 es ++ more) r ≡ version_place (definitions_from 0 es) r
  found_before r none =
      ap (option_and_then (where_versioned (definitions_from 0 es ++ more) r.1)) (url_before r.0 (definitions_from 0 es) more none)
      ∙ go (url_place (definitions_from 0 es) r.0) refl
    where
      go : (o : Option ℕ) → url_place (definitions_from 0 es) r.0 ≡ o
          → option_and_then (where_versioned (definitions_from 0 es ++ more) r.1) o ≡ option_and_then (where_versioned (definitions_from 0 es) r.1) o
      go None e = refl
      go (Some k) e =
          let h = within r.0 0 es k e in
          version_before (definitions_from 0 es) more r.1 k (omega (arith, h, length_from 0 es))

  read_before : (o : Option CanonicalParts) → ((r : CanonicalParts) → o ≡ Some r → url_place more r.0 ≡ None)
      → option_and_then (version_place (definitions_from 0 es ++ more)) o ≡ option_and_then (version_place (definitions_from 0 es)) o
  read_before None h = refl
  read_before (Some r) h = found_before r (h r refl)

-- ---- what is put in is no type

module _ (url : Text) where
  named_renamed : (ps : List Property)
      → value_named (codes "derivation") (members_of (map (with_url_member url) ps)) ≡ value_named (codes "derivation") (members_of ps)
  named_renamed [] = refl
  named_renamed (p ∷ ps) = go (bytes_eq p.0 (codes "url")) refl (named_renamed ps)
    where
      go : (b : Bool) → bytes_eq p.0 (codes "url") ≡ b
          → value_named (codes "derivation") (members_of (map (with_url_member url) ps)) ≡ value_named (codes "derivation") (members_of ps)
          → value_named (codes "derivation") (members_of ((if b then (p.0, string url) else p) ∷ map (with_url_member url) ps))
          ≡ value_named (codes "derivation") (members_of (p ∷ ps))
      go true e so =
          let same : p.0 ≡ codes "url" = (bytes_eq-Decides p.0 (codes "url")).0 e in
          let apart : bytes_eq (codes "derivation") p.0 ≡ false = ap (bytes_eq (codes "derivation")) same in
          ap (λ c. if c then Some (string url) else value_named (codes "derivation") (members_of (map (with_url_member url) ps))) apart
          ∙ so
          ∙ sym (ap (λ c. if c then Some p.1 else value_named (codes "derivation") (members_of ps)) apart)
      go false e so = ap (λ (o : Option Tree). if bytes_eq (codes "derivation") p.0 then Some p.1 else o) so

named_behind : (v : Tree) (ps : List Property)
    → value_named (codes "derivation") (members_of (without_member (codes "snapshot") ps ++ (codes "snapshot", v) ∷ []))
    ≡ value_named (codes "derivation") (members_of ps)
named_behind v [] = refl
named_behind v (p ∷ ps) = go (bytes_eq (codes "snapshot") p.0) refl (named_behind v ps)
  where
    go : (b : Bool) → bytes_eq (codes "snapshot") p.0 ≡ b
        → value_named (codes "derivation") (members_of (without_member (codes "snapshot") ps ++ (codes "snapshot", v) ∷ []))
        ≡ value_named (codes "derivation") (members_of ps)
        → value_named (codes "derivation")
        (members_of (cond (not b) (p ∷ without_member (codes "snapshot") ps) (without_member (codes "snapshot") ps) ++ (codes "snapshot", v) ∷ []))
        ≡ value_named (codes "derivation") (members_of (p ∷ ps))
    go true e so =
        let same : codes "snapshot" ≡ p.0 = (bytes_eq-Decides (codes "snapshot") p.0).0 e in
        let apart : bytes_eq (codes "derivation") p.0 ≡ false = sym (ap (bytes_eq (codes "derivation")) same) in
        so ∙ sym (ap (λ c. if c then Some p.1 else value_named (codes "derivation") (members_of ps)) apart)
    go false e so = ap (λ (o : Option Tree). if bytes_eq (codes "derivation") p.0 then Some p.1 else o) so

of_members : (t : Tree) → value_named (codes "derivation") (members_of (properties_of (members_in t))) ≡ field (codes "derivation") t
of_members (object ms) = ap (value_named (codes "derivation")) (members_of-properties_of ms)
of_members null = refl
of_members (boolean b) = refl
of_members (number n) = refl
of_members (string s) = refl
of_members (array ts) = refl

derivation_stays : (url : Text) (es : List Element) (t : Tree)
    → field (codes "derivation") (with_url url (with_snapshot es t)) ≡ field (codes "derivation") t
derivation_stays url es t =
    let put : List Property = without_member (codes "snapshot") (properties_of (members_in t)) ++ (codes "snapshot", snapshot_tree es) ∷ [] in
    ap (λ ps. value_named (codes "derivation") (members_of (map (with_url_member url) ps))) (pairs_again put)
    ∙ named_renamed url put
    ∙ named_behind (snapshot_tree es) (properties_of (members_in t))
    ∙ of_members t

and_false : (a : Bool) → (a && false) ≡ false
and_false true = refl
and_false false = refl

no_type : (t : Tree) → is_profile t ≡ true → is_type_definition t ≡ false
no_type t h = ap (λ b. is_some (kind_in t) && not b) h ∙ and_false (is_some (kind_in t))

abbrev AllProfiles : ByUrl → Type 0
AllProfiles [] = Unit {0}
AllProfiles (e ∷ es) = (is_profile e.1 ≡ true) × AllProfiles es

no_types : (code : Text) (n : ℕ) (es : ByUrl) → AllProfiles es → type_place (definitions_from n es) code ≡ None
no_types code n [] h = refl
no_types code n (e ∷ es) h =
    ap (λ b. if b && bytes_eq code (definition_of n e.0 e.1).type then Some n else type_place (definitions_from (suc n) es) code) (no_type e.1 h.0)
    ∙ no_types code (suc n) es h.1

type_before : (code : Text) (ds more : List Definition) → type_place more code ≡ None → type_place (ds ++ more) code ≡ type_place ds code
type_before code [] more m = m
type_before code (d ∷ ds) more m = ap (λ (o : Option ℕ). if d.is_type && bytes_eq code d.type then Some d.place else o) (type_before code ds more m)

module _ (old new : Definitions) (keeps : Text → Bool) (mark : Text) where
  moved_profile : (url : Text) (es : List Element) (t : Tree) → is_profile t ≡ true → is_profile (moved keeps mark url es t) ≡ true
  moved_profile url es t h =
      ap (λ o. bytes_eq (option_map_or (λ s. s) (option_and_then as_text o) []) (codes "constraint")) (derivation_stays (mark ++ url) (map (bound_anew keeps mark) es) t) ∙ h

  all_profiles : (place : ℕ) (es : ByUrl) → AllProfiles (profiles_from old new keeps mark place es)
  all_profiles place [] = tt
  all_profiles place (e ∷ es) = go (is_compared old new place e) refl (all_profiles (suc place) es)
    where
      go : (b : Bool) → is_compared old new place e ≡ b → AllProfiles (profiles_from old new keeps mark (suc place) es)
          → AllProfiles ((if b then (mark ++ e.0, moved keeps mark e.0 (elements_of place e) e.1) ∷ [] else []) ++ profiles_from old new keeps mark (suc place) es)
      go true h rest = (moved_profile e.0 (elements_of place e) e.1 (and_parts (is_profile e.1) _ h).0, rest)
      go false h rest = rest

-- ---- of the package that is made

module _ (old new beside : Definitions) (mark : Text) (types : ℕ) (b : IsBeside old new mark beside types) where
  behind : List Definition
  behind = definitions_from (0 + length new.structure_definitions) b.profiles

  made : (schema_of beside).definitions ≡ definitions_from 0 new.structure_definitions ++ behind
  unfolding behind
  made = ap (λ p. definitions_from 0 p.structure_definitions) b.is_made ∙ definitions_more 0 new.structure_definitions b.profiles

  pub places_new : (place : ℕ) → place < length new.structure_definitions
      → slice_get (schema_of beside).definitions place ≡ slice_get (schema_of new).definitions place
  places_new place h =
      ap (λ ds. slice_get ds place) made
      ∙ get_before (definitions_from 0 new.structure_definitions) behind place (omega (arith, h, length_from 0 new.structure_definitions))

  pub canonicals_new : (canonical : Text) → Contains (package_texts old ++ package_texts new) canonical
      → canonical_place (schema_of beside).definitions canonical ≡ canonical_place (schema_of new).definitions canonical
  unfolding behind
  canonicals_new canonical there =
      ap (λ ds. canonical_place ds canonical) made
      ∙ read_before new.structure_definitions behind (result_ok (read_canonical canonical))
      (λ r e.
      none_at mark r.0
      (url_not new b.profiles b.sets mark (put_profiles old new beside mark types b) (put_sets old new beside mark types b) canonical
      (mark_new old new beside mark types b canonical there) r
      (canonical_found canonical r
      (read_so new b.profiles b.sets mark (put_profiles old new beside mark types b) (put_sets old new beside mark types b) (read_canonical canonical) r e)).1)
      (0 + length new.structure_definitions) b.profiles (put_profiles old new beside mark types b))

  profiles_all : AllProfiles b.profiles
  profiles_all =
      subst AllProfiles (sym b.are_put.profiles_are) (all_profiles old new b.are_put.keeps mark 0 old.structure_definitions)

  pub types_new : (code : Text) → type_place (schema_of beside).definitions code ≡ type_place (schema_of new).definitions code
  unfolding behind
  types_new code =
      ap (λ ds. type_place ds code) made
      ∙ type_before code (definitions_from 0 new.structure_definitions) behind
      (no_types code (0 + length new.structure_definitions) b.profiles profiles_all)
