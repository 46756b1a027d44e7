-- What is selected.
use Rattle.std.proofs.Common.{◌≡◌, inl, inr, Bool, true, false, cond, ◌||◌, ◌&&◌, List, [], ◌∷◌, ◌++◌, map, filter, Option, Some, refl, sym, ap, ◌∙◌, append_assoc}
use Rattle.std.specs.Prelude.{codes}
use Rattle.std.specs.List.{list_any, flat_map}
use Rattle.std.specs.Map.{lookup}
use Rattle.std.specs.Option.{option_map_or}
use Rattle.std.specs.Str.{bytes_eq}
use Rattle.std.proofs.lemmas.Bool.{or_cases, or_left, or_right, false≢true}
use Rattle.std.proofs.lemmas.List.{map-append}
use Rattle.std.proofs.lemmas.List.Folds.{list_any-append}
use Rattle.std.proofs.lemmas.Slice.Eq.{bytes_eq-Decides}
use Rattle.fhir_json.specs.Tree.{Text, Tree}
use Rattle.fhir_json.specs.Fields.{text_at}
use Rattle.fhir_package.specs.declared.kind.Kind.{Kind}
use Rattle.fhir_package.specs.declared.kind.Kind.TheVariants.{StructureDefinition, ValueSet, CodeSystem}
use Rattle.fhir_package.specs.Definitions.{ByUrl, Definitions, at_url}
use Rattle.fhir_definition.specs.Head.{is_type_definition}
use Rattle.fhir_reach.specs.Keys.{KeyValue, of_url, of_code, has_key}
use Rattle.fhir_reach.specs.Naming.{structure_keys, value_set_keys}
use Rattle.fhir_reach.specs.Reach.{is_type_of, types_of, IsClosed, keys_of as keys_for, is_held, type_code_keys}
use Rattle.fhir_reach.specs.Search.{reached}
use Rattle.fhir_reach.proofs.Keys.{holds_one}
use Rattle.fhir_findings.specs.Selecting.{is_own, own_of, own_urls, selection_of, is_selected, keys_named}

-- ---- prefixes that begin some url

or_three : (a b c : Bool) → (a || b || c) ≡ (a || (b || c))
or_three true b c = refl
or_three false b c = refl

pub begun : (f : Text → Bool) (xs ys zs : List Text) → (list_any f xs || list_any f ys || list_any f zs) ≡ list_any f (xs ++ (ys ++ zs))
begun f xs ys zs =
    or_three (list_any f xs) (list_any f ys) (list_any f zs)
    ∙ ap (λ (b : Bool). list_any f xs || b) (sym (list_any-append f ys zs))
    ∙ sym (list_any-append f xs (ys ++ zs))

-- ---- own urls

own_found : (prefixes : List Text) (url : Text) (t : Tree) (es : ByUrl) → lookup (bytes_eq url) es ≡ Some t → is_own prefixes url ≡ true
    → has_key (map of_url (own_of prefixes es)) (of_url url) ≡ true
own_found prefixes url t [] is own = cc
own_found prefixes url t (e ∷ es) is own = by (bytes_eq url e.0) refl is (own_found prefixes url t es)
  where
    more : (b : Bool) → has_key (map of_url (own_of prefixes es)) (of_url url) ≡ true
        → has_key (map of_url (cond b (e.0 ∷ own_of prefixes es) (own_of prefixes es))) (of_url url) ≡ true
    more true h = or_right (bytes_eq url e.0) (has_key (map of_url (own_of prefixes es)) (of_url url)) h
    more false h = h

    by : (b : Bool) → bytes_eq url e.0 ≡ b → cond b (Some e.1) (lookup (bytes_eq url) es) ≡ Some t
        → (lookup (bytes_eq url) es ≡ Some t → is_own prefixes url ≡ true → has_key (map of_url (own_of prefixes es)) (of_url url) ≡ true)
        → has_key (map of_url (own_of prefixes (e ∷ es))) (of_url url) ≡ true
    by true same is rest =
        let mine : is_own prefixes e.0 ≡ true = ap (is_own prefixes) (sym ((bytes_eq-Decides url e.0).0 same)) ∙ own in
        ap (λ (b : Bool). has_key (map of_url (cond b (e.0 ∷ own_of prefixes es) (own_of prefixes es))) (of_url url)) mine
        ∙ or_left (bytes_eq url e.0) (has_key (map of_url (own_of prefixes es)) (of_url url)) same
    by false other is rest = more (is_own prefixes e.0) (rest is own)

pub mapped : (xs ys zs : List Text) → map of_url (xs ++ (ys ++ zs)) ≡ map of_url xs ++ map of_url ys ++ map of_url zs
mapped xs ys zs =
    map-append of_url xs (ys ++ zs)
    ∙ ap (λ (ks : List KeyValue). map of_url xs ++ ks) (map-append of_url ys zs)
    ∙ sym (append_assoc (map of_url xs) (map of_url ys) (map of_url zs))

has_first : (xs ys : List KeyValue) (k : KeyValue) → has_key xs k ≡ true → has_key (xs ++ ys) k ≡ true
has_first xs ys k h = list_any-append _ xs ys ∙ or_left (has_key xs k) (has_key ys k) h

has_second : (xs ys : List KeyValue) (k : KeyValue) → has_key ys k ≡ true → has_key (xs ++ ys) k ≡ true
has_second xs ys k h = list_any-append _ xs ys ∙ or_right (has_key xs k) (has_key ys k) h

own_held : (prefixes : List Text) (p : Definitions) (kind : Kind) (url : Text) (t : Tree) → at_url kind url p ≡ Some t → is_own prefixes url ≡ true
    → has_key (map of_url (own_urls prefixes p)) (of_url url) ≡ true
own_held prefixes p kind url t is own =
    ap (λ (ks : List KeyValue). has_key ks (of_url url)) (mapped (own_of prefixes p.structure_definitions) (own_of prefixes p.value_sets) (own_of prefixes p.code_systems))
    ∙ by kind is
  where
    by : (kind : Kind) → at_url kind url p ≡ Some t
        → has_key (map of_url (own_of prefixes p.structure_definitions) ++ map of_url (own_of prefixes p.value_sets) ++ map of_url (own_of prefixes p.code_systems)) (of_url url) ≡ true
    by StructureDefinition is =
        has_first ((map of_url (own_of prefixes p.structure_definitions)) ++ (map of_url (own_of prefixes p.value_sets))) (map of_url (own_of prefixes p.code_systems)) (of_url url)
        (has_first (map of_url (own_of prefixes p.structure_definitions)) (map of_url (own_of prefixes p.value_sets)) (of_url url) (own_found prefixes url t p.structure_definitions is own))
    by ValueSet is =
        has_first ((map of_url (own_of prefixes p.structure_definitions)) ++ (map of_url (own_of prefixes p.value_sets))) (map of_url (own_of prefixes p.code_systems)) (of_url url)
        (has_second (map of_url (own_of prefixes p.structure_definitions)) (map of_url (own_of prefixes p.value_sets)) (of_url url) (own_found prefixes url t p.value_sets is own))
    by CodeSystem is = has_second ((map of_url (own_of prefixes p.structure_definitions)) ++ (map of_url (own_of prefixes p.value_sets))) (map of_url (own_of prefixes p.code_systems)) (of_url url) (own_found prefixes url t p.code_systems is own)

pub own_selected : (prefixes : List Text) (p : Definitions) → IsClosed p (map of_url (own_urls prefixes p)) (has_key (reached p (map of_url (own_urls prefixes p))))
    → (kind : Kind) (url : Text) (t : Tree) → at_url kind url p ≡ Some t → is_own prefixes url ≡ true → is_selected (selection_of prefixes p) p kind url ≡ true
own_selected prefixes p closed kind url t is own =
    let keys = reached p (map of_url (own_urls prefixes p)) in
    ap (λ (o : Option Tree). option_map_or (is_held keys kind url) o false) is
    ∙ or_left (has_key keys (of_url url)) (list_any (has_key keys) (type_code_keys kind t))
    (closed.starts (of_url url) (own_held prefixes p kind url t is own))

-- ---- what is named

type_named : (code url : Text) (t : Tree) (k : KeyValue) (es : ByUrl) → lookup (bytes_eq url) es ≡ Some t → is_type_of code t ≡ true
    → has_key (structure_keys t) k ≡ true → has_key (flat_map structure_keys (types_of code es)) k ≡ true
type_named code url t k [] is type named = cc
type_named code url t k (e ∷ es) is type named = by (bytes_eq url e.0) is (type_named code url t k es)
  where
    more : (b : Bool) → has_key (flat_map structure_keys (types_of code es)) k ≡ true
        → has_key (flat_map structure_keys (map (λ e. e.1) (cond b (e ∷ filter (λ e. is_type_of code e.1) es) (filter (λ e. is_type_of code e.1) es)))) k ≡ true
    more true h = has_second (structure_keys e.1) (flat_map structure_keys (types_of code es)) k h
    more false h = h

    by : (b : Bool) → cond b (Some e.1) (lookup (bytes_eq url) es) ≡ Some t
        → (lookup (bytes_eq url) es ≡ Some t → is_type_of code t ≡ true → has_key (structure_keys t) k ≡ true → has_key (flat_map structure_keys (types_of code es)) k ≡ true)
        → has_key (flat_map structure_keys (types_of code (e ∷ es))) k ≡ true
    by true is rest =
        let same : e.1 ≡ t = cc in
        ap (λ (b : Bool). has_key (flat_map structure_keys (map (λ e. e.1) (cond b (e ∷ filter (λ e. is_type_of code e.1) es) (filter (λ e. is_type_of code e.1) es)))) k)
        (ap (is_type_of code) same ∙ type)
        ∙ has_first (structure_keys e.1) (flat_map structure_keys (types_of code es)) k (ap (λ (u : Tree). has_key (structure_keys u) k) same ∙ named)
    by false is rest = more (is_type_of code e.1) (rest is type named)

module _ (p : Definitions) (start keys : List KeyValue) (closed : IsClosed p start (has_key keys)) where
  by_url : (kind : Kind) (url : Text) (t : Tree) → at_url kind url p ≡ Some t → has_key keys (of_url url) ≡ true
      → (k : KeyValue) → has_key (keys_named kind t) k ≡ true → has_key keys k ≡ true
  by_url StructureDefinition url t is held k named =
      closed.follows (of_url url) held k
      (has_first (option_map_or structure_keys (at_url StructureDefinition url p) []) (option_map_or value_set_keys (at_url ValueSet url p) []) k
      (ap (λ (o : Option Tree). has_key (option_map_or structure_keys o []) k) is ∙ named))
  by_url ValueSet url t is held k named =
      closed.follows (of_url url) held k
      (has_second (option_map_or structure_keys (at_url StructureDefinition url p) []) (option_map_or value_set_keys (at_url ValueSet url p) []) k
      (ap (λ (o : Option Tree). has_key (option_map_or value_set_keys o []) k) is ∙ named))
  by_url CodeSystem url t is held k named = absurd (false≢true named)

  by_type : (url : Text) (t : Tree) → at_url StructureDefinition url p ≡ Some t → list_any (has_key keys) (type_code_keys StructureDefinition t) ≡ true
      → (k : KeyValue) → has_key (structure_keys t) k ≡ true → has_key keys k ≡ true
  by_type url t is held k named = by (is_type_definition t) refl held
    where
      by : (b : Bool) → is_type_definition t ≡ b → list_any (has_key keys) (cond b (of_code (text_at (codes "type") t) ∷ []) []) ≡ true → has_key keys k ≡ true
      by true type held =
          let code_held : has_key keys (of_code (text_at (codes "type") t)) ≡ true = single (has_key keys (of_code (text_at (codes "type") t))) held in
          let is_type : is_type_of (text_at (codes "type") t) t ≡ true =
          ap (λ (b : Bool). b && bytes_eq (text_at (codes "type") t) (text_at (codes "type") t)) type
          ∙ (bytes_eq-Decides (text_at (codes "type") t) (text_at (codes "type") t)).1 refl in
          closed.follows (of_code (text_at (codes "type") t)) code_held k
          (type_named (text_at (codes "type") t) url t k p.structure_definitions is is_type named)
        where
          single : (b : Bool) → (b || false) ≡ true → b ≡ true
          single true h = refl
          single false h = h
      by false other held = absurd (false≢true held)

  by_type_of : (kind : Kind) (url : Text) (t : Tree) → at_url kind url p ≡ Some t → list_any (has_key keys) (type_code_keys kind t) ≡ true
      → (k : KeyValue) → has_key (keys_named kind t) k ≡ true → has_key keys k ≡ true
  by_type_of StructureDefinition url t is held k named = by_type url t is held k named
  by_type_of ValueSet url t is held k named = absurd (false≢true held)
  by_type_of CodeSystem url t is held k named = absurd (false≢true held)

  named_held : (kind : Kind) (url : Text) (t : Tree) → at_url kind url p ≡ Some t → is_held keys kind url t ≡ true
      → (k : KeyValue) → has_key (keys_named kind t) k ≡ true → has_key keys k ≡ true
  named_held kind url t is held k named =
      elim (or_cases (has_key keys (of_url url)) (list_any (has_key keys) (type_code_keys kind t)) held) [
        | inl url_held ↦ by_url kind url t is url_held k named
        | inr type_held ↦ by_type_of kind url t is type_held k named
      ]

  pub named_selected : (kind : Kind) (url : Text) (t : Tree) → at_url kind url p ≡ Some t → is_selected (Some keys) p kind url ≡ true
      → (k : KeyValue) → has_key (keys_named kind t) k ≡ true
      → (kind_named : Kind) (named : Text) (u : Tree) → at_url kind_named named p ≡ Some u → has_key (keys_for kind_named named u) k ≡ true
      → is_selected (Some keys) p kind_named named ≡ true
  named_selected kind url t is selected k named kind_named other u there stands =
      let held : is_held keys kind url t ≡ true = ap (λ (o : Option Tree). option_map_or (is_held keys kind url) o false) (sym is) ∙ selected in
      ap (λ (o : Option Tree). option_map_or (is_held keys kind_named other) o false) there
      ∙ holds_one (has_key keys) (keys_for kind_named other u) k stands (named_held kind url t is held k named)
