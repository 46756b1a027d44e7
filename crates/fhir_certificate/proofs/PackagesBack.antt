-- In the schema of a package what is written for a certificate that fits is read as it.
use Rattle.std.proofs.Common.{◌≡◌, ℕ, ◌==◌, ◌&&◌, ◌||◌, not, nat_le, Bool, true, false, List, [], ◌∷◌, ◌++◌, map, Some, is_some, if◌then◌else◌, inl, inr, refl, ap, ◌∙◌, arith, All}
use Rattle.std.specs.Prelude.{IsTrue, IsUtf8}
use Rattle.std.specs.List.{list_all, flat_map, AllByRecursion}
use Rattle.std.specs.Str.{bytes_eq}
use Rattle.std.proofs.lemmas.Bool.{and_parts, and_from, cases_Bool, cond-true, cond-false}
use Rattle.std.proofs.lemmas.Bool.Decides.{nat_tests}
use Rattle.std.proofs.lemmas.List.Folds.{list_all-append, list_all-map}
use Rattle.std.proofs.lemmas.List.Sums.{AllPass-from_list_all}
use Rattle.std.proofs.lemmas.Slice.Eq.{bytes_eq-Decides}
use Rattle.fhir_json.specs.Tree.{Text}
use Rattle.fhir_json.specs.Bytes.{is_blank, is_empty}
use Rattle.fhir_json.specs.Sound.{is_among, differ}
use Rattle.fhir_json.proofs.Names.{among_append, differ-push}
use Rattle.fhir_names.specs.Texts.{is_plain}
use Rattle.fhir_prims.specs.Texts.{is_uri}
use Rattle.fhir_nodes.specs.declared.node.NodeRef.{NodeRef}
use Rattle.fhir_schema.specs.Schemas.{SchemaValue, has, root, node, url_at, id_of_node}
use Rattle.fhir_schema.specs.Versions.{version}
use Rattle.fhir_certificate.specs.declared.pair.NodePair.{NodePair}
use Rattle.fhir_certificate.specs.Certificate.{CertificateValue, are_nodes, fits}
use Rattle.fhir_certificate.specs.Format.{urls_of, is_field, is_name, is_line, is_stated}
use Rattle.fhir_certificate.specs.Writing.{named, item_line, kids_line, pair_urls, urls_named, with_text, with_texts, firsts, stated, written_by, IsNamed, AreNamed, IsWritable}
use Rattle.fhir_certificate.proofs.Naming.{text_same}
use Rattle.fhir_certificate.proofs.VersionTexts.{IsJson, version_field, version_utf8, version_is}
use Rattle.fhir_certificate.proofs.Utf8Written.{written_utf8}

-- ---- uris and plain texts are fields

list_weaker : {X : Type 0} (p q : X → Bool) → ((x : X) → p x ≡ true → q x ≡ true) → (xs : List X) → list_all p xs ≡ true → list_all q xs ≡ true
list_weaker p q h [] e = refl
list_weaker p q h (x ∷ xs) e =
    let parts = and_parts (p x) (list_all p xs) e in
    rw (h x parts.0, list_weaker p q h xs parts.1) refl

middle : (a b c d : Bool) → not (a || b || c || d) ≡ true → (not b && not c) ≡ true
middle false false false d e = refl
middle false false true d e = cc
middle false true c d e = cc
middle true b c d e = cc

pub uri_field : (text : Text) → is_uri text ≡ true → is_field text ≡ true
uri_field text e =
    list_weaker (λ b. not (is_blank b)) (λ b. not (b == 9) && not (b == 10)) (λ b. middle (b == 32) (b == 9) (b == 10) (b == 13)) text
    (and_parts (not (is_empty text)) (list_all (λ b. not (is_blank b)) text) e).1

plain_byte : (b : ℕ) → nat_le 32 b ≡ true → (not (b == 9) && not (b == 10)) ≡ true
plain_byte b e = grind (arith, nat_tests)

pub plain_field : (text : Text) → is_plain text ≡ true → is_field text ≡ true
plain_field text e = list_weaker (nat_le 32) (λ b. not (b == 9) && not (b == 10)) plain_byte text e

-- ---- each text where it first stands

all_append : (P : Text → Type 0) (xs ys : List Text) → AllByRecursion P xs → AllByRecursion P ys → AllByRecursion P (xs ++ ys)
all_append P [] ys h k = k
all_append P (x ∷ xs) ys h k = (h.0, all_append P xs ys h.1 k)

all_with : (P : Text → Type 0) (b : Bool) (xs : List Text) (y : Text) → AllByRecursion P xs → P y → AllByRecursion P (if b then xs else xs ++ y ∷ [])
all_with P true xs y h p = h
all_with P false xs y h p = all_append P xs (y ∷ []) h (p, tt)

all_texts : (P : Text → Type 0) (xs ys : List Text) → AllByRecursion P xs → AllByRecursion P ys → AllByRecursion P (with_texts xs ys)
all_texts P xs [] h k = h
all_texts P xs (y ∷ ys) h k = all_texts P (with_text xs y) ys (all_with P (is_among y xs) xs y h k.0) k.1

all_firsts : (P : Text → Type 0) (xs : List Text) → AllByRecursion P xs → AllByRecursion P (firsts xs)
all_firsts P xs h = all_texts P [] xs tt h

or_left : (a b : Bool) → a ≡ true → (a || b) ≡ true
or_left true b e = refl
or_left false b e = cc

or_back : (a b : Bool) → b ≡ true → (a || b) ≡ true
or_back true b e = refl
or_back false b e = e

among_behind : (x y : Text) (ys : List Text) → is_among x ys ≡ true → is_among x (y ∷ ys) ≡ true
among_behind x y ys is = or_back (bytes_eq x y) (is_among x ys) is

among_front : (x : Text) (xs ys : List Text) → is_among x xs ≡ true → is_among x (xs ++ ys) ≡ true
among_front x xs ys is = among_append x xs ys ∙ or_left (is_among x xs) (is_among x ys) is

among_back : (x : Text) (xs ys : List Text) → is_among x ys ≡ true → is_among x (xs ++ ys) ≡ true
among_back x xs ys is = among_append x xs ys ∙ or_back (is_among x xs) (is_among x ys) is

kept_with : (b : Bool) (x y : Text) (xs : List Text) → is_among x xs ≡ true → is_among x (if b then xs else xs ++ y ∷ []) ≡ true
kept_with true x y xs is = is
kept_with false x y xs is = among_front x xs (y ∷ []) is

kept_texts : (x : Text) (xs ys : List Text) → is_among x xs ≡ true → is_among x (with_texts xs ys) ≡ true
kept_texts x xs [] is = is
kept_texts x xs (y ∷ ys) is = kept_texts x (with_text xs y) ys (kept_with (is_among y xs) x y xs is)

-- a text that is put in is there
put_with : (y : Text) (xs : List Text) → is_among y (with_text xs y) ≡ true
put_with y xs =
    elim (cases_Bool (is_among y xs)) [
      | inl there ↦ ap (is_among y) (cond-true _ _ _ there) ∙ there
      | inr new ↦ ap (is_among y) (cond-false _ _ _ new) ∙ among_back y xs (y ∷ []) (rw (text_same y) refl)
    ]

among_texts : (x : Text) (xs ys : List Text) → is_among x ys ≡ true → is_among x (with_texts xs ys) ≡ true
among_texts x xs [] is = cc
among_texts x xs (y ∷ ys) is =
    elim (cases_Bool (bytes_eq x y)) [
      | inl same ↦
          let e : x ≡ y = (bytes_eq-Decides x y).0 same in
          kept_texts x (with_text xs y) ys (ap (λ t. is_among t (with_text xs y)) e ∙ put_with y xs)
      | inr other ↦ among_texts x (with_text xs y) ys (rw other at is)
    ]

among_firsts : (x : Text) (xs : List Text) → is_among x xs ≡ true → is_among x (firsts xs) ≡ true
among_firsts x xs is = among_texts x [] xs is

differ_with : (xs : List Text) (y : Text) → differ xs ≡ true → differ (with_text xs y) ≡ true
differ_with xs y apart =
    elim (cases_Bool (is_among y xs)) [
      | inl there ↦ ap differ (cond-true _ _ _ there) ∙ apart
      | inr new ↦ ap differ (cond-false _ _ _ new) ∙ differ-push xs y apart new
    ]

differ_texts : (xs ys : List Text) → differ xs ≡ true → differ (with_texts xs ys) ≡ true
differ_texts xs [] apart = apart
differ_texts xs (y ∷ ys) apart = differ_texts (with_text xs y) ys (differ_with xs y apart)

differ_firsts : (xs : List Text) → differ (firsts xs) ≡ true
differ_firsts xs = differ_texts [] xs refl

pub urls_stated : (s : SchemaValue) (us : List Text) → urls_of (map (stated s) us) ≡ us
urls_stated s [] = refl
urls_stated s (u ∷ us) = ap (λ l. u ∷ l) (urls_stated s us)

-- ---- certificates that fit

four_parts : (a b c d : Bool) → (a && b && c && d) ≡ true → (a ≡ true) × (b ≡ true) × (c ≡ true) × (d ≡ true)
four_parts true true true true e = (refl, refl, refl, refl)
four_parts true true true false e = cc
four_parts true true false d e = cc
four_parts true false c d e = cc
four_parts false b c d e = cc

-- each node is found by its name, and the names and versions can be written
pub record IsNaming (s : SchemaValue) : Type 0 where
  pub found : (n : NodeRef) → IsTrue (has s n) → node s (url_at s n.definition) (id_of_node s n) ≡ Some n
  pub url : (n : NodeRef) → IsTrue (has s n) → IsTrue (is_uri (url_at s n.definition))
  pub id : (n : NodeRef) → IsTrue (has s n) → IsTrue (is_plain (id_of_node s n))
  pub root_uri : (url : Text) → IsTrue (is_some (root s url)) → IsTrue (is_uri url)
  pub url_utf8 : (place : ℕ) → IsUtf8 (url_at s place)
  pub id_utf8 : (n : NodeRef) → IsUtf8 (id_of_node s n)
  pub root_utf8 : (url : Text) → IsTrue (is_some (root s url)) → IsUtf8 url
  pub version_utf8 : (url text : Text) → version s url ≡ Some text → IsUtf8 text
  pub json : IsJson

-- a url can be written, and is UTF-8
abbrev pub IsUrl : Text → Type 0
IsUrl url = (is_field url ≡ true) × IsUtf8 url

module _ (s : SchemaValue) (h : IsNaming s) where
  pair_named : (p : NodePair) → are_nodes s p ≡ true → IsNamed s p
  pair_named p is = let parts = and_parts (has s p.derived) (has s p.base) is in (h.found p.derived parts.0, h.found p.base parts.1)

  pairs_named : (ps : List NodePair) → list_all (are_nodes s) ps ≡ true → All (IsNamed s) ps
  pairs_named ps is = let all = AllPass-from_list_all (are_nodes s) ps is in λ k d lt. pair_named _ (all k d lt)

  -- ---- the urls that are named

  node_url : (n : NodeRef) → has s n ≡ true → IsUrl (url_at s n.definition)
  node_url n is = (uri_field (url_at s n.definition) (h.url n is), h.url_utf8 n.definition)

  root_url : (url : Text) → is_some (root s url) ≡ true → IsUrl url
  root_url url is = (uri_field url (h.root_uri url is), h.root_utf8 url is)

  pairs_urls : (ps : List NodePair) → list_all (are_nodes s) ps ≡ true → AllByRecursion IsUrl (flat_map (pair_urls s) ps)
  pairs_urls [] is = tt
  pairs_urls (p ∷ ps) is =
      let parts = and_parts (are_nodes s p) (list_all (are_nodes s) ps) is in
      let nodes = and_parts (has s p.derived) (has s p.base) parts.0 in
      (node_url p.derived nodes.0, (node_url p.base nodes.1, pairs_urls ps parts.1))

  stated_is : (url : Text) → IsUrl url → is_stated (stated s url) ≡ true
  stated_is url is =
      rw (is.0, version_field (version s url), version_is h.json (version s url) (λ text e. h.version_utf8 url text e)) refl

  stated_are : (us : List Text) → AllByRecursion IsUrl us → list_all is_stated (map (stated s) us) ≡ true
  stated_are [] all = refl
  stated_are (u ∷ us) all = rw (stated_is u all.0, stated_are us all.1) refl

  stated_texts : (us : List Text) → AllByRecursion IsUrl us → AllByRecursion (λ d. IsUtf8 d.url × IsUtf8 d.version) (map (stated s) us)
  stated_texts [] all = tt
  stated_texts (u ∷ us) all = ((all.0.1, version_utf8 (version s u) (λ text e. h.version_utf8 u text e)), stated_texts us all.1)

  -- ---- the certificate

  module _ (c : CertificateValue) (fit : IsTrue (fits s c)) where
    parts : (is_some (root s c.derived) ≡ true) × (is_some (root s c.base) ≡ true) × (list_all (are_nodes s) c.items ≡ true)
        × (list_all (are_nodes s) c.kids ≡ true)
    parts = four_parts (is_some (root s c.derived)) (is_some (root s c.base)) (list_all (are_nodes s) c.items) (list_all (are_nodes s) c.kids) fit

    pub nodes_named : AreNamed s c
    nodes_named = (pairs_named c.items parts.2, pairs_named c.kids parts.3)

    urls_are : AllByRecursion IsUrl (firsts (urls_named s c))
    urls_are =
        all_firsts IsUrl (urls_named s c) (
          root_url c.derived parts.0,
          (
            root_url c.base parts.1,
            all_append IsUrl (flat_map (pair_urls s) c.items) (flat_map (pair_urls s) c.kids)
                (pairs_urls c.items parts.2) (pairs_urls c.kids parts.3),
          ),
        )

    -- each url that is named has a line
    is_there : (url : Text) → is_among url (urls_named s c) ≡ true → is_among url (urls_of (map (stated s) (firsts (urls_named s c)))) ≡ true
    is_there url is = ap (is_among url) (urls_stated s (firsts (urls_named s c))) ∙ among_firsts url (urls_named s c) is

    derived_there : is_among c.derived (urls_named s c) ≡ true
    derived_there = rw (text_same c.derived) refl

    base_there : is_among c.base (urls_named s c) ≡ true
    base_there =
        let rest = flat_map (pair_urls s) c.items ++ flat_map (pair_urls s) c.kids in
        among_behind c.base c.derived (c.base ∷ rest) (rw (text_same c.base) refl)

    pair_there : (ps : List NodePair) → ((url : Text) → is_among url (flat_map (pair_urls s) ps) ≡ true → is_among url (urls_named s c) ≡ true)
        → list_all (are_nodes s) ps ≡ true
        → list_all (λ p. is_name (Some (urls_of (map (stated s) (firsts (urls_named s c))))) (named s p.derived)
        && is_name (Some (urls_of (map (stated s) (firsts (urls_named s c))))) (named s p.base)) ps ≡ true
    pair_there [] there is = refl
    pair_there (p ∷ ps) there is =
        let both = and_parts (are_nodes s p) (list_all (are_nodes s) ps) is in
        let nodes = and_parts (has s p.derived) (has s p.base) both.0 in
        let own : Text = url_at s p.derived.definition in
        let other = url_at s p.base.definition in
        let d = is_there own (there own (rw (text_same own) refl)) in
        let b = is_there other (there other (among_behind other own (other ∷ flat_map (pair_urls s) ps) (rw (text_same other) refl))) in
        let rest = pair_there ps (λ url is. there url (among_behind url own (other ∷ flat_map (pair_urls s) ps) (among_behind url other (flat_map (pair_urls s) ps) is))) both.1 in
        rw (d, plain_field (id_of_node s p.derived) (h.id p.derived nodes.0), b, plain_field (id_of_node s p.base) (h.id p.base nodes.1), rest) refl

    items_there : (url : Text) → is_among url (flat_map (pair_urls s) c.items) ≡ true → is_among url (urls_named s c) ≡ true
    items_there url is =
        let rest = flat_map (pair_urls s) c.items ++ flat_map (pair_urls s) c.kids in
        among_behind url c.derived (c.base ∷ rest) (among_behind url c.base rest (among_front url (flat_map (pair_urls s) c.items) (flat_map (pair_urls s) c.kids) is))

    kids_there : (url : Text) → is_among url (flat_map (pair_urls s) c.kids) ≡ true → is_among url (urls_named s c) ≡ true
    kids_there url is =
        let rest = flat_map (pair_urls s) c.items ++ flat_map (pair_urls s) c.kids in
        among_behind url c.derived (c.base ∷ rest) (among_behind url c.base rest (among_back url (flat_map (pair_urls s) c.items) (flat_map (pair_urls s) c.kids) is))

    pub is_writable : IsWritable (written_by s c)
    is_writable = record {
      utf8 = written_utf8 s h.id_utf8 c (stated_texts (firsts (urls_named s c)) urls_are);
      definitions = and_from _ _ (stated_are (firsts (urls_named s c)) urls_are)
          (ap differ (urls_stated s (firsts (urls_named s c))) ∙ differ_firsts (urls_named s c));
      derived = is_there c.derived derived_there;
      base = is_there c.base base_there;
      lines = list_all-append (is_line (Some (urls_of (map (stated s) (firsts (urls_named s c)))))) (map (item_line s) c.items) (map (kids_line s) c.kids)
          ∙ rw (
            list_all-map (is_line (Some (urls_of (map (stated s) (firsts (urls_named s c)))))) (item_line s) c.items,
            list_all-map (is_line (Some (urls_of (map (stated s) (firsts (urls_named s c)))))) (kids_line s) c.kids,
          )
          (rw (pair_there c.items items_there parts.2, pair_there c.kids kids_there parts.3) refl);
    }
