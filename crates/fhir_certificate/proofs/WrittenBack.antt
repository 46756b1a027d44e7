-- What is written for a certificate is read as that certificate.
use Rattle.std.proofs.Common.{◌≡◌, ◌≤◌, ◌+◌, ◌&&◌, Bool, true, false, List, [], ◌∷◌, ◌++◌, length, map, Option, Some, None}
use Rattle.std.proofs.Common.{is_some, Ok, Err, if◌then◌else◌, refl, ap, ◌∙◌, arith, length-append, All}
use Rattle.std.specs.Prelude.{IsTrue}
use Rattle.std.specs.Option.{option_map_or, option_and_then}
use Rattle.std.specs.List.{list_all, flat_map}
use Rattle.std.proofs.lemmas.Bool.{and_parts, cond-true}
use Rattle.std.proofs.lemmas.List.{length-map}
use Rattle.std.proofs.lemmas.List.Folds.{list_all-append, list_all-map}
use Rattle.std.proofs.lemmas.List.Elements.{All-head, All-tail}
use Rattle.fhir_json.specs.Sound.{is_among}
use Rattle.fhir_json.specs.Tree.{Text}
use Rattle.fhir_nodes.specs.Urls.{url_place}
use Rattle.fhir_nodes.specs.declared.node.NodeRef.{NodeRef}
use Rattle.fhir_schema.specs.Schemas.{SchemaValue, is_usable, root_in, root, node_with, node}
use Rattle.fhir_schema.specs.Versions.{can_be_used, version}
use Rattle.fhir_certificate.specs.declared.fault.CertFault.TheVariants.{UnknownNode}
use Rattle.fhir_certificate.specs.declared.pair.NodePair.{NodePair}
use Rattle.fhir_certificate.specs.Certificate.{CertificateValue, are_nodes, fits}
use Rattle.fhir_certificate.specs.Versions.{version_text}
use Rattle.fhir_certificate.specs.Format.{Line, text_of, Spells}
use Rattle.fhir_certificate.specs.Judging.{limit, pair_of, with_item, with_kids, with_lines, are_loaded, are_usable, certificate_of, has_version, within, Stands}
use Rattle.fhir_certificate.specs.Reading.{reading}
use Rattle.fhir_certificate.specs.Writing.{named, item_line, kids_line, pair_urls, urls_named, with_text, with_texts, firsts, stated, written_by, IsNamed, AreNamed, IsWritable}
use Rattle.fhir_certificate.proofs.Naming.{text_same}
use Rattle.fhir_certificate.proofs.Judging.{answer_within, reading_spelled}

-- ---- the lines say the pairs

module _ (s : SchemaValue) where
  pair_named : (p : NodePair) → IsNamed s p → pair_of s (named s p.derived) (named s p.base) ≡ Some p
  pair_named p h = rw (h.0, h.1) refl

  kids_back : (ps : List NodePair) (c : CertificateValue) → All (IsNamed s) ps
      → with_lines s (map (kids_line s) ps) c ≡ Some (record { derived = c.derived; base = c.base; items = c.items; kids = ps ++ c.kids })
  kids_back [] c h = refl
  kids_back (p ∷ ps) c h =
      ap (option_and_then (with_kids (pair_of s (named s p.derived) (named s p.base)))) (kids_back ps c (All-tail (IsNamed s) p ps h))
      ∙ ap (λ o. with_kids o (record { derived = c.derived; base = c.base; items = c.items; kids = ps ++ c.kids }))
      (pair_named p (All-head (IsNamed s) p ps h))

  items_back : (ps : List NodePair) (lines : List Line) (c d : CertificateValue) → All (IsNamed s) ps → with_lines s lines c ≡ Some d
      → with_lines s (map (item_line s) ps ++ lines) c ≡ Some (record { derived = d.derived; base = d.base; items = ps ++ d.items; kids = d.kids })
  items_back [] lines c d h e = e
  items_back (p ∷ ps) lines c d h e =
      ap (option_and_then (with_item (pair_of s (named s p.derived) (named s p.base)))) (items_back ps lines c d (All-tail (IsNamed s) p ps h) e)
      ∙ ap (λ o. with_item o (record { derived = d.derived; base = d.base; items = ps ++ d.items; kids = d.kids }))
      (pair_named p (All-head (IsNamed s) p ps h))

-- ---- each text where it first stands

pub all_texts : (p : Text → Bool) (us ys : List Text) → list_all p us ≡ true → list_all p ys ≡ true → list_all p (with_texts us ys) ≡ true
all_texts p us [] old new = old
all_texts p us (y ∷ ys) old new =
    let parts = and_parts (p y) (list_all p ys) new in
    all_texts p (with_text us y) ys (one (is_among y us) parts.0) parts.1
  where
    one : (b : Bool) → p y ≡ true → list_all p (if b then us else us ++ y ∷ []) ≡ true
    one true is = old
    one false is = list_all-append p us (y ∷ []) ∙ rw (old, is) refl

-- ---- the definitions that are named can be used

-- the definition at the place that was found
usable_in : {A B : Type 0} (test : A → Bool) (find : A → Option B) → ((a : A) → is_some (find a) ≡ true → test a ≡ true) → (o : Option A)
    → is_some (option_and_then find o) ≡ true → option_map_or test o false ≡ true
usable_in test find h None e = e
usable_in test find h (Some a) e = h a e

usable_if : {B : Type 0} (b : Bool) (o : Option B) → is_some (if b then o else None) ≡ true → b ≡ true
usable_if true o e = refl
usable_if false o e = e

pub root_used : (s : SchemaValue) (url : Text) → is_some (root s url) ≡ true → can_be_used s url ≡ true
root_used s url e =
    usable_in (is_usable s) (root_in s) (λ place is. usable_if (is_usable s place) _ is) (url_place s.definitions url) e

some_is : {A : Type 0} (o : Option A) (x : A) → o ≡ Some x → is_some o ≡ true
some_is o x e = ap is_some e

pub node_used : (s : SchemaValue) (url id : Text) (n : NodeRef) → node s url id ≡ Some n → can_be_used s url ≡ true
node_used s url id n e =
    usable_in (is_usable s) (node_with s id) (λ place is. usable_if (is_usable s place) _ is) (url_place s.definitions url) (some_is _ n e)

module _ (s : SchemaValue) where
  pairs_used : (ps : List NodePair) → All (IsNamed s) ps → list_all (can_be_used s) (flat_map (pair_urls s) ps) ≡ true
  pairs_used [] h = refl
  pairs_used (p ∷ ps) h =
      let own = All-head (IsNamed s) p ps h in
      let derived = node_used s (named s p.derived).url (named s p.derived).id p.derived own.0 in
      let base = node_used s (named s p.base).url (named s p.base).id p.base own.1 in
      rw (derived, base, pairs_used ps (All-tail (IsNamed s) p ps h)) refl

  pub named_used : (c : CertificateValue) → is_some (root s c.derived) ≡ true → is_some (root s c.base) ≡ true → AreNamed s c
      → list_all (can_be_used s) (urls_named s c) ≡ true
  named_used c derived base h =
      let pairs = list_all-append (can_be_used s) (flat_map (pair_urls s) c.items) (flat_map (pair_urls s) c.kids)
      ∙ rw (pairs_used c.items h.0, pairs_used c.kids h.1) refl in
      rw (root_used s c.derived derived, root_used s c.base base, pairs) refl

  loaded_back : (c : CertificateValue) → is_some (root s c.derived) ≡ true → is_some (root s c.base) ≡ true → AreNamed s c
      → are_loaded s (written_by s c).definitions ≡ true
  loaded_back c derived base h =
      list_all-map (λ d. can_be_used s d.url) (stated s) (firsts (urls_named s c))
      ∙ all_texts (can_be_used s) [] (urls_named s c) refl (named_used c derived base h)

  own_versions : (us : List Text) → list_all (has_version s) (map (stated s) us) ≡ true
  own_versions [] = refl
  own_versions (u ∷ us) = rw (text_same (version_text (version s u)), own_versions us) refl

-- ---- the whole certificate

fit_roots : (a b x y : Bool) → (a && b && x && y) ≡ true → (a ≡ true) × (b ≡ true)
fit_roots true true x y e = (refl, refl)
fit_roots true false x y e = cc
fit_roots false b x y e = cc

no_more : (ps : List NodePair) → ps ++ [] ≡ ps
no_more [] = refl
no_more (p ∷ ps) = ap (λ ps. p ∷ ps) (no_more ps)

module _ (s : SchemaValue) (c : CertificateValue) where
  abbrev pub bare : CertificateValue
  bare = record { derived = c.derived; base = c.base; items = []; kids = [] }

  lines_back : AreNamed s c → with_lines s (written_by s c).lines bare ≡ Some c
  lines_back h =
      items_back s c.items (map (kids_line s) c.kids) bare _ h.0 (kids_back s c.kids bare h.1)
      ∙ ap (λ ps. Some (record { derived = c.derived; base = c.base; items = ps; kids = c.kids ++ [] })) (no_more c.items)
      ∙ ap (λ ps. Some (record { derived = c.derived; base = c.base; items = c.items; kids = ps })) (no_more c.kids)

  usable_back : IsTrue (fits s c) → AreNamed s c → are_usable s (written_by s c) ≡ true
  usable_back is h =
      let roots = fit_roots (is_some (root s c.derived)) (is_some (root s c.base)) (list_all (are_nodes s) c.items) (list_all (are_nodes s) c.kids) is in
      rw (roots.0, roots.1, loaded_back s c roots.0 roots.1 h) refl

  certificate_back : IsTrue (fits s c) → AreNamed s c → certificate_of s (written_by s c) ≡ Some c
  certificate_back is h = cond-true _ _ _ (usable_back is h) ∙ lines_back h

  count_back : length (written_by s c).lines ≡ length c.items + length c.kids
  count_back =
      let all = length-append (map (item_line s) c.items) (map (kids_line s) c.kids) in
      let items = length-map c.items (item_line s) in
      let kids = length-map c.kids (kids_line s) in
      omega arith

  spells_back : IsWritable (written_by s c) → Spells (text_of (written_by s c)) (written_by s c)
  spells_back h = record { utf8 = h.utf8; text = refl; definitions = h.definitions; derived = h.derived; base = h.base; lines = h.lines }

  pub stands_back : IsTrue (fits s c) → AreNamed s c → IsWritable (written_by s c) → length c.items + length c.kids ≤ limit
      → Stands s (text_of (written_by s c)) c
  stands_back is h w le =
      (written_by s c, spells_back w, certificate_back is h, let count = count_back in omega arith, own_versions s (firsts (urls_named s c)))

  pub reads_back : IsTrue (fits s c) → AreNamed s c → IsWritable (written_by s c) → length c.items + length c.kids ≤ limit
      → reading s (text_of (written_by s c)) ≡ Ok c
  reads_back is h w le =
      let few : length (written_by s c).lines ≤ limit = let count = count_back in omega arith in
      reading_spelled s (text_of (written_by s c)) (written_by s c) (spells_back w)
      ∙ ap (λ o. option_map_or (within s (written_by s c)) o (Err UnknownNode)) (certificate_back is h)
      ∙ answer_within s (written_by s c) c few (own_versions s (firsts (urls_named s c)))
