-- What is written for a certificate is UTF-8, where its urls and the names of all nodes are.
use Rattle.std.proofs.Common.{◌≡◌, ℕ, ◌+◌, ◌<◌, nat_lt, true, List, [], ◌∷◌, ◌++◌, map, Some, refl, sym, subst, arith, lit<}
use Rattle.std.specs.Prelude.{codes, IsUtf8}
use Rattle.std.specs.List.{list_all, flat_map, AllByRecursion}
use Rattle.std.proofs.lemmas.Bool.{and_parts}
use Rattle.std.proofs.lemmas.Bool.Decides.{nat_tests}
use Rattle.std.proofs.lemmas.Grind.{flat_map-append}
use Rattle.std.proofs.lemmas.Str.{IsUtf8-nil, IsUtf8-append, IsUtf8-from_ascii}
use Rattle.std.proofs.lemmas.Str.Ascii.{IsAscii-nil, IsAscii-cons}
use Rattle.fhir_json.specs.Tree.{Text}
use Rattle.fhir_nodes.specs.declared.node.NodeRef.{NodeRef}
use Rattle.fhir_schema.specs.Schemas.{SchemaValue, id_of_node}
use Rattle.fhir_certificate.specs.declared.pair.NodePair.{NodePair}
use Rattle.fhir_certificate.specs.Certificate.{CertificateValue}
use Rattle.fhir_certificate.specs.Numbers.{number_text, url_text}
use Rattle.fhir_certificate.specs.Format.{Stated, urls_of, line_text, pair_text, definitions_text, front_text, text_of}
use Rattle.fhir_certificate.specs.Writing.{named, item_line, kids_line, urls_named, firsts, stated, written_by}
use Rattle.fhir_certificate.proofs.Numbered.{number_utf8}
use Rattle.fhir_certificate.proofs.Naming.{text_utf8}

-- ---- lines

ascii_then : (c : ℕ) (bs : Text) → c < 128 → IsUtf8 bs → IsUtf8 (c ∷ bs)
ascii_then c bs small u = IsUtf8-append (c ∷ []) bs (IsUtf8-from_ascii (c ∷ []) (IsAscii-cons c [] small IsAscii-nil)) u

small : (b : ℕ) → nat_lt b 128 ≡ true → b < 128
small b e = grind (arith, nat_tests)

word_utf8 : (word : Text) → list_all (λ b. nat_lt b 128) word ≡ true → IsUtf8 word
word_utf8 [] e = IsUtf8-nil
word_utf8 (b ∷ bs) e =
    let parts = and_parts (nat_lt b 128) (list_all (λ b. nat_lt b 128) bs) e in
    ascii_then b bs (small b parts.0) (word_utf8 bs parts.1)

fields_utf8 : (fields : List Text) → AllByRecursion IsUtf8 fields → IsUtf8 (flat_map (λ field. 9 ∷ field) fields)
fields_utf8 [] h = IsUtf8-nil
fields_utf8 (f ∷ fs) h =
    IsUtf8-append (9 ∷ f) (flat_map (λ field. 9 ∷ field) fs) (ascii_then 9 f (lit< tt) h.0) (fields_utf8 fs h.1)

line_utf8 : (word : Text) (fields : List Text) → list_all (λ b. nat_lt b 128) word ≡ true → AllByRecursion IsUtf8 fields → IsUtf8 (line_text word fields)
line_utf8 word fields e h =
    IsUtf8-append (word ++ flat_map (λ field. 9 ∷ field) fields) (10 ∷ [])
    (IsUtf8-append word (flat_map (λ field. 9 ∷ field) fields) (word_utf8 word e) (fields_utf8 fields h)) (word_utf8 (10 ∷ []) refl)

-- ---- definitions

stated_utf8 : (n : ℕ) (ds : List Stated) → AllByRecursion (λ d. IsUtf8 d.url × IsUtf8 d.version) ds → IsUtf8 (definitions_text n ds)
stated_utf8 n [] h = IsUtf8-nil
stated_utf8 n (d ∷ ds) h =
    IsUtf8-append (line_text (codes "def") (number_text n ∷ d.url ∷ d.version ∷ [])) (definitions_text (n + 1) ds)
    (line_utf8 (codes "def") (number_text n ∷ d.url ∷ d.version ∷ []) refl (number_utf8 n, (h.0.0, (h.0.1, tt)))) (stated_utf8 (n + 1) ds h.1)

front_utf8 : (ds : List Stated) → AllByRecursion (λ d. IsUtf8 d.url × IsUtf8 d.version) ds → IsUtf8 (front_text (Some ds))
front_utf8 ds h = IsUtf8-append (line_text (codes "fhirprof-certificate 2") []) (definitions_text 0 ds) (line_utf8 (codes "fhirprof-certificate 2") [] refl tt) (stated_utf8 0 ds h)

-- ---- the whole text

module _ (s : SchemaValue) (id : (n : NodeRef) → IsUtf8 (id_of_node s n)) (urls : List Text) where
  abbrev fields_of : NodePair → List Text
  fields_of p = url_text (Some urls) (named s p.derived).url ∷ (named s p.derived).id ∷ url_text (Some urls) (named s p.base).url ∷ (named s p.base).id ∷ []

  fields_are : (p : NodePair) → AllByRecursion IsUtf8 (fields_of p)
  fields_are p = (text_utf8 urls (named s p.derived).url, (id p.derived, (text_utf8 urls (named s p.base).url, (id p.base, tt))))

  items_utf8 : (ps : List NodePair) → IsUtf8 (flat_map (pair_text (Some urls)) (map (item_line s) ps))
  items_utf8 [] = IsUtf8-nil
  items_utf8 (p ∷ ps) =
      IsUtf8-append (pair_text (Some urls) (item_line s p)) (flat_map (pair_text (Some urls)) (map (item_line s) ps))
      (line_utf8 (codes "item") (fields_of p) refl (fields_are p)) (items_utf8 ps)

  kids_utf8 : (ps : List NodePair) → IsUtf8 (flat_map (pair_text (Some urls)) (map (kids_line s) ps))
  kids_utf8 [] = IsUtf8-nil
  kids_utf8 (p ∷ ps) =
      IsUtf8-append (pair_text (Some urls) (kids_line s p)) (flat_map (pair_text (Some urls)) (map (kids_line s) ps))
      (line_utf8 (codes "kids") (fields_of p) refl (fields_are p)) (kids_utf8 ps)

  pub pairs_utf8 : (items kids : List NodePair) → IsUtf8 (flat_map (pair_text (Some urls)) (map (item_line s) items ++ map (kids_line s) kids))
  pairs_utf8 items kids =
      subst IsUtf8 (sym (flat_map-append (pair_text (Some urls)) (map (item_line s) items) (map (kids_line s) kids)))
      (IsUtf8-append (flat_map (pair_text (Some urls)) (map (item_line s) items)) (flat_map (pair_text (Some urls)) (map (kids_line s) kids))
      (items_utf8 items) (kids_utf8 kids))

pub written_utf8 : (s : SchemaValue) → ((n : NodeRef) → IsUtf8 (id_of_node s n)) → (c : CertificateValue)
    → AllByRecursion (λ d. IsUtf8 d.url × IsUtf8 d.version) (map (stated s) (firsts (urls_named s c))) → IsUtf8 (text_of (written_by s c))
written_utf8 s id c stated_are =
    let ds = map (stated s) (firsts (urls_named s c)) in
    let urls = urls_of ds in
    let second = line_utf8 (codes "derived") (url_text (Some urls) c.derived ∷ []) refl (text_utf8 urls c.derived, tt) in
    let third = line_utf8 (codes "base") (url_text (Some urls) c.base ∷ []) refl (text_utf8 urls c.base, tt) in
    let last = line_utf8 (codes "end") [] refl tt in
    IsUtf8-append _ _ (IsUtf8-append _ _ (IsUtf8-append _ _ (IsUtf8-append _ _ (front_utf8 ds stated_are) second) third)
    (pairs_utf8 s id urls c.items c.kids)) last
