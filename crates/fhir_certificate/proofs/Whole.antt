-- What is written one part after the other is the text of a certificate.
use Rattle.std.proofs.Common.{◌≡◌, List, [], ◌∷◌, ◌++◌, map, Some, sym, ap, ◌∙◌, append_assoc}
use Rattle.std.specs.Prelude.{codes}
use Rattle.std.specs.List.{flat_map}
use Rattle.std.proofs.lemmas.Grind.{flat_map-append}
use Rattle.fhir_json.specs.Tree.{Text}
use Rattle.fhir_schema.specs.Schemas.{SchemaValue}
use Rattle.fhir_certificate.specs.declared.pair.NodePair.{NodePair}
use Rattle.fhir_certificate.specs.Certificate.{CertificateValue}
use Rattle.fhir_certificate.specs.Numbers.{url_text}
use Rattle.fhir_certificate.specs.Format.{line_text, pair_text, definitions_text, text_of}
use Rattle.fhir_certificate.specs.Writing.{item_line, kids_line, urls_named, firsts, stated, written_by}
use Rattle.fhir_certificate.proofs.PackagesBack.{urls_stated}

-- what is written for these urls, their numbers, the two profiles and the pairs
abbrev pub all_parts : SchemaValue → List Text → List Text → Text → Text → List NodePair → List NodePair → Text
all_parts s us numbers derived base items kids =
    codes "fhirprof-certificate 2\n" ++ definitions_text 0 (map (stated s) us)
    ++ line_text (codes "derived") (url_text (Some numbers) derived ∷ [])
    ++ line_text (codes "base") (url_text (Some numbers) base ∷ [])
    ++ flat_map (pair_text (Some numbers)) (map (item_line s) items)
    ++ flat_map (pair_text (Some numbers)) (map (kids_line s) kids)
    ++ codes "end\n"

joined : (front last : Text) (s : SchemaValue) (us : List Text) (items kids : List NodePair)
    → front ++ flat_map (pair_text (Some us)) (map (item_line s) items) ++ flat_map (pair_text (Some us)) (map (kids_line s) kids) ++ last
    ≡ front ++ flat_map (pair_text (Some us)) (map (item_line s) items ++ map (kids_line s) kids) ++ last
joined front last s us items kids =
    let a = flat_map (pair_text (Some us)) (map (item_line s) items) in
    let b = flat_map (pair_text (Some us)) (map (kids_line s) kids) in
    ap (λ t. t ++ last)
    (append_assoc front a b ∙ ap (λ t. front ++ t) (sym (flat_map-append (pair_text (Some us)) (map (item_line s) items) (map (kids_line s) kids))))

whole_text : (s : SchemaValue) (c : CertificateValue)
    → all_parts s (firsts (urls_named s c)) (firsts (urls_named s c)) c.derived c.base c.items c.kids ≡ text_of (written_by s c)
whole_text s c =
    let us = firsts (urls_named s c) in
    let ds = map (stated s) us in
    joined
    (codes "fhirprof-certificate 2\n" ++ definitions_text 0 ds ++ line_text (codes "derived") (url_text (Some us) c.derived ∷ [])
    ++ line_text (codes "base") (url_text (Some us) c.base ∷ []))
    (codes "end\n") s us c.items c.kids
    ∙ ap (λ (ns : List Text). codes "fhirprof-certificate 2\n" ++ definitions_text 0 ds
    ++ line_text (codes "derived") (url_text (Some ns) c.derived ∷ []) ++ line_text (codes "base") (url_text (Some ns) c.base ∷ [])
    ++ flat_map (pair_text (Some ns)) (map (item_line s) c.items ++ map (kids_line s) c.kids) ++ codes "end\n")
    (sym (urls_stated s us))

pub whole_of : (s : SchemaValue) (c : CertificateValue) (us numbers : List Text) (derived base : Text) (items kids : List NodePair)
    → numbers ≡ firsts (urls_named s c) → us ≡ numbers → derived ≡ c.derived → base ≡ c.base → items ≡ c.items → kids ≡ c.kids
    → all_parts s us numbers derived base items kids ≡ text_of (written_by s c)
whole_of s c us numbers derived base items kids named same d b i k =
    let all = firsts (urls_named s c) in
    ap (λ (l : List Text). all_parts s l numbers derived base items kids) (same ∙ named)
    ∙ ap (λ (l : List Text). all_parts s all l derived base items kids) named
    ∙ ap (λ (t : Text). all_parts s all all t base items kids) d
    ∙ ap (λ (t : Text). all_parts s all all c.derived t items kids) b
    ∙ ap (λ (ps : List NodePair). all_parts s all all c.derived c.base ps kids) i
    ∙ ap (λ (ps : List NodePair). all_parts s all all c.derived c.base c.items ps) k
    ∙ whole_text s c

-- one text behind the other
pub parts_joined : (bytes o0 o1 o2 o3 o4 o5 o6 o7 x1 x2 x3 x4 x5 x6 x7 : Text) → bytes ≡ o7 → o0 ≡ [] → o1 ≡ o0 ++ x1 → o2 ≡ o1 ++ x2 → o3 ≡ o2 ++ x3
    → o4 ≡ o3 ++ x4 → o5 ≡ o4 ++ x5 → o6 ≡ o5 ++ x6 → o7 ≡ o6 ++ x7 → bytes ≡ x1 ++ x2 ++ x3 ++ x4 ++ x5 ++ x6 ++ x7
parts_joined bytes o0 o1 o2 o3 o4 o5 o6 o7 x1 x2 x3 x4 x5 x6 x7 e e0 e1 e2 e3 e4 e5 e6 e7 =
    e ∙ e7 ∙ ap (λ t. t ++ x7) (e6 ∙ ap (λ t. t ++ x6) (e5 ∙ ap (λ t. t ++ x5) (e4 ∙ ap (λ t. t ++ x4) (e3 ∙ ap (λ t. t ++ x3)
    (e2 ∙ ap (λ t. t ++ x2) (e1 ∙ ap (λ t. t ++ x1) e0))))))
