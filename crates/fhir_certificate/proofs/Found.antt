-- Texts that are found by their places, as their list grows at its end.
use Rattle.std.proofs.Common.{◌≡◌, ℕ, ◌+◌, ◌<◌, ◌≤◌, Bool, true, false, cond, ◌||◌, List, [], ◌∷◌, ◌++◌, length, take, get_or, Some, is_some, refl, sym, ap, subst, ◌∙◌, Bor}
use Rattle.std.specs.List.{list_any, position_from, flat_map}
use Rattle.std.specs.Str.{bytes_eq}
use Rattle.std.proofs.lemmas.Bool.{cond-true, cond-false}
use Rattle.std.proofs.lemmas.List.{map-append, length-map, take_more, take_all, append-nil}
use Rattle.std.proofs.lemmas.Grind.{flat_map-append}
use Rattle.fhir_json.specs.Tree.{Text}
use Rattle.fhir_json.specs.Sound.{is_among}
use Rattle.fhir_names.specs.Places.{Places, place_of, Finds}
use Rattle.fhir_schema.specs.Schemas.{SchemaValue}
use Rattle.fhir_certificate.specs.declared.pair.NodePair.{NodePair}
use Rattle.fhir_certificate.specs.Certificate.{CertificateValue}
use Rattle.fhir_certificate.specs.Writing.{pair_urls, urls_named, with_text, with_texts, firsts}
use Rattle.fhir_certificate.specs.Numbering.{texts_seen, AreFound}

any_position : (test : Text → Bool) (i : ℕ) (xs : List Text) → is_some (position_from test i xs) ≡ list_any test xs
any_position test i [] = refl
any_position test i (x ∷ xs) =
    elim (test x) as (λ b. is_some (cond b (Some i) (position_from test (i + 1) xs)) ≡ (b || list_any test xs))
    [ true ↦ refl | false ↦ any_position test (i + 1) xs ]

-- whether a name has a place is whether it is among the names
pub is_found : (places : Places) (ns : List Text) (name : Text) → Finds places ns → is_some (place_of places name) ≡ is_among name ns
is_found places ns name h = ap is_some (h name) ∙ any_position (bytes_eq name) 0 ns

-- a url that is there
pub found_there : (urls : List (Bor Text)) (places : Places) (url : Text) → is_some (place_of places url) ≡ true → (us : List Text)
    → AreFound urls places us → AreFound urls places (with_text us url)
found_there urls places url is us h =
    subst (AreFound urls places) (sym (cond-true _ _ _ (sym (is_found places us url h.found) ∙ is))) h

-- one that isn't
pub found_behind : (urls more : List (Bor Text)) (old new : Places) (url : Bor Text) → is_some (place_of old url.now) ≡ false → more ≡ urls ++ url ∷ []
    → ((names : List Text) → Finds old names → length names ≡ length urls → Finds new (names ++ url.now ∷ [])) → (us : List Text)
    → AreFound urls old us → AreFound more new (with_text us url.now)
found_behind urls more old new url isnt items added us h =
    let few : length us ≡ length urls = ap length (sym h.urls_are) ∙ length-map urls (λ x. x.now) in
    subst (AreFound more new) (sym (cond-false _ _ _ (sym (is_found old us url.now h.found) ∙ isnt)))
    (record {
      urls_are = ap texts_seen items ∙ map-append (λ x. x.now) urls (url ∷ []) ∙ ap (λ (l : List Text). l ++ url.now ∷ []) h.urls_are;
      found = added us h.found few;
    })

-- ---- one text after the other

pub texts_append : (us xs ys : List Text) → with_texts us (xs ++ ys) ≡ with_texts (with_texts us xs) ys
texts_append us [] ys = refl
texts_append us (x ∷ xs) ys = texts_append (with_text us x) xs ys

pub pairs_more : (s : SchemaValue) (us : List Text) (ps : List NodePair) (i : ℕ) (d : NodePair) → i < length ps
    → with_texts (with_texts us (flat_map (pair_urls s) (take i ps))) (pair_urls s (get_or ps i d)) ≡ with_texts us (flat_map (pair_urls s) (take (i + 1) ps))
pairs_more s us ps i d lt =
    let p = get_or ps i d in
    let one : flat_map (pair_urls s) (p ∷ []) ≡ pair_urls s p = append-nil (pair_urls s p) in
    sym (
    ap (λ (l : List NodePair). with_texts us (flat_map (pair_urls s) l)) (take_more ps i d lt)
    ∙ ap (with_texts us) (flat_map-append (pair_urls s) (take i ps) (p ∷ []) ∙ ap (λ (l : List Text). flat_map (pair_urls s) (take i ps) ++ l) one)
    ∙ texts_append us (flat_map (pair_urls s) (take i ps)) (pair_urls s p))

pub pairs_whole : (s : SchemaValue) (us : List Text) (ps : List NodePair) (i : ℕ) → length ps ≤ i
    → with_texts us (flat_map (pair_urls s) (take i ps)) ≡ with_texts us (flat_map (pair_urls s) ps)
pairs_whole s us ps i past = ap (λ (l : List NodePair). with_texts us (flat_map (pair_urls s) l)) (take_all i ps past)

-- those of a certificate
pub firsts_with : (s : SchemaValue) (c : CertificateValue) (d b : Text) (is ks : List NodePair) → d ≡ c.derived → b ≡ c.base → is ≡ c.items → ks ≡ c.kids
    → with_texts (with_texts (with_text (with_text [] d) b) (flat_map (pair_urls s) is)) (flat_map (pair_urls s) ks) ≡ firsts (urls_named s c)
firsts_with s c d b is ks e f g h =
    rw (e, f, g, h) (sym (texts_append (with_text (with_text [] c.derived) c.base) (flat_map (pair_urls s) c.items) (flat_map (pair_urls s) c.kids)))

pub found_start : (urls : List (Bor Text)) (places : Places) → urls ≡ [] → places ≡ [] → AreFound urls places []
found_start urls places e f = rw (e, f) (record { urls_are = refl; found = λ name. refl })

pub found_seen : (urls : List (Bor Text)) (places : Places) (us : List Text) → AreFound urls places us → Finds places (texts_seen urls)
found_seen urls places us h = subst (Finds places) (sym h.urls_are) h.found
