-- The texts that stand for definitions: each url is found under the text that stands for it, and under no other.
use Rattle.std.proofs.Common.{◌≡◌, ℕ, suc, ◌+◌, ◌<◌, ◌≤◌, Bool, true, false, not, ◌&&◌, List, [], ◌∷◌, length, map, drop, get_or, Option, Some, None, option_map, if◌then◌else◌, refl, sym, ap, subst, ◌∙◌, inl, inr, arith}
use Rattle.std.specs.Prelude.{IsUtf8}
use Rattle.std.specs.Option.{option_map_or}
use Rattle.std.specs.List.{list_all, position_from, slice_get}
use Rattle.std.specs.Str.{bytes_eq}
use Rattle.std.proofs.lemmas.Bool.{and_parts, cases_Bool, cond-true, cond-false, not-true, false≢true, false_from_ne_true}
use Rattle.std.proofs.Math.Seq.{drop-cons}
use Rattle.std.proofs.lemmas.List.Folds.{list_all-map}
use Rattle.std.proofs.lemmas.Slice.Eq.{bytes_eq-Decides}
use Rattle.std.proofs.lemmas.Str.{IsUtf8-nil}
use Rattle.fhir_json.specs.Tree.{Text}
use Rattle.fhir_json.specs.Sound.{is_among, differ}
use Rattle.fhir_names.specs.Places.{Places, place_of, Finds}
use Rattle.fhir_schema.specs.Schemas.{SchemaValue}
use Rattle.fhir_schema.specs.Versions.{can_be_used}
use Rattle.fhir_certificate.specs.declared.stated.StatedText.{StatedText}
use Rattle.fhir_certificate.specs.Numbers.{Numbering, number_text, url_text, url_numbered, url_named, number_texts}
use Rattle.fhir_certificate.specs.Format.{Stated, urls_of, numbering, is_field, is_url}
use Rattle.fhir_certificate.specs.Judging.{are_loaded}
use Rattle.fhir_certificate.specs.Views.{stated_seen}
use Rattle.fhir_certificate.proofs.Numbered.{one_number, number_field, number_utf8}

pub text_same : (x : Text) → bytes_eq x x ≡ true
text_same x = (bytes_eq-Decides x x).1 refl

-- ---- places of urls

-- what is among others has a place there
pub place_from : (url : Text) (n : ℕ) (urls : List Text) → is_among url urls ≡ true → (j : ℕ) × (n ≤ j) × (position_from (bytes_eq url) n urls ≡ Some j)
place_from url n [] is = absurd (false≢true is)
place_from url n (u ∷ us) is =
    elim (cases_Bool (bytes_eq url u)) [
      | inl same ↦ (n, omega arith, cond-true _ _ _ same)
      | inr other ↦
          let rest = place_from url (n + 1) us (rw other at is) in
          (rest.0, let le = rest.1 in omega arith, cond-false _ _ _ other ∙ rest.2)
    ]

other_number : (m n : ℕ) → n + 1 ≤ m → bytes_eq (number_text m) (number_text n) ≡ false
other_number m n lt =
    false_from_ne_true _ (λ same. let e = one_number m n ((bytes_eq-Decides (number_text m) (number_text n)).0 same) in absurd (omega arith))

-- how a url is named, where the first has that number
abbrev text_from : ℕ → List Text → Text → Text
text_from n urls url = option_map_or number_text (position_from (bytes_eq url) n urls) []

text_of_first : (url u : Text) (n : ℕ) (us : List Text) → bytes_eq url u ≡ true → text_from n (u ∷ us) url ≡ number_text n
text_of_first url u n us same = ap (λ o. option_map_or number_text o []) (cond-true _ _ _ same)

text_of_later : (url u : Text) (n : ℕ) (us : List Text) → bytes_eq url u ≡ false → text_from n (u ∷ us) url ≡ text_from (n + 1) us url
text_of_later url u n us other = ap (λ o. option_map_or number_text o []) (cond-false _ _ _ other)

later_text : (url : Text) (n : ℕ) (us : List Text) → is_among url us ≡ true → bytes_eq (text_from (n + 1) us url) (number_text n) ≡ false
later_text url n us is =
    let place = place_from url (n + 1) us is in
    let text : text_from (n + 1) us url ≡ number_text place.0 = ap (λ o. option_map_or number_text o []) place.2 in
    rw text (other_number place.0 n place.1)

-- the number of a url names it
numbered_again : (n : ℕ) (urls : List Text) (url : Text) → is_among url urls ≡ true → url_numbered n urls (text_from n urls url) ≡ Some url
numbered_again n [] url is = absurd (false≢true is)
numbered_again n (u ∷ us) url is =
    elim (cases_Bool (bytes_eq url u)) [
      | inl same ↦
          ap (λ t. if bytes_eq t (number_text n) then Some u else url_numbered (n + 1) us t) (text_of_first url u n us same)
          ∙ cond-true _ _ _ (text_same (number_text n)) ∙ ap Some (sym ((bytes_eq-Decides url u).0 same))
      | inr other ↦
          let rest : is_among url us ≡ true = rw other at is in
          ap (λ t. if bytes_eq t (number_text n) then Some u else url_numbered (n + 1) us t) (text_of_later url u n us other)
          ∙ cond-false _ _ _ (later_text url n us rest) ∙ numbered_again (n + 1) us url rest
    ]

-- what names a url is its number, where no two urls are alike
not_among : (url u : Text) (us : List Text) → is_among u us ≡ false → is_among url us ≡ true → bytes_eq url u ≡ false
not_among url u us new is =
    false_from_ne_true _ (λ same. false≢true (sym new ∙ ap (λ x. is_among x us) (sym ((bytes_eq-Decides url u).0 same)) ∙ is))

numbered_is : (n : ℕ) (urls : List Text) (text url : Text) → differ urls ≡ true → url_numbered n urls text ≡ Some url
    → (text ≡ text_from n urls url) × (is_among url urls ≡ true)
numbered_is n [] text url apart e = cc
numbered_is n (u ∷ us) text url apart e =
    let parts = and_parts (not (is_among u us)) (differ us) apart in
    elim (cases_Bool (bytes_eq text (number_text n))) [
      | inl same ↦
          let first : Some u ≡ Some url = sym (cond-true _ _ _ same) ∙ e in
          let url_is : u ≡ url = cc in
          let Q : Text → Type 0 = λ url. (text ≡ text_from n (u ∷ us) url) × (is_among url (u ∷ us) ≡ true) in
          let text_is : text ≡ number_text n = (bytes_eq-Decides text (number_text n)).0 same in
          subst Q url_is (text_is ∙ sym (text_of_first u u n us (text_same u)), rw (text_same u) refl)
      | inr other ↦
          let later = numbered_is (n + 1) us text url parts.1 (sym (cond-false _ _ _ other) ∙ e) in
          let apart_here = not_among url u us (not-true _ parts.0) later.1 in
          (later.0 ∙ sym (text_of_later url u n us apart_here), rw (apart_here, later.1) refl)
    ]

-- ---- what stands for a url

abbrev pub differ_if_any : Numbering → Bool
differ_if_any ns = option_map_or differ ns true

pub named_again : (ns : Numbering) (url : Text) → is_url ns url ≡ true → url_named ns (url_text ns url) ≡ Some url
named_again None url is = refl
named_again (Some urls) url is = numbered_again 0 urls url is

pub named_is : (ns : Numbering) (text url : Text) → differ_if_any ns ≡ true → is_field text ≡ true → url_named ns text ≡ Some url
    → (text ≡ url_text ns url) × (is_url ns url ≡ true)
named_is None text url apart f e = let same : text ≡ url = cc in (same, subst (λ t. is_field t ≡ true) same f)
named_is (Some urls) text url apart f e = numbered_is 0 urls text url apart e

field_of_place : (o : Option ℕ) → is_field (option_map_or number_text o []) ≡ true
field_of_place None = refl
field_of_place (Some n) = number_field n

pub text_field : (ns : Numbering) (url : Text) → is_url ns url ≡ true → is_field (url_text ns url) ≡ true
text_field None url is = is
text_field (Some urls) url is = field_of_place (position_from (bytes_eq url) 0 urls)

utf8_of_place : (o : Option ℕ) → IsUtf8 (option_map_or number_text o [])
utf8_of_place None = IsUtf8-nil
utf8_of_place (Some n) = number_utf8 n

pub text_utf8 : (urls : List Text) (url : Text) → IsUtf8 (url_text (Some urls) url)
text_utf8 urls url = utf8_of_place (position_from (bytes_eq url) 0 urls)

-- ---- how a table of numbers is read

-- the place that a text has, which begin with n, and the url that it names
abbrev IsAt : {A : Type 0} → (A → Stated) → ℕ → List A → Text → Option ℕ → Type 0
IsAt f n xs text None = url_numbered n (urls_of (map f xs)) text ≡ None
IsAt f n xs text (Some k) = (i : ℕ) × (k ≡ n + i) × (url_numbered n (urls_of (map f xs)) text ≡ option_map (λ x. (f x).url) (slice_get xs i))

at_later : {A : Type 0} (f : A → Stated) (n : ℕ) (x : A) (xs : List A) (text : Text) (r : Option ℕ) → bytes_eq text (number_text n) ≡ false
    → IsAt f (n + 1) xs text r → IsAt f n (x ∷ xs) text r
at_later f n x xs text None other h = cond-false _ _ _ other ∙ h
at_later f n x xs text (Some k) other h = (suc h.0, let e = h.1 in omega arith, cond-false _ _ _ other ∙ h.2)

pub is_at : {A : Type 0} (f : A → Stated) (n : ℕ) (xs : List A) (text : Text)
    → IsAt f n xs text (position_from (bytes_eq text) n (number_texts n (map f xs)))
is_at f n [] text = refl
is_at f n (x ∷ xs) text =
    elim (cases_Bool (bytes_eq text (number_text n))) [
      | inl same ↦ subst (IsAt f n (x ∷ xs) text) (sym (cond-true _ _ _ same)) (0, omega arith, cond-true _ _ _ same)
      | inr other ↦ subst (IsAt f n (x ∷ xs) text) (sym (cond-false _ _ _ other)) (at_later f n x xs text _ other (is_at f (n + 1) xs text))
    ]

pub at_place : {A : Type 0} (f : A → Stated) (xs : List A) (text : Text) (k : ℕ) → position_from (bytes_eq text) 0 (number_texts 0 (map f xs)) ≡ Some k
    → option_map (λ x. (f x).url) (slice_get xs k) ≡ url_numbered 0 (urls_of (map f xs)) text
at_place f xs text k e =
    let h = subst (IsAt f 0 xs text) e (is_at f 0 xs text) in
    let same : h.0 ≡ k = let i = h.1 in omega arith in
    ap (λ i. option_map (λ x. (f x).url) (slice_get xs i)) (sym same) ∙ sym h.2

pub at_none : {A : Type 0} (f : A → Stated) (xs : List A) (text : Text) → position_from (bytes_eq text) 0 (number_texts 0 (map f xs)) ≡ None
    → url_numbered 0 (urls_of (map f xs)) text ≡ None
at_none f xs text e = subst (IsAt f 0 xs text) e (is_at f 0 xs text)

-- ---- the definitions of a text

-- the url at the place of a number's text
pub url_at_place : (self : Option (List Stated)) (xs items : List StatedText) (places : Places) (text : Text) (place : ℕ) → self ≡ Some (map stated_seen xs)
    → items ≡ xs → Finds places (number_texts 0 (map stated_seen xs)) → place_of places text ≡ Some place
    → option_map (λ d. d.url.now) (slice_get items place) ≡ url_named (numbering self) text
url_at_place self xs items places text place is same h e =
    ap (λ l. option_map (λ d. d.url.now) (slice_get l place)) same ∙ at_place stated_seen xs text place (sym (h text) ∙ e)
    ∙ ap (λ ds. url_named (numbering ds) text) (sym is)

pub url_at_none : (self : Option (List Stated)) (xs : List StatedText) (places : Places) (text : Text) → self ≡ Some (map stated_seen xs)
    → Finds places (number_texts 0 (map stated_seen xs)) → place_of places text ≡ None → None ≡ url_named (numbering self) text
url_at_none self xs places text is h e =
    sym (at_none stated_seen xs text (sym (h text) ∙ e)) ∙ ap (λ ds. url_named (numbering ds) text) (sym is)

pub loaded_are : (s : SchemaValue) (self : Option (List Stated)) (xs items : List StatedText) → self ≡ Some (map stated_seen xs) → items ≡ xs
    → list_all (λ d. can_be_used s d.url.now) items ≡ are_loaded s self
loaded_are s self xs items is same =
    ap (list_all (λ d. can_be_used s d.url.now)) same ∙ sym (list_all-map (λ d. can_be_used s d.url) stated_seen xs) ∙ ap (are_loaded s) (sym is)

-- one that fails among those that are left
pub one_other : {A B : Type 0} (p : B → Bool) (f : A → B) (xs : List A) (i : ℕ) (d : A) (whole : Bool) → i < length xs → p (f (get_or xs i d)) ≡ false
    → list_all p (map f (drop i xs)) ≡ whole → false ≡ whole
one_other p f xs i d whole lt other e =
    let here : list_all p (map f (drop i xs)) ≡ false =
    ap (λ l. list_all p (map f l)) (drop-cons xs i d lt) ∙ ap (λ b. b && list_all p (map f (drop (suc i) xs))) other in
    sym here ∙ e
