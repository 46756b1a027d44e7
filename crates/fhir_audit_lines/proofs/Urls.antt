-- A set of the urls of certificates, one more at a time.
use Rattle.std.proofs.Common.{◌≡◌, Bool, true, false, ◌||◌, ◌&&◌, List, [], ◌∷◌, ◌++◌, map, Option, Some, None, refl, sym, ap, ap₂, ◌∙◌}
use Rattle.std.specs.Prelude.{not, if◌then◌else◌}
use Rattle.std.specs.Borrow.{Bor}
use Rattle.std.specs.BTreeMap.{is_at}
use Rattle.std.specs.BTreeSet.{BTreeSet, insert_key}
use Rattle.std.specs.Cmp.{both_tied}
use Rattle.std.specs.Cmp.Lexicographic.{slice_cmp}
use Rattle.std.specs.declared.cmp.Ordering.{Ordering}
use Rattle.std.specs.declared.cmp.Ordering.TheVariants.{Less, Equal, Greater}
use Rattle.std.specs.List.{filter, list_any}
use Rattle.std.specs.Option.{option_map_or}
use Rattle.std.specs.Ordering.{is_eq, nat_cmp, match_ordering, ordering_then}
use Rattle.std.specs.Str.{bytes_eq}
use Rattle.std.proofs.lemmas.List.Folds.{list_any-append}
use Rattle.std.proofs.lemmas.Map.Text.{is_eq-slice_cmp}
use Rattle.std.proofs.lemmas.Slice.Eq.{bytes_eq-Decides}
use Rattle.fhir_json.specs.Tree.{Text}
use Rattle.fhir_words.specs.declared.request.Format.{Format}
use Rattle.fhir_audit.specs.Auditing.{AuditedValue}
use Rattle.fhir_audit_lines.specs.Held.{HeldValue, is_of, has_certificate, without_line, without_lines}
use Rattle.fhir_audit_lines.specs.Urls.{has_urls, AreUrls, has_urls_of, missing_lines}

abbrev pub Urls : Type 0
Urls = Bor Text × Bor Text

-- how they are compared in a set
abbrev pub urls_cmp : Urls → Urls → Ordering
urls_cmp x y = ordering_then (slice_cmp nat_cmp x.0.now y.0.now) (slice_cmp nat_cmp x.1.now y.1.now)

-- whether they are these
abbrev pub are : Text → Text → Urls → Bool
are url base x = bytes_eq url x.0.now && bytes_eq base x.1.now

pub same_urls : (x y : Urls) → is_eq (urls_cmp x y) ≡ are x.0.now x.1.now y
same_urls x y =
    sym (both_tied (bytes_eq x.0.now y.0.now) (bytes_eq x.1.now y.1.now) _ _ (sym (is_eq-slice_cmp x.0.now y.0.now)) (sym (is_eq-slice_cmp x.1.now y.1.now)))

pub any_are : (x : Urls) (ks : List Urls) → list_any (is_at (urls_cmp x)) ks ≡ list_any (are x.0.now x.1.now) ks
any_are x [] = refl
any_are x (k ∷ ks) = ap₂ (λ (a b : Bool). a || b) (same_urls x k) (any_are x ks)

both : (a b : Bool) → (a && b) ≡ true → (a ≡ true) × (b ≡ true)
both true true e = (refl, refl)
both true false e = absurd cc
both false b e = absurd cc

alike : (url base : Text) (x y : Urls) → urls_cmp x y ≡ Equal → are url base x ≡ are url base y
alike url base x y is =
    let e = both (bytes_eq x.0.now y.0.now) (bytes_eq x.1.now y.1.now) (sym (same_urls x y) ∙ ap is_eq is) in
    ap₂ (λ (u b : Text). bytes_eq url u && bytes_eq base b) ((bytes_eq-Decides x.0.now y.0.now).0 e.0) ((bytes_eq-Decides x.1.now y.1.now).0 e.1)

pub any-insert_key : (url base : Text) (k : Urls) (ks : List Urls)
    → list_any (are url base) (insert_key urls_cmp ks k) ≡ (are url base k || list_any (are url base) ks)
any-insert_key url base k [] = refl
any-insert_key url base k (x ∷ ks) = at (urls_cmp k x) refl (any-insert_key url base k ks)
  where
    at : (o : Ordering) → urls_cmp k x ≡ o → list_any (are url base) (insert_key urls_cmp ks k) ≡ (are url base k || list_any (are url base) ks)
        → list_any (are url base) (match_ordering o (k ∷ x ∷ ks) (x ∷ ks) (x ∷ insert_key urls_cmp ks k))
        ≡ (are url base k || (are url base x || list_any (are url base) ks))
    at Less is later = refl
    at Equal is later = twice (are url base k) (are url base x) _ (alike url base k x is)
      where
        twice : (a b c : Bool) → a ≡ b → (b || c) ≡ (a || (b || c))
        twice true true c e = refl
        twice true false c e = absurd cc
        twice false b c e = refl
    at Greater is later = ap (λ (b : Bool). are url base x || b) later ∙ swapped (are url base x) (are url base k) _
      where
        swapped : (a b c : Bool) → (a || (b || c)) ≡ (b || (a || c))
        swapped true true c = refl
        swapped true false c = refl
        swapped false b c = refl

-- ---- certificates

or_turned : (a b : Bool) → (a || b) ≡ (b || a)
or_turned true true = refl
or_turned true false = refl
or_turned false true = refl
or_turned false false = refl

or_none : (b : Bool) → (b || false) ≡ b
or_none true = refl
or_none false = refl

any_more : (p : HeldValue → Bool) (held : List HeldValue) (h : HeldValue) → list_any p (held ++ h ∷ []) ≡ (list_any p held || p h)
any_more p held h = list_any-append p held (h ∷ []) ∙ ap (λ (b : Bool). list_any p held || b) (or_none (p h))

said : (d b : Text) (h : HeldValue) (o : Option (Text × Text)) → h.profiles ≡ o
    → is_of d b h ≡ option_map_or (λ (urls : Text × Text). bytes_eq d urls.0 && bytes_eq b urls.1) o false
said d b h o is = ap (λ (p : Option (Text × Text)). option_map_or (λ (urls : Text × Text). bytes_eq d urls.0 && bytes_eq b urls.1) p false) is

-- one file more, that is a certificate
pub one_more : (old new : BTreeSet Urls) (held : List HeldValue) (h : HeldValue) (derived base : Text) → h.profiles ≡ Some (derived, base)
    → ((d b : Text) → has_urls d b new ≡ ((bytes_eq d derived && bytes_eq b base) || has_urls d b old))
    → AreUrls held old → AreUrls (held ++ h ∷ []) new
one_more old new held h derived base is puts so_far d b =
    puts d b
    ∙ ap (λ (o : Bool). (bytes_eq d derived && bytes_eq b base) || o) (so_far d b)
    ∙ or_turned (bytes_eq d derived && bytes_eq b base) (list_any (is_of d b) held)
    ∙ ap (λ (o : Bool). list_any (is_of d b) held || o) (sym (said d b h (Some (derived, base)) is))
    ∙ sym (any_more (is_of d b) held h)

-- one that is none
pub none_more : (urls : BTreeSet Urls) (held : List HeldValue) (h : HeldValue) → h.profiles ≡ None → AreUrls held urls → AreUrls (held ++ h ∷ []) urls
none_more urls held h is so_far d b =
    so_far d b
    ∙ sym (or_none (list_any (is_of d b) held))
    ∙ ap (λ (o : Bool). list_any (is_of d b) held || o) (sym (said d b h None is))
    ∙ sym (any_more (is_of d b) held h)

-- ---- profiles

has_same : (held : List HeldValue) (urls : BTreeSet Urls) (url : Text) (base : Option Text) → AreUrls held urls
    → option_map_or (λ b. has_urls url b urls) base false ≡ option_map_or (λ b. list_any (is_of url b) held) base false
has_same held urls url (Some base) are = are url base
has_same held urls url None are = refl

-- the lines on those whose urls the set hasn't are those on those without a certificate
pub missing_are : (format : Format) (held : List HeldValue) (urls : BTreeSet Urls) (told : List AuditedValue) → AreUrls held urls
    → missing_lines format urls told ≡ without_lines format held told
missing_are format held urls [] are = refl
missing_are format held urls (a ∷ told) are =
    rw (has_same held urls a.url a.base are) (by (has_certificate held a) (missing_are format held urls told are))
  where
    by : (b : Bool) → missing_lines format urls told ≡ without_lines format held told
        → map (λ (x : AuditedValue). without_line format x.url) (if not b then a ∷ filter (λ x. not (has_urls_of urls x)) told else filter (λ x. not (has_urls_of urls x)) told)
        ≡ map (λ (x : AuditedValue). without_line format x.url) (if not b then a ∷ filter (λ x. not (has_certificate held x)) told else filter (λ x. not (has_certificate held x)) told)
    by true rest = rest
    by false rest = ap (λ (ls : List Text). without_line format a.url ∷ ls) rest
