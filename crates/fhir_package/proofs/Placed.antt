-- Trees put in place of others or behind them, and taken out; and the places of the urls behind that.
use Rattle.std.proofs.Common.{◌≡◌, ◌<◌, ◌+◌, ℕ, zero, suc, Bool, true, false, not, cond, ◌&&◌, ◌||◌, List, [], ◌∷◌, ◌++◌, filter, drop, length, Option, None, Some}
use Rattle.std.proofs.Common.{is_some, option_map, slice_get, slice_index_or, slice_set, string_bytes, refl, sym, ap, subst, ◌∙◌, add-one, arith}
use Rattle.std.specs.Option.{option_map_or}
use Rattle.std.specs.List.{list_any, position_from}
use Rattle.std.specs.Map.{lookup, keys_of}
use Rattle.std.specs.Str.{bytes_eq}
use Rattle.std.proofs.lemmas.Bool.{false≢true}
use Rattle.std.proofs.lemmas.Cmp.{nat_list_eq_equiv}
use Rattle.std.proofs.lemmas.Slice.Eq.{bytes_eq-Decides}
use Rattle.std.proofs.lemmas.Map.Views.{any-filter_same}
use Rattle.std.proofs.lemmas.Map.Made.{is_some-lookup}
use Rattle.std.proofs.Math.Seq.{drop-length}
use Rattle.fhir_json.specs.Tree.{Text, Tree}
use Rattle.fhir_json.specs.Sound.{is_among}
use Rattle.fhir_names.specs.Places.{Places, place_of, Sets, Removes, Finds, Knows}
use Rattle.fhir_package.specs.declared.url_map.UrlEntry.{UrlEntry}
use Rattle.fhir_package.specs.Definitions.{ByUrl}
use Rattle.fhir_package.specs.View.{entry_seen, entries_seen}
use Rattle.fhir_package.specs.Changing.{put_at, without_url, with_tree_at}
use Rattle.fhir_package.proofs.Seen.{position-shift}

-- ---- in place of the one at a place

pub later : (place : ℕ) (t : Tree) (e : Text × Tree) (es : ByUrl) → with_tree_at (suc place) t (e ∷ es) ≡ e ∷ with_tree_at place t es
later place t e es = by (slice_get es place)
  where
    by : (there : Option (Text × Tree)) → option_map_or (λ d. e ∷ slice_set es place (d.0, t)) there (e ∷ es) ≡ e ∷ option_map_or (λ d. slice_set es place (d.0, t)) there es
    by None = refl
    by (Some d) = refl

pub same_urls : (place : ℕ) (t : Tree) (es : ByUrl) → keys_of (with_tree_at place t es) ≡ keys_of es
same_urls place t [] = refl
same_urls zero t (e ∷ es) = refl
same_urls (suc place) t (e ∷ es) = ap (λ (fs : ByUrl). keys_of fs) (later place t e es) ∙ ap (λ (us : List Text). e.0 ∷ us) (same_urls place t es)

pub set_seen : (entries : List UrlEntry) (place : ℕ) (old new : UrlEntry) (t : Tree) → place < length entries → old ≡ slice_index_or entries place old
    → entry_seen new ≡ ((entry_seen old).0, t) → entries_seen (slice_set entries place new) ≡ with_tree_at place t (entries_seen entries)
set_seen [] place old new t l there is = absurd (omega arith)
set_seen (x ∷ xs) zero old new t l there is =
    ap (λ (e : Text × Tree). e ∷ entries_seen xs) (is ∙ ap (λ (e : UrlEntry). ((entry_seen e).0, t)) there)
set_seen (x ∷ xs) (suc place) old new t l there is =
    ap (λ (es : ByUrl). entry_seen x ∷ es) (set_seen xs place old new t (omega arith) there is) ∙ sym (later place t (entry_seen x) (entries_seen xs))

-- ---- in place of the one under a url, or behind the others

put_later : (url : Text) (t : Tree) (e : Text × Tree) (es : ByUrl) (place : Option ℕ)
    → option_map_or (λ p. with_tree_at p t (e ∷ es)) (option_map (λ p. p + 1) place) (e ∷ (es ++ (url, t) ∷ []))
    ≡ e ∷ option_map_or (λ p. with_tree_at p t es) place (es ++ (url, t) ∷ [])
put_later url t e es None = refl
put_later url t e es (Some p) = ap (λ (n : ℕ). with_tree_at n t (e ∷ es)) (add-one p) ∙ later p t e es

pub put_by_place : (url : Text) (t : Tree) (es : ByUrl)
    → option_map_or (λ p. with_tree_at p t es) (position_from (bytes_eq url) 0 (keys_of es)) (es ++ (url, t) ∷ []) ≡ put_at url t es
put_by_place url t [] = refl
put_by_place url t (e ∷ es) =
    let all : ByUrl = e ∷ (es ++ (url, t) ∷ []) in
    let rest : option_map_or (λ p. with_tree_at p t (e ∷ es)) (position_from (bytes_eq url) (0 + 1) (keys_of es)) all ≡ e ∷ put_at url t es =
    ap (λ (r : Option ℕ). option_map_or (λ p. with_tree_at p t (e ∷ es)) r all) (position-shift (bytes_eq url) 0 (keys_of es))
    ∙ put_later url t e es (position_from (bytes_eq url) 0 (keys_of es)) ∙ ap (λ (fs : ByUrl). e ∷ fs) (put_by_place url t es) in
    elim (bytes_eq url e.0) as
    (λ b. option_map_or (λ p. with_tree_at p t (e ∷ es)) (cond b (Some 0) (position_from (bytes_eq url) (0 + 1) (keys_of es))) all
    ≡ cond b ((e.0, t) ∷ es) (e ∷ put_at url t es))
    [ true ↦ refl | false ↦ rest ]

pub put_in_place : (places : Places) (url : Text) (t : Tree) (es : ByUrl) (place : ℕ) → Finds places (keys_of es) → Some place ≡ place_of places url
    → with_tree_at place t es ≡ put_at url t es
put_in_place places url t es place finds there =
    ap (λ (r : Option ℕ). option_map_or (λ p. with_tree_at p t es) r (es ++ (url, t) ∷ [])) (there ∙ finds url) ∙ put_by_place url t es

pub put_last : (places : Places) (url : Text) (t : Tree) (es : ByUrl) → Finds places (keys_of es) → None ≡ place_of places url
    → es ++ (url, t) ∷ [] ≡ put_at url t es
put_last places url t es finds none =
    ap (λ (r : Option ℕ). option_map_or (λ p. with_tree_at p t es) r (es ++ (url, t) ∷ [])) (none ∙ finds url) ∙ put_by_place url t es

-- ---- taken out

pub kept_seen : (url : Text) (entries : List UrlEntry)
    → entries_seen (filter (λ e. not (bytes_eq (string_bytes e.url) url)) entries) ≡ without_url url (entries_seen entries)
kept_seen url [] = refl
kept_seen url (x ∷ xs) =
    let u = string_bytes x.url in
    let kept = filter (λ e. not (bytes_eq (string_bytes e.url) url)) xs in
    ap (λ (b : Bool). entries_seen (cond (not b) (x ∷ kept) kept)) (nat_list_eq_equiv.symm u url) ∙ by (bytes_eq url u) (kept_seen url xs)
  where
    by : (b : Bool) → entries_seen (filter (λ e. not (bytes_eq (string_bytes e.url) url)) xs) ≡ without_url url (entries_seen xs)
        → entries_seen (cond (not b) (x ∷ filter (λ e. not (bytes_eq (string_bytes e.url) url)) xs) (filter (λ e. not (bytes_eq (string_bytes e.url) url)) xs))
        ≡ cond (not b) (entry_seen x ∷ without_url url (entries_seen xs)) (without_url url (entries_seen xs))
    by true rest = rest
    by false rest = ap (λ (es : ByUrl). entry_seen x ∷ es) rest

pub is_some-place : (test : Text → Bool) (i : ℕ) (names : List Text) → is_some (position_from test i names) ≡ list_any test names
is_some-place test i [] = refl
is_some-place test i (n ∷ names) =
    let rest = is_some-place test (i + 1) names in
    elim (test n) as (λ b. is_some (cond b (Some i) (position_from test (i + 1) names)) ≡ (b || list_any test names)) [ true ↦ refl | false ↦ rest ]

-- a url has a tree where it has a place
pub has_tree : (places : Places) (url : Text) (es : ByUrl) (place : Option ℕ) → Finds places (keys_of es) → place ≡ place_of places url
    → is_some (lookup (bytes_eq url) es) ≡ is_some place
has_tree places url es place finds is = is_some-lookup (bytes_eq url) es ∙ sym (ap is_some (is ∙ finds url) ∙ is_some-place (bytes_eq url) 0 (keys_of es))

pub none_taken : (url : Text) (es : ByUrl) → is_some (lookup (bytes_eq url) es) ≡ false → es ≡ without_url url es
none_taken url [] h = refl
none_taken url (e ∷ es) h = by (bytes_eq url e.0) (none_taken url es) h
  where
    by : (b : Bool) → (is_some (lookup (bytes_eq url) es) ≡ false → es ≡ without_url url es) → is_some (cond b (Some e.1) (lookup (bytes_eq url) es)) ≡ false
        → e ∷ es ≡ cond (not b) (e ∷ without_url url es) (without_url url es)
    by true rest h = absurd (false≢true (sym h))
    by false rest h = ap (λ (fs : ByUrl). e ∷ fs) (rest h)

keys-without : (url : Text) (es : ByUrl) → keys_of (without_url url es) ≡ filter (λ u. not (bytes_eq url u)) (keys_of es)
keys-without url [] = refl
keys-without url (e ∷ es) =
    let rest = keys-without url es in
    elim (bytes_eq url e.0) as
    (λ b. keys_of (cond (not b) (e ∷ without_url url es) (without_url url es))
    ≡ cond (not b) (e.0 ∷ filter (λ u. not (bytes_eq url u)) (keys_of es)) (filter (λ u. not (bytes_eq url u)) (keys_of es)))
    [ true ↦ rest | false ↦ ap (λ (us : List Text). e.0 ∷ us) rest ]

among_kept : (url name : Text) (es : ByUrl) → is_among name (keys_of (without_url url es)) ≡ (not (bytes_eq url name) && is_among name (keys_of es))
among_kept url name es =
    ap (λ (us : List Text). is_among name us) (keys-without url es)
    ∙ any-filter_same (bytes_eq name) (λ u. not (bytes_eq url u)) (not (bytes_eq url name)) (λ u is. ap (λ (n : Text). not (bytes_eq url n)) (sym ((bytes_eq-Decides name u).0 is)))
    (keys_of es)

pub knows_kept : (old new : Places) (url : Text) (es : ByUrl) → Finds old (keys_of es) → Removes old new url → Knows new (keys_of (without_url url es))
knows_kept old new url es finds removes = λ name.
    ap is_some (removes name) ∙ by (bytes_eq name url) (place_of old name)
    ∙ ap (λ (b : Bool). not b && is_some (place_of old name)) (nat_list_eq_equiv.symm name url)
    ∙ ap (λ (b : Bool). not (bytes_eq url name) && b) (ap is_some (finds name) ∙ is_some-place (bytes_eq name) 0 (keys_of es))
    ∙ sym (among_kept url name es)
  where
    by : (b : Bool) (place : Option ℕ) → is_some (cond b None place) ≡ (not b && is_some place)
    by true place = refl
    by false place = refl

-- ---- the places, given from the last to the first

-- the names from that place on have the places at which they first stand behind it, and no name has a place but these names
pub record ArePlaced (places : Places) (from : ℕ) (names : List Text) : Type 0 where
  pub knows : Knows places names
  pub found : (name : Text) → is_among name (drop from names) ≡ true → place_of places name ≡ position_from (bytes_eq name) from (drop from names)

pub none_placed : (places : Places) (names : List Text) → Knows places names → ArePlaced places (length names) names
none_placed places names knows = record {
  knows = knows;
  found = λ name h. absurd (false≢true (sym (ap (λ (ns : List Text). is_among name ns) (drop-length names)) ∙ h));
}

among_dropped : (name : Text) (from : ℕ) (names : List Text) → is_among name (drop from names) ≡ true → is_among name names ≡ true
among_dropped name zero names h = h
among_dropped name (suc from) [] h = h
among_dropped name (suc from) (n ∷ names) h = by (bytes_eq name n) (among_dropped name from names h)
  where
    by : (b : Bool) → is_among name names ≡ true → (b || is_among name names) ≡ true
    by true h = refl
    by false h = h

pub url_at : (entries : List UrlEntry) (from : ℕ) (e : UrlEntry) → from < length entries → e ≡ slice_index_or entries from e
    → drop from (keys_of (entries_seen entries)) ≡ string_bytes e.url ∷ drop (suc from) (keys_of (entries_seen entries))
url_at [] from e l there = absurd (omega arith)
url_at (x ∷ xs) zero e l there = ap (λ (y : UrlEntry). string_bytes y.url ∷ keys_of (entries_seen xs)) (sym there)
url_at (x ∷ xs) (suc from) e l there = url_at xs from e (omega arith) there

some_place : (place : ℕ) (there : Option ℕ) → is_some there ≡ true → option_map (λ _. place) there ≡ Some place
some_place place None h = absurd (false≢true h)
some_place place (Some there) h = refl

pub one_placed : (old new : Places) (from next : ℕ) (name : Text) (names : List Text) → drop from names ≡ name ∷ drop next names → next ≡ from + 1
    → Sets old new name from → ArePlaced old next names → ArePlaced new from names
one_placed old new from next name names first e sets h = record {
  knows = λ other. ap is_some (sets other) ∙ known other (bytes_eq other name) refl;
  found = λ other among.
      sets other ∙ place other (bytes_eq other name) (subst (λ (ns : List Text). is_among other ns ≡ true) first among)
      ∙ ap (λ (n : ℕ). cond (bytes_eq other name) (Some from) (position_from (bytes_eq other) n (drop next names))) e
      ∙ sym (ap (λ (ns : List Text). position_from (bytes_eq other) from ns) first);
}
  where
    itself : is_some (place_of old name) ≡ true
    itself =
        h.knows name
        ∙ among_dropped name from names (ap (λ (ns : List Text). is_among name ns) first ∙ ap (λ (b : Bool). b || is_among name (drop next names)) ((bytes_eq-Decides name name).1 refl))

    some : (there : Option ℕ) → is_some (option_map (λ _. from) there) ≡ is_some there
    some None = refl
    some (Some there) = refl

    known : (other : Text) (b : Bool) → bytes_eq other name ≡ b → is_some (cond b (option_map (λ _. from) (place_of old name)) (place_of old other)) ≡ is_among other names
    known other true is = some (place_of old name) ∙ ap (λ (n : Text). is_some (place_of old n)) (sym ((bytes_eq-Decides other name).0 is)) ∙ h.knows other
    known other false isnt = h.knows other

    place : (other : Text) (b : Bool) → (b || is_among other (drop next names)) ≡ true
        → cond b (option_map (λ _. from) (place_of old name)) (place_of old other) ≡ cond b (Some from) (position_from (bytes_eq other) next (drop next names))
    place other true among = some_place from (place_of old name) itself
    place other false among = h.found other among

no_place : (places : Places) (name : Text) (names : List Text) → is_some (place_of places name) ≡ is_among name names → is_among name names ≡ false
    → place_of places name ≡ position_from (bytes_eq name) 0 names
no_place places name names knows isnt = none (place_of places name) (knows ∙ isnt) ∙ sym (none (position_from (bytes_eq name) 0 names) (is_some-place (bytes_eq name) 0 names ∙ isnt))
  where
    none : (place : Option ℕ) → is_some place ≡ false → place ≡ None
    none None h = refl
    none (Some place) h = absurd (false≢true (sym h))

pub all_placed : (places : Places) (names : List Text) → ArePlaced places 0 names → Finds places names
all_placed places names h = λ name. by name (is_among name names) refl
  where
    by : (name : Text) (b : Bool) → is_among name names ≡ b → place_of places name ≡ position_from (bytes_eq name) 0 names
    by name true is = h.found name is
    by name false isnt = no_place places name names (h.knows name) isnt
