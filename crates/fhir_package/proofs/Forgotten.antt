-- The last of a list of names taken away: the places at which the others first stand.
use Rattle.std.proofs.Common.{◌≡◌, ◌≢◌, ℕ, ◌+◌, ◌-◌, ◌<◌, suc, Bool, cond, true, false, List, [], ◌∷◌, ◌++◌, length, take, Option, None, Some, is_some}
use Rattle.std.proofs.Common.{refl, ap, sym, ◌∙◌, arith}
use Rattle.std.specs.List.{position_from}
use Rattle.std.specs.Map.{keys_of}
use Rattle.std.specs.Str.{bytes_eq}
use Rattle.std.proofs.lemmas.Bool.{false≢true}
use Rattle.std.proofs.lemmas.List.{length-append, take-take}
use Rattle.std.proofs.lemmas.Slice.Eq.{bytes_eq-Decides}
use Rattle.std.proofs.Math.Seq.{take-append_seam}
use Rattle.fhir_json.specs.Tree.{Text, Tree}
use Rattle.fhir_names.specs.Places.{Places, place_of, Removes, Finds}
use Rattle.fhir_package.specs.declared.url_map.UrlEntry.{UrlEntry}
use Rattle.fhir_package.specs.Definitions.{ByUrl}
use Rattle.fhir_package.specs.View.{entry_seen, entries_seen}

-- what is found behind a first element that passes or doesn't
behind : (b : Bool) (i n m : ℕ) (q : Bool) (r : Option ℕ) → n ≡ m
    → cond b (Some i) (cond (is_some r) r (cond q (Some n) None)) ≡ cond (is_some (cond b (Some i) r)) (cond b (Some i) r) (cond q (Some m) None)
behind true i n m q r e = refl
behind false i n m q r e = ap (λ (k : ℕ). cond (is_some r) r (cond q (Some k) None)) e

-- one more at the end is found where none before it is
position-push : (p : Text → Bool) (i : ℕ) (xs : List Text) (x : Text)
    → position_from p i (xs ++ x ∷ []) ≡ cond (is_some (position_from p i xs)) (position_from p i xs) (cond (p x) (Some (i + length xs)) None)
position-push p i [] x = ap (λ (n : ℕ). cond (p x) (Some n) None) (omega arith)
position-push p i (y ∷ xs) x =
    ap (λ (r : Option ℕ). cond (p y) (Some i) r) (position-push p (i + 1) xs x)
    ∙ behind (p y) i (i + 1 + length xs) (i + suc (length xs)) (p x) (position_from p (i + 1) xs) (omega arith)

position-below : (p : Text → Bool) (i : ℕ) (xs : List Text) (k : ℕ) → position_from p i xs ≡ Some k → k < i + length xs
position-below p i [] k e = absurd cc
position-below p i (x ∷ xs) k e = by (p x) e (position-below p (i + 1) xs k)
  where
    by : (b : Bool) → cond b (Some i) (position_from p (i + 1) xs) ≡ Some k → (position_from p (i + 1) xs ≡ Some k → k < i + 1 + length xs) → k < i + suc (length xs)
    by true e rest = let same : i ≡ k = cc in omega arith
    by false e rest = let less : k < i + 1 + length xs = rest e in omega arith

plain : (r : Option ℕ) → cond (is_some r) r None ≡ r
plain None = refl
plain (Some x) = refl

found : (r : Option ℕ) (b : Bool) (n : ℕ) → (b ≡ true → is_some r ≡ true) → cond (is_some r) r (cond b (Some n) None) ≡ r
found None true n k = absurd (false≢true (k refl))
found None false n k = refl
found (Some x) b n k = refl

module _ (old : Places) (names : List Text) (url : Text) (finds : Finds old (names ++ url ∷ [])) where
  abbrev first : Text → Option ℕ
  first name = position_from (bytes_eq name) 0 names

  placed : (name : Text) → place_of old name ≡ cond (is_some (first name)) (first name) (cond (bytes_eq name url) (Some (0 + length names)) None)
  placed name = finds name ∙ position-push (bytes_eq name) 0 names url

  itself : place_of old url ≡ cond (is_some (first url)) (first url) (Some (0 + length names))
  itself =
      placed url
      ∙ ap (λ (b : Bool). cond (is_some (first url)) (first url) (cond b (Some (0 + length names)) None)) ((bytes_eq-Decides url url).1 refl)

  pub has_last : None ≡ place_of old url → ⊥
  has_last none = by (first url) (none ∙ itself)
    where
      by : (r : Option ℕ) → None ≡ cond (is_some r) r (Some (0 + length names)) → ⊥
      by None e = absurd cc
      by (Some k) e = absurd cc

  -- it goes where it first stands at the end
  pub last_forgotten : (new : Places) (there place : ℕ) → length names ≡ place → Some there ≡ place_of old url → there ≡ place → Removes old new url → Finds new names
  last_forgotten new there place long is same removes = λ name. removes name ∙ by name (bytes_eq name url) refl
    where
      none_before : (r : Option ℕ) → first url ≡ r → Some there ≡ cond (is_some r) r (Some (0 + length names)) → r ≡ None
      none_before None at e = refl
      none_before (Some k) at e =
          let less : k < 0 + length names = position-below (bytes_eq url) 0 names k at in
          let equal : there ≡ k = cc in
          absurd (omega arith)

      none : first url ≡ None
      none = none_before (first url) refl (is ∙ itself)

      by : (name : Text) (b : Bool) → bytes_eq name url ≡ b → cond b None (place_of old name) ≡ first name
      by name true e = sym (ap (λ (n : Text). first n) ((bytes_eq-Decides name url).0 e) ∙ none)
      by name false isnt =
          placed name ∙ ap (λ (b : Bool). cond (is_some (first name)) (first name) (cond b (Some (0 + length names)) None)) isnt ∙ plain (first name)

  -- it stays where it stands before
  pub last_kept : (there place : ℕ) → length names ≡ place → Some there ≡ place_of old url → there ≢ place → Finds old names
  last_kept there place long is differ = λ name. placed name ∙ found (first name) (bytes_eq name url) (0 + length names) (some name)
    where
      before : (r : Option ℕ) → Some there ≡ cond (is_some r) r (Some (0 + length names)) → is_some r ≡ true
      before None e =
          let equal : there ≡ 0 + length names = cc in
          absurd (differ (omega arith))
      before (Some k) e = refl

      some : (name : Text) → bytes_eq name url ≡ true → is_some (first name) ≡ true
      some name e = ap (λ (n : Text). is_some (first n)) ((bytes_eq-Decides name url).0 e) ∙ before (first url) (is ∙ itself)

-- ---- entries

pub seen_last : (es : List UrlEntry) (e : UrlEntry) → entries_seen (es ++ e ∷ []) ≡ entries_seen es ++ entry_seen e ∷ []
seen_last [] e = refl
seen_last (x ∷ es) e = ap (λ (fs : ByUrl). entry_seen x ∷ fs) (seen_last es e)

pub urls_last : (es : ByUrl) (url : Text) (t : Tree) → keys_of (es ++ (url, t) ∷ []) ≡ keys_of es ++ url ∷ []
urls_last [] url t = refl
urls_last (e ∷ es) url t = ap (λ (us : List Text). e.0 ∷ us) (urls_last es url t)

pub all_but_last : (es all : ByUrl) (e : Text × Tree) → all ≡ es ++ e ∷ [] → es ≡ take (length all - 1) all
all_but_last es all e is =
    let long : length es ≡ length (es ++ e ∷ []) - 1 = omega (arith, length-append es (e ∷ [])) in
    sym (take-append_seam es (e ∷ [])) ∙ ap (λ (n : ℕ). take n (es ++ e ∷ [])) long ∙ ap (λ (fs : ByUrl). take (length fs - 1) fs) (sym is)

pub take_shorter : (n : ℕ) (es fs : ByUrl) → n < length es → fs ≡ take (length es - 1) es → take n fs ≡ take n es
take_shorter n es fs l is = ap (λ (gs : ByUrl). take n gs) is ∙ take-take n (length es - 1) es (omega arith)
