-- A canonical that names the value set at a place has the concepts of that one; and which canonicals name which.
use Rattle.std.proofs.Common.{◌≡◌, ℕ, zero, suc, ◌+◌, Bool, true, false, ◌||◌, cond, nat_eq, List, [], ◌∷◌, map, set, replicate, Option, None, Some, if◌then◌else◌, option_map}
use Rattle.std.proofs.Common.{refl, ap, sym, ◌∙◌, subst, ◌⊎◌, inl, inr, arith}
use Rattle.std.proofs.lemmas.Bool.Decides.{nat_tests}
use Rattle.std.proofs.lemmas.Map.Made.{lookup-map_values}
use Rattle.std.specs.Option.{option_map_or, option_and_then}
use Rattle.std.specs.Result.{result_ok}
use Rattle.std.specs.List.{slice_get, list_any, position_from}
use Rattle.std.specs.Map.{lookup, keys_of}
use Rattle.std.specs.Str.{bytes_eq}
use Rattle.fhir_json.specs.Tree.{Text, Tree}
use Rattle.fhir_names.specs.Canonicals.{CanonicalParts, read_canonical}
use Rattle.fhir_package.specs.declared.kind.Kind.TheVariants.{ValueSet}
use Rattle.fhir_package.specs.Definitions.{ByUrl, Definitions, place_in}
use Rattle.fhir_package.specs.Canonical as canonicals
use Rattle.fhir_codes.specs.Expanding.{Expansion, expansion_of, expansions_of, where_version, at_version, concepts_in}
use Rattle.fhir_alike.specs.Naming.{place_named}
use Rattle.fhir_beside.specs.Made.{concepts_at, names_set}
use Rattle.fhir_beside.specs.Naming.{name_set, name_all}

-- ---- the value set at the place of a url

abbrev FoundAt : ℕ → ByUrl → Tree → ℕ → Type 0
FoundAt n es t k = (j : ℕ) × (k ≡ n + j) × ((url : Text) × (slice_get es j ≡ Some (url, t)))

abbrev entry_at : Text → Tree → Option (Text × Tree)
entry_at url t = Some (url, t)

found_at : (u : Text) (n : ℕ) (es : ByUrl) (t : Tree) (k : ℕ) → lookup (bytes_eq u) es ≡ Some t → position_from (bytes_eq u) n (keys_of es) ≡ Some k
    → FoundAt n es t k
found_at u n [] t k e f = cc
found_at u n (x ∷ es) t k e f = go (bytes_eq u x.0) (found_at u (n + 1) es t k) e f
  where
    go : (b : Bool) → (lookup (bytes_eq u) es ≡ Some t → position_from (bytes_eq u) (n + 1) (keys_of es) ≡ Some k → FoundAt (n + 1) es t k)
        → cond b (Some x.1) (lookup (bytes_eq u) es) ≡ Some t
        → cond b (Some n) (position_from (bytes_eq u) (n + 1) (keys_of es)) ≡ Some k → FoundAt n (x ∷ es) t k
    go true so g h =
        let same : x.1 ≡ t = cc in
        let here : n ≡ k = cc in
        (0, omega arith, (x.0, ap (entry_at x.0) same))
    go false so g h =
        let r = so g h in
        let there : k ≡ n + suc r.0 = omega (arith, r.1) in
        (suc r.0, there, r.2)

slice_get-map : {A B : Type 0} (f : A → B) (xs : List A) (i : ℕ) → slice_get (map f xs) i ≡ option_map f (slice_get xs i)
slice_get-map f [] i = refl
slice_get-map f (x ∷ xs) zero = refl
slice_get-map f (x ∷ xs) (suc i) = slice_get-map f xs i

module _ (old : Definitions) (place : ℕ) where
  set_at : (t : Tree) → FoundAt 0 old.value_sets t place → (expansion_of old t).concepts ≡ concepts_at old place
  set_at t f =
      let same : f.0 ≡ place = omega (arith, f.1) in
      let there : slice_get old.value_sets place ≡ Some (f.2.0, t) = subst (λ k. slice_get old.value_sets k ≡ Some (f.2.0, t)) same f.2.1 in
      let made : Text × Tree → Text × Expansion = λ e. (e.0, expansion_of old e.1) in
      let one : slice_get (expansions_of old) place ≡ Some (f.2.0, expansion_of old t) =
      slice_get-map made old.value_sets place ∙ ap (option_map made) there in
      sym (ap (option_and_then (λ (e : Text × Expansion). e.1.concepts)) one)

  module _ (r : CanonicalParts) where
    if_version : (t : Tree) → lookup (bytes_eq r.0) old.value_sets ≡ Some t → (b : Bool)
        → option_and_then (λ (t : Tree). place_in ValueSet r.0 old) (if b then Some t else None) ≡ Some place
        → (if b then (expansion_of old t).concepts else None) ≡ concepts_at old place
    if_version t e false h = cc
    if_version t e true h = set_at t (found_at r.0 0 old.value_sets t place e h)

    if_there : (o : Option Tree) → lookup (bytes_eq r.0) old.value_sets ≡ o
        → option_and_then (λ (t : Tree). place_in ValueSet r.0 old) (option_and_then (canonicals.where_version r.1) o) ≡ Some place
        → option_and_then (where_version r.1) (option_map (expansion_of old) o) ≡ concepts_at old place
    if_there None e h = cc
    if_there (Some t) e h = if_version t e (option_map_or (λ v. canonicals.is_of_version v t) r.1 true) h

  if_read : (o : Option CanonicalParts)
      → option_and_then (λ (t : Tree). option_and_then (λ (r : CanonicalParts). place_in ValueSet r.0 old) o)
      (option_and_then (canonicals.at_version ValueSet old) o) ≡ Some place
      → option_and_then (at_version (expansions_of old)) o ≡ concepts_at old place
  if_read None h = cc
  if_read (Some r) h =
      ap (option_and_then (where_version r.1)) (lookup-map_values (expansion_of old) (bytes_eq r.0) old.value_sets)
      ∙ if_there r (lookup (bytes_eq r.0) old.value_sets) refl h

-- a canonical has the concepts of the value set that it names
pub concepts_named : (old : Definitions) (place : ℕ) (canonical : Text) → place_named ValueSet old canonical ≡ Some place
    → concepts_in (expansions_of old) canonical ≡ concepts_at old place
concepts_named old place canonical h = if_read old place (result_ok (read_canonical canonical)) h

-- ---- which canonical is put at which place

set_get : (names : List (Option Text)) (p : ℕ) (y : Option Text) (place : ℕ) (o : Option Text) → slice_get (set names p y) place ≡ Some o
    → ((p ≡ place) × (o ≡ y)) ⊎ ((p ≡ place → ⊥) × (slice_get names place ≡ Some o))
set_get [] p y place o h = cc
set_get (z ∷ names) zero y zero o h = let same : o ≡ y = cc in inl (refl, same)
set_get (z ∷ names) zero y (suc q) o h = inr ((λ e. let wrong : ⊥ = omega (arith, e) in wrong), h)
set_get (z ∷ names) (suc p) y zero o h = inr ((λ e. let wrong : ⊥ = omega (arith, e) in wrong), h)
set_get (z ∷ names) (suc p) y (suc q) o h =
    elim (set_get names p y q o h) [
      | inl e ↦ inl (ap suc e.0, e.1)
      | inr e ↦ inr ((λ f. let same : p ≡ q = omega (arith, f) in e.0 same), e.1)
    ]

module _ (old : Definitions) (place : ℕ) where
  -- nothing stands there: the canonical names another one
  skipped : (x : Text) (names : List (Option Text)) (named : Option ℕ)
      → slice_get (option_map_or (λ p. set names p (Some x)) named names) place ≡ Some None
      → (slice_get names place ≡ Some None) × (option_map_or (nat_eq place) named false ≡ false)
  skipped x names None h = (h, refl)
  skipped x names (Some p) h =
      elim (set_get names p (Some x) place None h) [
        | inl e ↦ let wrong : ⊥ = cc in absurd wrong
        | inr e ↦ (e.1, apart p e.0)
      ]
    where
      apart : (p : ℕ) → (p ≡ place → ⊥) → nat_eq place p ≡ false
      apart p h = go (nat_eq place p) refl
        where
          go : (b : Bool) → nat_eq place p ≡ b → b ≡ false
          go true e = absurd (h (grind (arith, nat_tests)))
          go false e = refl

  pub none_names : (cs : List Text) (names : List (Option Text)) → slice_get (name_all old cs names) place ≡ Some None
      → (slice_get names place ≡ Some None) × (list_any (names_set old place) cs ≡ false)
  none_names [] names h = (h, refl)
  none_names (x ∷ cs) names h =
      let r = none_names cs (name_set old x names) h in
      let s = skipped x names (place_named ValueSet old x) r.0 in
      (s.0, ap (λ b. b || list_any (names_set old place) cs) s.1 ∙ r.1)

  -- one stands there: it names that one
  put_or_was : (x : Text) (names : List (Option Text)) (c : Text) (named : Option ℕ)
      → slice_get (option_map_or (λ p. set names p (Some x)) named names) place ≡ Some (Some c)
      → (slice_get names place ≡ Some (Some c)) ⊎ ((c ≡ x) × (named ≡ Some place))
  put_or_was x names c None h = inl h
  put_or_was x names c (Some p) h =
      elim (set_get names p (Some x) place (Some c) h) [
        | inl e ↦ let same : c ≡ x = cc in inr (same, ap Some e.0)
        | inr e ↦ inl e.1
      ]

  abbrev IsNamed : List Text → Text → Type 0
  IsNamed cs c = (place_named ValueSet old c ≡ Some place) × (list_any (names_set old place) cs ≡ true)

  names_itself : nat_eq place place ≡ true
  names_itself = grind (arith, nat_tests)

  some_named : (cs : List Text) (names : List (Option Text)) (c : Text) → slice_get (name_all old cs names) place ≡ Some (Some c)
      → (slice_get names place ≡ Some (Some c)) ⊎ IsNamed cs c
  some_named [] names c h = inl h
  some_named (x ∷ cs) names c h =
      elim (some_named cs (name_set old x names) c h) [
        | inl was ↦ elim (put_or_was x names c (place_named ValueSet old x) was) [
          | inl before ↦ inl before
          | inr e ↦
              let names_it : names_set old place x ≡ true = ap (λ o. option_map_or (nat_eq place) o false) e.1 ∙ names_itself in
              inr (ap (place_named ValueSet old) e.0 ∙ e.1, ap (λ b. b || list_any (names_set old place) cs) names_it)
        ]
        | inr e ↦ inr (e.0, more (names_set old place x) (list_any (names_set old place) cs) e.1)
      ]
    where
      more : (a b : Bool) → b ≡ true → (a || b) ≡ true
      more true b e = refl
      more false b e = e

  none_first : (n : ℕ) (k : ℕ) (c : Text) → slice_get (replicate n None) k ≡ Some (Some c) → ⊥
  none_first zero k c h = cc
  none_first (suc n) zero c h = cc
  none_first (suc n) (suc k) c h = none_first n k c h

  pub some_names : (n : ℕ) (cs : List Text) (c : Text) → slice_get (name_all old cs (replicate n None)) place ≡ Some (Some c)
      → (place_named ValueSet old c ≡ Some place) × (list_any (names_set old place) cs ≡ true)
  some_names n cs c h =
      elim (some_named cs (replicate n None) c h) [
        | inl was ↦ absurd (none_first n place c was)
        | inr e ↦ e
      ]
