-- A tree put behind others under a url that none of them has.
use Rattle.std.proofs.Common.{◌≡◌, ℕ, zero, suc, ◌<◌, Bool, true, false, cond, List, [], ◌∷◌, ◌++◌, length, Option, None, Some, refl, sym, ap, ◌∙◌, ◌⊎◌, inl}
use Rattle.std.proofs.Common.{inr, arith}
use Rattle.std.specs.Prelude.{Contains, slice_index_or, is_some}
use Rattle.std.specs.List.{IsDistinct}
use Rattle.std.specs.Str.{bytes_eq}
use Rattle.std.specs.Map.{keys_of, lookup}
use Rattle.std.proofs.lemmas.Cmp.{nat_list_eq_equiv}
use Rattle.std.proofs.lemmas.Slice.Eq.{bytes_eq-Decides}
use Rattle.std.proofs.lemmas.Map.Keys.{IsDistinct-push}
use Rattle.std.proofs.lemmas.Map.Made.{is_some-lookup}
use Rattle.fhir_json.specs.Tree.{Text, Tree}
use Rattle.fhir_package.specs.Definitions.{ByUrl}

-- ---- what a list contains

module _ {X : Type 0} where
  pub contains_none : (y : X) → Contains [] y → ⊥
  contains_none y c = absurd (omega (arith, c.1))

  pub contains_cases : (x : X) (xs : List X) (y : X) → Contains (x ∷ xs) y → (x ≡ y) ⊎ Contains xs y
  contains_cases x xs y c = at c.0 c.1 c.2
    where
      at : (k : ℕ) → k < length (x ∷ xs) → slice_index_or (x ∷ xs) k y ≡ y → (x ≡ y) ⊎ Contains xs y
      at zero l e = inl e
      at (suc k) l e = inr (k, omega arith, e)

  pub contains_first : (x : X) (xs : List X) (y : X) → x ≡ y → Contains (x ∷ xs) y
  contains_first x xs y e = (0, omega arith, e)

  pub contains_later : (x : X) (xs : List X) (y : X) → Contains xs y → Contains (x ∷ xs) y
  contains_later x xs y c = (suc c.0, omega (arith, c.1), c.2)

-- ---- look-ups

same_text : (x : Text) → bytes_eq x x ≡ true
same_text x = (bytes_eq-Decides x x).1 refl

none_some : (s : Tree) → (let r : Option Tree = None in r ≡ Some s) → ⊥
none_some s e = cc

pub lookup_kept : (u : Text) (s : Tree) (es fs : ByUrl) → lookup (bytes_eq u) es ≡ Some s → lookup (bytes_eq u) (es ++ fs) ≡ Some s
lookup_kept u s [] fs h = absurd (none_some s h)
lookup_kept u s (e ∷ es) fs h = by (bytes_eq u e.0) (lookup_kept u s es fs) h
  where
    by : (b : Bool) → (lookup (bytes_eq u) es ≡ Some s → lookup (bytes_eq u) (es ++ fs) ≡ Some s)
        → cond b (Some e.1) (lookup (bytes_eq u) es) ≡ Some s → cond b (Some e.1) (lookup (bytes_eq u) (es ++ fs)) ≡ Some s
    by true rest h = h
    by false rest h = rest h

pub lookup_new : (url : Text) (t : Tree) (es : ByUrl) → lookup (bytes_eq url) es ≡ None → lookup (bytes_eq url) (es ++ (url, t) ∷ []) ≡ Some t
lookup_new url t [] h = rw (same_text url) refl
lookup_new url t (e ∷ es) h = by (bytes_eq url e.0) (lookup_new url t es) h
  where
    by : (b : Bool) → (lookup (bytes_eq url) es ≡ None → lookup (bytes_eq url) (es ++ (url, t) ∷ []) ≡ Some t)
        → cond b (Some e.1) (lookup (bytes_eq url) es) ≡ None → cond b (Some e.1) (lookup (bytes_eq url) (es ++ (url, t) ∷ [])) ≡ Some t
    by true rest h = absurd (none_some e.1 (sym h))
    by false rest h = rest h

inside : (t s : Tree) → Some t ≡ Some s → t ≡ s
inside t s e = cc

pub lookup_behind : (u : Text) (s : Tree) (url : Text) (t : Tree) (es : ByUrl) → lookup (bytes_eq u) (es ++ (url, t) ∷ []) ≡ Some s
    → (lookup (bytes_eq u) es ≡ Some s) ⊎ ((url ≡ u) × (t ≡ s))
lookup_behind u s url t [] h = by (bytes_eq u url) refl h
  where
    by : (b : Bool) → bytes_eq u url ≡ b → cond b (Some t) None ≡ Some s → ((let r : Option Tree = None in r ≡ Some s) ⊎ ((url ≡ u) × (t ≡ s)))
    by true is h = inr (sym ((bytes_eq-Decides u url).0 is), inside t s h)
    by false isnt h = inl h
lookup_behind u s url t (e ∷ es) h = by (bytes_eq u e.0) (lookup_behind u s url t es) h
  where
    by : (b : Bool) → (lookup (bytes_eq u) (es ++ (url, t) ∷ []) ≡ Some s → (lookup (bytes_eq u) es ≡ Some s) ⊎ ((url ≡ u) × (t ≡ s)))
        → cond b (Some e.1) (lookup (bytes_eq u) (es ++ (url, t) ∷ [])) ≡ Some s
        → (cond b (Some e.1) (lookup (bytes_eq u) es) ≡ Some s) ⊎ ((url ≡ u) × (t ≡ s))
    by true rest h = inl h
    by false rest h = rest h

-- ---- urls

keys-behind : (url : Text) (t : Tree) (es : ByUrl) → keys_of (es ++ (url, t) ∷ []) ≡ keys_of es ++ url ∷ []
keys-behind url t [] = refl
keys-behind url t (e ∷ es) = ap (λ (us : List Text). e.0 ∷ us) (keys-behind url t es)

pub distinct_behind : (url : Text) (t : Tree) (es : ByUrl) → IsDistinct bytes_eq (keys_of es) → lookup (bytes_eq url) es ≡ None
    → IsDistinct bytes_eq (keys_of (es ++ (url, t) ∷ []))
distinct_behind url t es h none =
    rw (keys-behind url t es) (IsDistinct-push nat_list_eq_equiv (keys_of es) url h (sym (is_some-lookup (bytes_eq url) es) ∙ ap is_some none))

pub none_distinct : IsDistinct bytes_eq []
unfolding IsDistinct
none_distinct = tt
