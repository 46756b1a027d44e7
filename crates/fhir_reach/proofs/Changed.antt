-- Keys that a change touches, one definition more at a time.
use Rattle.std.proofs.Common.{◌≡◌, ◌<◌, ℕ, suc, ◌+◌, Bool, true, false, cond, Option, Some, None, List, [], ◌∷◌, ◌++◌, drop, get_or, length, take, filter, Result, OnOk, refl, sym, ap, ◌∙◌, subst, add-one, append_assoc}
use Rattle.std.specs.List.{slice_get, flat_map}
use Rattle.std.specs.Option.{option_map_or}
use Rattle.std.specs.Map.{lookup}
use Rattle.std.specs.Str.{bytes_eq}
use Rattle.std.proofs.Math.Seq.{drop-cons}
use Rattle.std.proofs.lemmas.List.{append-nil}
use Rattle.fhir_json.specs.Tree.{Text, Tree}
use Rattle.fhir_package.specs.declared.kind.Kind.{Kind}
use Rattle.fhir_package.specs.Definitions.{ByUrl}
use Rattle.fhir_inheritance.proofs.Sourced.{take-some, take-none}
use Rattle.fhir_reach.specs.Keys.{KeyValue}
use Rattle.fhir_reach.specs.Reach.{keys_of}

-- two lists behind others, one after the other
pub both_behind : {A E : Type 0} (r : Result A E) (old first new xs ys : List KeyValue) → first ≡ old ++ xs → OnOk r (new ≡ first ++ ys) → OnOk r (new ≡ old ++ (xs ++ ys))
both_behind r old first new xs ys e h =
    subst (λ (l : List KeyValue). OnOk r (new ≡ l)) (ap (λ (f : List KeyValue). f ++ ys) e ∙ append_assoc old xs ys) h

-- what is behind, once that of one more is added
pub next_behind : {A : Type 0} (f : A → List KeyValue) (xs : List A) (i : ℕ) (x : A) (found new all : List KeyValue) → i < length xs → x ≡ get_or xs i x
    → new ≡ found ++ f x → found ++ flat_map f (drop i xs) ≡ all → new ++ flat_map f (drop (i + 1) xs) ≡ all
next_behind {A} f xs i x found new all h is e before =
    let here : drop i xs ≡ x ∷ drop (suc i) xs = drop-cons xs i x h ∙ ap (λ (y : A). y ∷ drop (suc i) xs) (sym is) in
    let more : new ++ flat_map f (drop (suc i) xs) ≡ all =
    ap (λ (l : List KeyValue). l ++ flat_map f (drop (suc i) xs)) e
    ∙ append_assoc found (f x) (flat_map f (drop (suc i) xs))
    ∙ ap (λ (ys : List A). found ++ flat_map f ys) (sym here)
    ∙ before in
    rw add-one more

-- ---- definitions at a url

module _ (kind : Kind) (url : Text) where
  abbrev at_entry : Text × Tree → List KeyValue
  at_entry e = cond (bytes_eq url e.0) (keys_of kind e.0 e.1) []

  abbrev pub at_all : ByUrl → List KeyValue
  at_all es = flat_map (λ e. keys_of kind e.0 e.1) (filter (λ e. bytes_eq url e.0) es)

  at_snoc : (es : ByUrl) (e : Text × Tree) → at_all (es ++ e ∷ []) ≡ at_all es ++ at_entry e
  at_snoc [] e = by (bytes_eq url e.0)
    where
      by : (b : Bool) → flat_map (λ e. keys_of kind e.0 e.1) (cond b (e ∷ []) []) ≡ cond b (keys_of kind e.0 e.1) []
      by true = append-nil (keys_of kind e.0 e.1)
      by false = refl
  at_snoc (x ∷ es) e = by (bytes_eq url x.0) (at_snoc es e)
    where
      by : (b : Bool) → at_all (es ++ e ∷ []) ≡ at_all es ++ at_entry e
          → flat_map (λ e. keys_of kind e.0 e.1) (cond b (x ∷ filter (λ e. bytes_eq url e.0) (es ++ e ∷ [])) (filter (λ e. bytes_eq url e.0) (es ++ e ∷ [])))
          ≡ flat_map (λ e. keys_of kind e.0 e.1) (cond b (x ∷ filter (λ e. bytes_eq url e.0) es) (filter (λ e. bytes_eq url e.0) es)) ++ at_entry e
      by true rest = ap (λ (l : List KeyValue). keys_of kind x.0 x.1 ++ l) rest ∙ sym (append_assoc (keys_of kind x.0 x.1) (at_all es) (at_entry e))
      by false rest = rest

  pub next_at : (es : ByUrl) (k : ℕ) (old found new : List KeyValue) → new ≡ found ++ option_map_or at_entry (slice_get es k) []
      → found ≡ old ++ at_all (take k es) → new ≡ old ++ at_all (take (k + 1) es)
  next_at es k old found new is before = by (slice_get es k) refl is
    where
      by : (o : Option (Text × Tree)) → slice_get es k ≡ o → new ≡ found ++ option_map_or at_entry o [] → new ≡ old ++ at_all (take (k + 1) es)
      by None none is = is ∙ append-nil found ∙ before ∙ ap (λ (l : ByUrl). old ++ at_all l) (sym (take-none es k none))
      by (Some e) some is =
          is
          ∙ ap (λ (l : List KeyValue). l ++ at_entry e) before
          ∙ append_assoc old (at_all (take k es)) (at_entry e)
          ∙ ap (λ (l : List KeyValue). old ++ l) (sym (at_snoc (take k es) e))
          ∙ ap (λ (l : ByUrl). old ++ at_all l) (sym (take-some es k e some))

  pub none_at : (es : ByUrl) → lookup (bytes_eq url) es ≡ None → at_all es ≡ []
  none_at [] none = refl
  none_at (e ∷ es) none = by (bytes_eq url e.0) none (none_at es)
    where
      by : (b : Bool) → cond b (Some e.1) (lookup (bytes_eq url) es) ≡ None → (lookup (bytes_eq url) es ≡ None → at_all es ≡ [])
          → flat_map (λ e. keys_of kind e.0 e.1) (cond b (e ∷ filter (λ e. bytes_eq url e.0) es) (filter (λ e. bytes_eq url e.0) es)) ≡ []
      by true none rest = cc
      by false none rest = rest none
