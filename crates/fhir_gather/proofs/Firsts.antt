-- The place of the first definition of a kind and url.
use Rattle.std.proofs.Common.{◌≡◌, ℕ, ◌+◌, Result, Ok, Err, Bool, true, false, cond, ◌&&◌, List, [], ◌∷◌, ◌++◌, length, Option, None, Some, refl, sym, ap, ◌∙◌, add-one, arith}
use Rattle.std.specs.Prelude.{find, slice_get, OnOk, is_err}
use Rattle.std.specs.Option.{option_map, option_and_then, option_or}
use Rattle.std.specs.List.{position_from}
use Rattle.std.specs.Str.{bytes_eq}
use Rattle.std.proofs.lemmas.Slice.Eq.{bytes_eq-Decides}
use Rattle.fhir_json.specs.Tree.{Text}
use Rattle.fhir_package.specs.declared.kind.Kind.{Kind}
use Rattle.fhir_package.specs.declared.kind.Kind.TheVariants.{StructureDefinition, ValueSet, CodeSystem}
use Rattle.fhir_package.specs.Changing.{is_same_kind}
use Rattle.fhir_gather.specs.Gathering.{Taken, is_of}
use Rattle.fhir_gather.specs.Places.{PlacesByKind, place_at, PutsAt, AreFirst}

-- ---- places in a list

module _ {X : Type 0} (p : X → Bool) where
  -- places that are counted from one more
  shifted : (i : ℕ) (xs : List X) → position_from p (i + 1) xs ≡ option_map (λ k. k + 1) (position_from p i xs)
  shifted i [] = refl
  shifted i (x ∷ xs) =
      let rest = shifted (i + 1) xs in
      elim (p x) as
      (λ b. cond b (Some (i + 1)) (position_from p (i + 1 + 1) xs) ≡ option_map (λ k. k + 1) (cond b (Some i) (position_from p (i + 1) xs)))
      [ true ↦ refl | false ↦ rest ]

  behind : (x : X) (xs : List X) (place : Option ℕ)
      → option_and_then (slice_get (x ∷ xs)) (option_map (λ k. k + 1) place) ≡ option_and_then (slice_get xs) place
  behind x xs None = refl
  behind x xs (Some k) = ap (slice_get (x ∷ xs)) (add-one k)

  -- what stands at the first place is what is found
  pub found_at : (xs : List X) → option_and_then (slice_get xs) (position_from p 0 xs) ≡ find p xs
  found_at [] = refl
  found_at (x ∷ xs) =
      let rest : option_and_then (slice_get (x ∷ xs)) (position_from p (0 + 1) xs) ≡ find p xs =
      ap (option_and_then (slice_get (x ∷ xs))) (shifted 0 xs) ∙ behind x xs (position_from p 0 xs) ∙ found_at xs in
      elim (p x) as (λ b. option_and_then (slice_get (x ∷ xs)) (cond b (Some 0) (position_from p (0 + 1) xs)) ≡ cond b (Some x) (find p xs))
      [ true ↦ refl | false ↦ rest ]

  none_first : (i : ℕ) (xs : List X) → find p xs ≡ None → position_from p i xs ≡ None
  none_first i [] h = refl
  none_first i (x ∷ xs) h = by (p x) (none_first (i + 1) xs) h
    where
      by : (b : Bool) → (find p xs ≡ None → position_from p (i + 1) xs ≡ None) → cond b (Some x) (find p xs) ≡ None
          → cond b (Some i) (position_from p (i + 1) xs) ≡ None
      by true rest h = absurd cc
      by false rest h = rest h

  first_behind : (i : ℕ) (xs : List X) (x : X)
      → position_from p i (xs ++ x ∷ []) ≡ option_or (position_from p i xs) (cond (p x) (Some (i + length xs)) None)
  first_behind i [] x = ap (λ (n : ℕ). cond (p x) (Some n) None) (omega arith)
  first_behind i (y ∷ ys) x = by (p y) (first_behind (i + 1) ys x)
    where
      same : i + 1 + length ys ≡ i + length (y ∷ ys)
      same = omega arith

      by : (b : Bool) → position_from p (i + 1) (ys ++ x ∷ []) ≡ option_or (position_from p (i + 1) ys) (cond (p x) (Some (i + 1 + length ys)) None)
          → cond b (Some i) (position_from p (i + 1) (ys ++ x ∷ []))
          ≡ option_or (cond b (Some i) (position_from p (i + 1) ys)) (cond (p x) (Some (i + length (y ∷ ys))) None)
      by true rest = refl
      by false rest = rest ∙ ap (λ (n : ℕ). option_or (position_from p (i + 1) ys) (cond (p x) (Some n) None)) same

-- ---- kinds and urls

pub same_kind : (k j : Kind) → is_same_kind k j ≡ true → k ≡ j
same_kind StructureDefinition StructureDefinition h = refl
same_kind StructureDefinition ValueSet h = absurd cc
same_kind StructureDefinition CodeSystem h = absurd cc
same_kind ValueSet StructureDefinition h = absurd cc
same_kind ValueSet ValueSet h = refl
same_kind ValueSet CodeSystem h = absurd cc
same_kind CodeSystem StructureDefinition h = absurd cc
same_kind CodeSystem ValueSet h = absurd cc
same_kind CodeSystem CodeSystem h = refl

both_true : (a b : Bool) → (a && b) ≡ true → (a ≡ true) × (b ≡ true)
both_true true b h = (refl, h)
both_true false b h = absurd cc

-- what is of a kind and url has that kind and that url
pub its_kind : (kind : Kind) (url : Text) (t : Taken) → is_of kind url t ≡ true → (kind ≡ t.definition.kind) × (url ≡ t.definition.url)
its_kind kind url t h =
    let both = both_true (is_same_kind kind t.definition.kind) (bytes_eq url t.definition.url) h in
    (same_kind kind t.definition.kind both.0, (bytes_eq-Decides url t.definition.url).0 both.1)

-- ---- the list that is kept

pub found_first : (places : PlacesByKind) (ts all : List Taken) (kind : Kind) (url : Text) (place : Option ℕ) → AreFirst places ts → ts ≡ all
    → place ≡ place_at kind url places → option_and_then (slice_get ts) place ≡ find (is_of kind url) all
found_first places ts all kind url place first same is =
    ap (option_and_then (slice_get ts)) (is ∙ first kind url) ∙ found_at (is_of kind url) ts ∙ ap (λ (us : List Taken). find (is_of kind url) us) same

pub one_more : (old new : PlacesByKind) (ts us all : List Taken) (t : Taken) (kind : Kind) (url : Text) (place : ℕ) → AreFirst old ts → ts ≡ all → us ≡ ts ++ t ∷ []
    → place ≡ length ts → kind ≡ t.definition.kind → url ≡ t.definition.url → find (is_of t.definition.kind t.definition.url) all ≡ None
    → PutsAt old new kind url place → AreFirst new us
one_more old new ts us all t kind url place first same is last its_kind_is its_url_is none puts = λ k u.
    here k u ∙ by k u (is_of k u t) refl
    ∙ sym (first_behind (is_of k u) 0 ts t) ∙ ap (λ (vs : List Taken). position_from (is_of k u) 0 vs) (sym is)
  where
    here : (k : Kind) (u : Text) → place_at k u new ≡ cond (is_of k u t) (Some place) (place_at k u old)
    here k u = puts k u ∙ ap (λ (j : Kind). cond (is_same_kind k j && bytes_eq u url) (Some place) (place_at k u old)) its_kind_is
        ∙ ap (λ (v : Text). cond (is_same_kind k t.definition.kind && bytes_eq u v) (Some place) (place_at k u old)) its_url_is

    at_end : Some place ≡ Some (0 + length ts)
    at_end = ap Some (last ∙ omega arith)

    none_there : find (is_of t.definition.kind t.definition.url) ts ≡ None
    none_there = ap (λ (vs : List Taken). find (is_of t.definition.kind t.definition.url) vs) same ∙ none

    no_first : (k : Kind) (u : Text) → k ≡ t.definition.kind → u ≡ t.definition.url → position_from (is_of k u) 0 ts ≡ None
    no_first k u e f =
        ap (λ (j : Kind). position_from (is_of j u) 0 ts) e ∙ ap (λ (v : Text). position_from (is_of t.definition.kind v) 0 ts) f
        ∙ none_first (is_of t.definition.kind t.definition.url) 0 ts none_there

    or_none : (o : Option ℕ) → o ≡ option_or o None
    or_none None = refl
    or_none (Some k) = refl

    by : (k : Kind) (u : Text) (b : Bool) → is_of k u t ≡ b
        → cond b (Some place) (place_at k u old) ≡ option_or (position_from (is_of k u) 0 ts) (cond b (Some (0 + length ts)) None)
    by k u true is_it =
        let it = its_kind k u t is_it in at_end ∙ sym (ap (λ (o : Option ℕ). option_or o (Some (0 + length ts))) (no_first k u it.0 it.1))
    by k u false isnt = first k u ∙ or_none (position_from (is_of k u) 0 ts)

-- what a call that went well says
pub when_well : {X E : Type 0} (r : Result X E) (P : Type 0) → OnOk r P → is_err r ≡ false → P
when_well (Ok x) P h well = h
when_well (Err e) P h well = absurd cc
