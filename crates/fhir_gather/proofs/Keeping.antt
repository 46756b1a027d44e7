-- Which definitions are kept, and which are dropped.
use Rattle.std.proofs.Common.{◌≡◌, ◌⊎◌, inl, inr, ℕ, ◌+◌, Bool, true, false, cond, ◌||◌, List, [], ◌∷◌, ◌++◌, length, Option, None, Some, refl, sym, ap, subst, ◌∙◌, arith}
use Rattle.std.proofs.Common.{append_assoc, append-nil, length-append}
use Rattle.std.specs.Prelude.{find, is_some, Contains}
use Rattle.std.specs.Option.{option_or}
use Rattle.std.specs.List.{list_any}
use Rattle.std.proofs.lemmas.List.Folds.{find-append}
use Rattle.std.proofs.lemmas.List.Elements.{Contains-append_left, Contains-push, Contains-push_cases, Contains-append_right}
use Rattle.fhir_json.specs.Tree.{Text}
use Rattle.fhir_package.specs.declared.kind.Kind.{Kind}
use Rattle.fhir_package.specs.Changing.{is_same}
use Rattle.fhir_gather.specs.Gathering.{Taken, Dropped, dropped_for, is_of, is_among, Gathered, gather_behind, gather_one, gather_each, gathered, kept, dropped, nothing_gathered}
use Rattle.fhir_gather.specs.Found.{IsDropped}
use Rattle.fhir_gather.proofs.Firsts.{its_kind}

-- ---- what is found among them

abbrev found : Kind → Text → List Taken → Option Taken
found kind url ts = find (is_of kind url) ts

-- the one of its kind and url that is kept
abbrev like : Taken → Gathered → Option Taken
like t g = found t.definition.kind t.definition.url g.kept

or_none : {X : Type 0} (o : Option X) → o ≡ option_or o None
or_none None = refl
or_none (Some x) = refl

or_or : {X : Type 0} (o : Option X) (b : Bool) (x : X) (rest : Option X) → option_or (option_or o (cond b (Some x) None)) rest ≡ option_or o (cond b (Some x) rest)
or_or None true x rest = refl
or_or None false x rest = refl
or_or (Some y) true x rest = refl
or_or (Some y) false x rest = refl

found_one : (kind : Kind) (url : Text) (t : Taken) (g : Gathered)
    → found kind url (gather_one t g).kept ≡ option_or (found kind url g.kept) (cond (is_of kind url t) (Some t) None)
found_one kind url t g = by (like t g) refl
  where
    same : (first : Taken) → like t g ≡ Some first → (b : Bool) → is_of kind url t ≡ b
        → found kind url g.kept ≡ option_or (found kind url g.kept) (cond b (Some t) None)
    same first is true it =
        let its = its_kind kind url t it in
        let here : found kind url g.kept ≡ Some first =
        ap (λ (k : Kind). found k url g.kept) its.0 ∙ ap (λ (u : Text). found t.definition.kind u g.kept) its.1 ∙ is in
        here ∙ sym (ap (λ (o : Option Taken). option_or o (Some t)) here)
    same first is false it = or_none (found kind url g.kept)

    by : (first : Option Taken) → like t g ≡ first
        → found kind url (gather_behind first t g).kept ≡ option_or (found kind url g.kept) (cond (is_of kind url t) (Some t) None)
    by None is = find-append (is_of kind url) g.kept (t ∷ [])
    by (Some first) is = same first is (is_of kind url t) refl

found_each : (kind : Kind) (url : Text) (ts : List Taken) (g : Gathered)
    → found kind url (gather_each ts g).kept ≡ option_or (found kind url g.kept) (found kind url ts)
found_each kind url [] g = or_none (found kind url g.kept)
found_each kind url (t ∷ ts) g =
    found_each kind url ts (gather_one t g) ∙ ap (λ (o : Option Taken). option_or o (found kind url ts)) (found_one kind url t g)
    ∙ or_or (found kind url g.kept) (is_of kind url t) t (found kind url ts)

-- the first of a kind and url among those that are kept is the first of all
pub found_kept : (kind : Kind) (url : Text) (ts : List Taken) → find (is_of kind url) (kept ts) ≡ find (is_of kind url) ts
found_kept kind url ts = found_each kind url ts nothing_gathered

-- ---- one more

pub each-behind : (ts us : List Taken) (g : Gathered) → gather_each (ts ++ us) g ≡ gather_each us (gather_each ts g)
each-behind [] us g = refl
each-behind (t ∷ ts) us g = each-behind ts us (gather_one t g)

any_found : {X : Type 0} (p : X → Bool) (xs : List X) → list_any p xs ≡ is_some (find p xs)
any_found p [] = refl
any_found p (x ∷ xs) = elim (p x) as (λ b. (b || list_any p xs) ≡ is_some (cond b (Some x) (find p xs))) [ true ↦ refl | false ↦ any_found p xs ]

pub one_more_kept : (ts : List Taken) (t : Taken) → kept (ts ++ t ∷ []) ≡ cond (is_among ts t) (kept ts) (kept ts ++ t ∷ [])
one_more_kept ts t =
    ap (λ (g : Gathered). g.kept) (each-behind ts (t ∷ []) nothing_gathered) ∙ by (like t (gathered ts)) refl
    ∙ ap (λ (b : Bool). cond b (kept ts) (kept ts ++ t ∷ []))
    (ap is_some (found_kept t.definition.kind t.definition.url ts) ∙ sym (any_found (is_of t.definition.kind t.definition.url) ts))
  where
    by : (first : Option Taken) → like t (gathered ts) ≡ first
        → (gather_behind first t (gathered ts)).kept ≡ cond (is_some (like t (gathered ts))) (kept ts) (kept ts ++ t ∷ [])
    by None is = sym (ap (λ (o : Option Taken). cond (is_some o) (kept ts) (kept ts ++ t ∷ [])) is)
    by (Some first) is = sym (ap (λ (o : Option Taken). cond (is_some o) (kept ts) (kept ts ++ t ∷ [])) is)

-- ---- each is kept or dropped

abbrev size : Gathered → ℕ
size g = length g.kept + length g.dropped

size_one : (first : Option Taken) (t : Taken) (g : Gathered) → size (gather_behind first t g) ≡ size g + 1
size_one None t g = omega (arith, length-append g.kept (t ∷ []))
size_one (Some first) t g = omega (arith, length-append g.dropped (dropped_for first t ∷ []))

size_each : (ts : List Taken) (g : Gathered) → size (gather_each ts g) ≡ size g + length ts
size_each [] g = omega arith
size_each (t ∷ ts) g = omega (arith, size_each ts (gather_one t g), size_one (like t g) t g)

pub counts : (ts : List Taken) → length (kept ts) + length (dropped ts) ≡ length ts
counts ts = omega (arith, size_each ts nothing_gathered)

-- what is known of the first so many that were gathered
record Holds (ts : List Taken) (g : Gathered) : Type 0 where
  taken : (t : Taken) → Contains g.kept t → Contains ts t
  kept_or_dropped : (t : Taken) → Contains ts t
      → Contains g.kept t ⊎ ((first : Taken) × Contains g.kept first × (is_same t.definition first.definition ≡ true) × Contains g.dropped (dropped_for first t))
  told : (d : Dropped) → Contains g.dropped d
      → (first second : Taken) × Contains g.kept first × Contains ts second × (is_same second.definition first.definition ≡ true) × (d ≡ dropped_for first second)

no_item : {X : Type 0} (x : X) → Contains [] x → ⊥
no_item x c = absurd (omega (arith, c.1))

holds_none : Holds [] nothing_gathered
holds_none = record { taken = λ t c. c; kept_or_dropped = λ t c. absurd (no_item t c); told = λ d c. absurd (no_item d c) }

found_passes : {X : Type 0} (p : X → Bool) (xs : List X) (x : X) → find p xs ≡ Some x → Contains xs x × (p x ≡ true)
found_passes p [] x h = absurd cc
found_passes p (y ∷ ys) x h = by (p y) refl (found_passes p ys x) h
  where
    by : (b : Bool) → p y ≡ b → (find p ys ≡ Some x → Contains ys x × (p x ≡ true)) → cond b (Some y) (find p ys) ≡ Some x
        → Contains (y ∷ ys) x × (p x ≡ true)
    by true is rest h =
        let e : y ≡ x = cc in
        ((0, omega arith, e), ap p (sym e) ∙ is)
    by false isnt rest h = let c = rest h in (Contains-append_right (y ∷ []) ys x c.0, c.1)

holds_one : (ts : List Taken) (t : Taken) (g : Gathered) → Holds ts g → Holds (ts ++ t ∷ []) (gather_one t g)
holds_one ts t g h = by (like t g) refl
  where
    by : (first : Option Taken) → like t g ≡ first → Holds (ts ++ t ∷ []) (gather_behind first t g)
    by None is = record {
      taken = λ u c. elim (Contains-push_cases g.kept t u c) [
        | inl old ↦ Contains-append_left ts (t ∷ []) u (h.taken u old)
        | inr new ↦ subst (λ (v : Taken). Contains (ts ++ t ∷ []) v) new (Contains-push ts t)
      ];
      kept_or_dropped = λ u c. elim (Contains-push_cases ts t u c) [
        | inl old ↦ elim (h.kept_or_dropped u old) [
          | inl k ↦ inl (Contains-append_left g.kept (t ∷ []) u k)
          | inr d ↦ inr (d.0, Contains-append_left g.kept (t ∷ []) d.0 d.1, d.2, d.3)
        ]
        | inr new ↦ inl (subst (λ (v : Taken). Contains (g.kept ++ t ∷ []) v) new (Contains-push g.kept t))
      ];
      told = λ d c. let w = h.told d c in (w.0, w.1, Contains-append_left g.kept (t ∷ []) w.0 w.2, Contains-append_left ts (t ∷ []) w.1 w.3, w.4, w.5);
    }
    by (Some first) is =
        let p : Contains g.kept first × (is_same t.definition first.definition ≡ true) = found_passes (is_of t.definition.kind t.definition.url) g.kept first is in
        record {
          taken = λ u c. Contains-append_left ts (t ∷ []) u (h.taken u c);
          kept_or_dropped = λ u c. elim (Contains-push_cases ts t u c) [
            | inl old ↦ elim (h.kept_or_dropped u old) [
              | inl k ↦ inl k
              | inr d ↦ inr (d.0, d.1, d.2, Contains-append_left g.dropped (dropped_for first t ∷ []) (dropped_for d.0 u) d.3)
            ]
            | inr new ↦ inr (
              first,
              p.0,
              ap (λ (v : Taken). is_same v.definition first.definition) (sym new) ∙ p.1,
              subst (λ (v : Taken). Contains (g.dropped ++ dropped_for first t ∷ []) (dropped_for first v)) new (Contains-push g.dropped (dropped_for first t)),
            )
          ];
          told = λ d c. elim (Contains-push_cases g.dropped (dropped_for first t) d c) [
            | inl old ↦ let w = h.told d old in (w.0, w.1, w.2, Contains-append_left ts (t ∷ []) w.1 w.3, w.4, w.5)
            | inr new ↦ (first, t, p.0, Contains-push ts t, p.1, sym new)
          ];
        }

holds_each : (ts us : List Taken) (g : Gathered) → Holds ts g → Holds (ts ++ us) (gather_each us g)
holds_each ts [] g h = subst (λ (vs : List Taken). Holds vs g) (sym (append-nil ts)) h
holds_each ts (u ∷ us) g h =
    subst (λ (vs : List Taken). Holds vs (gather_each us (gather_one u g))) (append_assoc ts (u ∷ []) us)
    (holds_each (ts ++ u ∷ []) us (gather_one u g) (holds_one ts u g h))

holds_all : (ts : List Taken) → Holds ts (gathered ts)
holds_all ts = holds_each [] ts nothing_gathered holds_none

pub only_taken : (ts : List Taken) (t : Taken) → Contains (kept ts) t → Contains ts t
only_taken ts t c = (holds_all ts).taken t c

pub somewhere : (ts : List Taken) (t : Taken) → Contains ts t → Contains (kept ts) t ⊎ ((first : Taken) × IsDropped ts first t)
somewhere ts t c = elim ((holds_all ts).kept_or_dropped t c) [
  | inl k ↦ inl k
  | inr d ↦ inr (d.0, record { is_kept = d.1; is_taken = c; is_same = d.2; told = d.3 })
]

pub told_of : (ts : List Taken) (d : Dropped) → Contains (dropped ts) d → (first second : Taken) × IsDropped ts first second × (d ≡ dropped_for first second)
told_of ts d c =
    let w = (holds_all ts).told d c in
    (w.0, w.1, record { is_kept = w.2; is_taken = w.3; is_same = w.4; told = subst (λ (e : Dropped). Contains (dropped ts) e) w.5 c }, w.5)
