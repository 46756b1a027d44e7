-- A member or a name that is looked for on both sides of a place.
use Rattle.std.proofs.Common.{◌≡◌, ℕ, suc, Bool, true, false, ◌&&◌, ◌||◌, List, [], ◌∷◌, ◌++◌, take, drop, length, get_or, ◌+◌, ◌-◌, ◌<◌, add-one, eqb, refl}
use Rattle.std.proofs.Common.{sym, ap, ◌∙◌, arith, rules}
use Rattle.std.specs.Str.{bytes_eq}
use Rattle.std.specs.Cow.{cow_str_bytes}
use Rattle.std.proofs.lemmas.Bool.{ne_eqb, false≢true}
use Rattle.std.proofs.Math.Seq.{drop-cons, take-suc}
use native.Mathlib.Numerals.{unary_clauses}
use Rattle.std.proofs.lemmas.List.{take-append-drop}
use Rattle.fhir_json.specs.declared.json.Json.{Json}
use Rattle.fhir_json.specs.declared.json.Member.{Member, fold_out-Member}
use Rattle.fhir_json.specs.Tree.{Text, Tree, no_items, names}
use Rattle.fhir_json.specs.Views.{tree_of, property_of, items_view, members_view}
use Rattle.fhir_json.specs.Sound.{is_among}
use Rattle.fhir_matching.specs.Equality.{equal, items_equal, members_within, has_passing}
use Rattle.fhir_matching.specs.Fitting.{pattern_test, some_passing, has_fitting}

or_swap : (a b : Bool) → (a || b) ≡ (b || a)
or_swap true true = refl
or_swap true false = refl
or_swap false true = refl
or_swap false false = refl

or_false : (a : Bool) → (a || false) ≡ a
or_false true = refl
or_false false = refl

or_front : (a b c : Bool) → (a || (b || c)) ≡ (b || (a || c))
or_front true true c = refl
or_front true false c = refl
or_front false b c = refl

or_regroup : (a b c : Bool) → (a || (b || c)) ≡ ((a || b) || c)
or_regroup true b c = refl
or_regroup false b c = refl

pub name_is : (m : Member) → cow_str_bytes m.name ≡ (property_of m).0
name_is m = search (rules, fold_out-Member)

abbrev pub passing : Text → (Tree → Bool) → List Member → Bool
passing name p ms = has_passing name p (members_view ms)

abbrev pub naming : Text → List Member → Bool
naming name ms = is_among name (names (members_view ms))

pub passing_append : (name : Text) (p : Tree → Bool) (xs ys : List Member) → passing name p (xs ++ ys) ≡ (passing name p xs || passing name p ys)
passing_append name p [] ys = refl
passing_append name p (m ∷ xs) ys =
    let here : Bool = bytes_eq name (property_of m).0 && p (property_of m).1 in
    ap (λ (b : Bool). here || b) (passing_append name p xs ys) ∙ or_regroup here (passing name p xs) (passing name p ys)

pub naming_append : (name : Text) (xs ys : List Member) → naming name (xs ++ ys) ≡ (naming name xs || naming name ys)
naming_append name [] ys = refl
naming_append name (m ∷ xs) ys =
    ap (λ (b : Bool). bytes_eq name (property_of m).0 || b) (naming_append name xs ys)
    ∙ or_regroup (bytes_eq name (property_of m).0) (naming name xs) (naming name ys)

-- ---- a member at a place, and those on either side of it

pub naming_before : (name : Text) (ms : List Member) (k : ℕ) (m : Member) → k < length ms → get_or ms k m ≡ m
    → naming name (take (k + 1) ms) ≡ (naming name (take k ms) || bytes_eq name (property_of m).0)
naming_before name ms k m lt is =
    rw (add-one, take-suc ms k m lt, is)
    (naming_append name (take k ms) (m ∷ []) ∙ ap (λ (b : Bool). naming name (take k ms) || b) (or_false (bytes_eq name (property_of m).0)))

-- of three tests, in turn
pub first_true : (whole here others : Bool) → whole ≡ (here || others) → true ≡ here → true ≡ whole
first_true whole here others e h = rw (e, ← h) refl

pub second_true : (whole here front behind r : Bool) → whole ≡ (here || (front || behind)) → false ≡ here → r ≡ front → r ≡ true → r ≡ whole
second_true whole here front behind r e h f t = rw (e, ← h, ← f, t) refl

pub third_left : (whole here front behind r s : Bool) → whole ≡ (here || (front || behind)) → false ≡ here → r ≡ front → r ≡ false → s ≡ behind → s ≡ whole
third_left whole here front behind r s e h f t b = rw (e, ← h, ← f, t, b) refl

pub passing_around : (name : Text) (p : Tree → Bool) (ms : List Member) (k : ℕ) (m : Member) → k < length ms → get_or ms k m ≡ m
    → passing name p ms ≡ ((bytes_eq name (property_of m).0 && p (property_of m).1) || (passing name p (take k ms) || passing name p (drop (k + 1) ms)))
passing_around name p ms k m lt is =
    let here : Bool = bytes_eq name (property_of m).0 && p (property_of m).1 in
    let behind : passing name p (drop k ms) ≡ (here || passing name p (drop (k + 1) ms)) = rw (add-one, drop-cons ms k m lt, is) refl in
    ap (passing name p) (sym (take-append-drop k ms))
    ∙ passing_append name p (take k ms) (drop k ms)
    ∙ ap (λ (b : Bool). passing name p (take k ms) || b) behind
    ∙ or_front (passing name p (take k ms)) here (passing name p (drop (k + 1) ms))

-- ---- both sides of a place

naming_sides : (name : Text) (ms : List Member) (k : ℕ) → naming name ms ≡ (naming name (drop k ms) || naming name (take k ms))
naming_sides name ms k =
    ap (naming name) (sym (take-append-drop k ms))
    ∙ naming_append name (take k ms) (drop k ms)
    ∙ or_swap (naming name (take k ms)) (naming name (drop k ms))

pub naming_found : (name : Text) (ms : List Member) (k : ℕ) → naming name (drop k ms) ≡ true → naming name ms ≡ true
naming_found name ms k h = naming_sides name ms k ∙ ap (λ (b : Bool). b || naming name (take k ms)) h

-- a name is among the members so far from a place, on one side or on the other
abbrev pub outside : Text → List Member → ℕ → ℕ → Bool
outside name ms near k = naming name (drop (near + k) ms) || naming name (take (near - k) ms)

pub outside_none : (name : Text) (ms : List Member) (near : ℕ) → naming name ms ≡ outside name ms near 0
outside_none name ms near = simp unary_clauses (naming_sides name ms near)

-- ---- names

-- where no member has the name, none has it and passes
pub none_passing : (name : Text) (p : Tree → Bool) (ms : List Member) → naming name ms ≡ false → passing name p ms ≡ false
none_passing name p [] h = refl
none_passing name p (m ∷ ms) h =
    elim (bytes_eq name (property_of m).0) as (λ (b : Bool). (b || naming name ms) ≡ false → ((b && p (property_of m).1) || passing name p ms) ≡ false) [
      | true ↦ λ e. absurd (false≢true (sym e))
      | false ↦ λ e. none_passing name p ms e
    ] h

-- so a member of that name has no equal among them
pub no_equal : (ms ns : List Member) (i : ℕ) (m : Member) → i < length ms → get_or ms i m ≡ m → naming (property_of m).0 ns ≡ false
    → members_within (members_view (drop i ms)) (members_view ns) ≡ false
no_equal ms ns i m lt is h =
    rw (drop-cons ms i m lt, is)
    (ap (λ (b : Bool). b && members_within (members_view (drop (suc i) ms)) (members_view ns)) (none_passing (property_of m).0 (equal (property_of m).1) ns h))

-- no test is left where no item is left
pub no_more : (vs : List Json) → items_equal no_items (items_view vs) ≡ eqb (length vs) 0
no_more [] = refl
no_more (v ∷ vs) = sym (ne_eqb (suc (length vs)) 0 (λ e. omega arith))

-- so a pattern of that name isn't fitted
pub no_fitting : (ps ms : List Member) (i : ℕ) (p : Member) → i < length ps → get_or ps i p ≡ p → naming (property_of p).0 ms ≡ false
    → has_fitting (members_view (drop i ps)) (members_view ms) ≡ false
no_fitting ps ms i p lt is h =
    rw (drop-cons ps i p lt, is)
    (ap (λ (b : Bool). b && has_fitting (members_view (drop (suc i) ps)) (members_view ms))
    (none_passing (property_of p).0 (pattern_test (property_of p).1) ms h))

-- ---- items

abbrev pub fitting_one : (Tree → Bool) → List Json → Bool
fitting_one p vs = some_passing p (items_view vs)

fitting_append : (p : Tree → Bool) (xs ys : List Json) → fitting_one p (xs ++ ys) ≡ (fitting_one p xs || fitting_one p ys)
fitting_append p [] ys = refl
fitting_append p (v ∷ xs) ys =
    ap (λ (b : Bool). p (tree_of v) || b) (fitting_append p xs ys) ∙ or_regroup (p (tree_of v)) (fitting_one p xs) (fitting_one p ys)

pub fitting_behind_it : (p : Tree → Bool) (vs : List Json) (k : ℕ) (v : Json) → k < length vs → get_or vs k v ≡ v
    → fitting_one p (drop k vs) ≡ (p (tree_of v) || fitting_one p (drop (k + 1) vs))
fitting_behind_it p vs k v lt is = rw (add-one, drop-cons vs k v lt, is) refl

pub fitting_before_it : (p : Tree → Bool) (vs : List Json) (k : ℕ) (v : Json) → k < length vs → get_or vs k v ≡ v
    → fitting_one p (take (k + 1) vs) ≡ (fitting_one p (take k vs) || p (tree_of v))
fitting_before_it p vs k v lt is =
    rw (add-one, take-suc vs k v lt, is)
    (fitting_append p (take k vs) (v ∷ []) ∙ ap (λ (b : Bool). fitting_one p (take k vs) || b) (or_false (p (tree_of v))))

fitting_sides : (p : Tree → Bool) (vs : List Json) (k : ℕ) → fitting_one p vs ≡ (fitting_one p (drop k vs) || fitting_one p (take k vs))
fitting_sides p vs k =
    ap (fitting_one p) (sym (take-append-drop k vs))
    ∙ fitting_append p (take k vs) (drop k vs)
    ∙ or_swap (fitting_one p (take k vs)) (fitting_one p (drop k vs))

pub fitting_found : (p : Tree → Bool) (vs : List Json) (k : ℕ) → fitting_one p (drop k vs) ≡ true → fitting_one p vs ≡ true
fitting_found p vs k h = fitting_sides p vs k ∙ ap (λ (b : Bool). b || fitting_one p (take k vs)) h

-- an item that fits is among those so far from a place, on one side or on the other
abbrev pub fitting_outside : (Tree → Bool) → List Json → ℕ → ℕ → Bool
fitting_outside p vs near k = fitting_one p (drop (near + k) vs) || fitting_one p (take (near - k) vs)

pub fitting_outside_none : (p : Tree → Bool) (vs : List Json) (near : ℕ) → fitting_one p vs ≡ fitting_outside p vs near 0
fitting_outside_none p vs near = simp unary_clauses (fitting_sides p vs near)
