-- Equality and fitting of arrays and objects, by the lists of their parts.
use Rattle.std.proofs.Common.{◌≡◌, ℕ, suc, Bool, true, false, ◌&&◌, ◌||◌, length, refl, ap, ap₂, ◌∙◌, arith}
use Rattle.std.specs.Prelude.{nat_eq}
use Rattle.std.specs.List.{list_all, list_any, zip}
use Rattle.std.specs.Str.{bytes_eq}
use Rattle.fhir_json.specs.Tree.{Text, Tree, array, object, Items, no_items, item, Members, no_members, member, list_of, properties_of, names}
use Rattle.fhir_json.specs.Sound.{is_among}
use Rattle.fhir_json.specs.Fields.{is_array, is_object}
use Rattle.fhir_matching.specs.Equality.{equal, items_equal, members_within, has_passing, are_among}
use Rattle.fhir_matching.specs.Fitting.{fits, pattern_test, some_passing, each_fitted, has_fitting}

-- ---- arrays

one_more : (a b : Bool) (rest : Bool) → a && (b && rest) ≡ (b && (a && rest))
one_more true true rest = refl
one_more true false rest = refl
one_more false true rest = refl
one_more false false rest = refl

none_and_more : (n : ℕ) → false ≡ (nat_eq 0 (suc n) && true)
none_and_more n = grind arith

more_and_none : (n : ℕ) → false ≡ (nat_eq (suc n) 0 && true)
more_and_none n = grind arith

both_more : (m n : ℕ) (b : Bool) → (nat_eq m n && b) ≡ (nat_eq (suc m) (suc n) && b)
both_more m n b = grind arith

pub in_turn : (ts us : Items) → items_equal ts us
    ≡ (nat_eq (length (list_of ts)) (length (list_of us)) && list_all (λ p. equal p.0 p.1) (zip (list_of ts) (list_of us)))
in_turn no_items no_items = refl
in_turn no_items (item u us) = none_and_more (length (list_of us))
in_turn (item t ts) no_items = more_and_none (length (list_of ts))
in_turn (item t ts) (item u us) =
    let m = length (list_of ts) in
    let n = length (list_of us) in
    let rest = list_all (λ p. equal p.0 p.1) (zip (list_of ts) (list_of us)) in
    ap (λ (b : Bool). equal t u && b) (in_turn ts us) ∙ one_more (equal t u) (nat_eq m n) rest ∙ both_more m n (equal t u && rest)

some_fits : (p : Tree → Bool) (ts : Items) → some_passing p ts ≡ list_any p (list_of ts)
some_fits p no_items = refl
some_fits p (item t ts) = ap (λ (b : Bool). p t || b) (some_fits p ts)

pub each_fits : (ps ts : Items) → each_fitted ps ts ≡ list_all (λ p. list_any (λ t. fits t p) (list_of ts)) (list_of ps)
each_fits no_items ts = refl
each_fits (item p ps) ts = ap₂ (λ (a b : Bool). a && b) (some_fits (pattern_test p) ts) (each_fits ps ts)

-- ---- objects

passing : (name : Text) (p : Tree → Bool) (ms : Members) → has_passing name p ms ≡ list_any (λ m. bytes_eq name m.0 && p m.1) (properties_of ms)
passing name p no_members = refl
passing name p (member n t ms) = ap (λ (b : Bool). (bytes_eq name n && p t) || b) (passing name p ms)

within : (ms ns : Members) → members_within ms ns
    ≡ list_all (λ m. list_any (λ n. bytes_eq m.0 n.0 && equal m.1 n.1) (properties_of ns)) (properties_of ms)
within no_members ns = refl
within (member name t ms) ns = ap₂ (λ (a b : Bool). a && b) (passing name (equal t) ns) (within ms ns)

among : (name : Text) (ms : Members) → is_among name (names ms) ≡ list_any (λ m. bytes_eq name m.0) (properties_of ms)
among name no_members = refl
among name (member n t ms) = ap (λ (b : Bool). bytes_eq name n || b) (among name ms)

all_among : (ns ms : Members) → are_among (names ns) (names ms)
    ≡ list_all (λ n. list_any (λ m. bytes_eq n.0 m.0) (properties_of ms)) (properties_of ns)
all_among no_members ms = refl
all_among (member name t ns) ms = ap₂ (λ (a b : Bool). a && b) (among name ms) (all_among ns ms)

pub by_properties : (ms ns : Members) → equal (object ms) (object ns)
    ≡ (list_all (λ m. list_any (λ n. bytes_eq m.0 n.0 && equal m.1 n.1) (properties_of ns)) (properties_of ms)
    && list_all (λ n. list_any (λ m. bytes_eq n.0 m.0) (properties_of ms)) (properties_of ns))
by_properties ms ns = ap₂ (λ (a b : Bool). a && b) (within ms ns) (all_among ns ms)

pub has_each : (ps ms : Members) → has_fitting ps ms
    ≡ list_all (λ p. list_any (λ m. bytes_eq p.0 m.0 && fits m.1 p.1) (properties_of ms)) (properties_of ps)
has_each no_members ms = refl
has_each (member name p ps) ms = ap₂ (λ (a b : Bool). a && b) (passing name (pattern_test p) ms) (has_each ps ms)

-- ---- values of another kind

pub equal_no_array : (ts : Items) (u : Tree) → is_array u ≡ false → equal (array ts) u ≡ false
equal_no_array ts (array us) h = absurd cc
equal_no_array ts _ h = refl

pub equal_no_object : (ms : Members) (u : Tree) → is_object u ≡ false → equal (object ms) u ≡ false
equal_no_object ms (object ns) h = absurd cc
equal_no_object ms _ h = refl

pub fits_no_array : (t : Tree) (ps : Items) → is_array t ≡ false → fits t (array ps) ≡ false
fits_no_array (array ts) ps h = absurd cc
fits_no_array _ ps h = refl

pub fits_no_object : (t : Tree) (ps : Members) → is_object t ≡ false → fits t (object ps) ≡ false
fits_no_object (object ms) ps h = absurd cc
fits_no_object _ ps h = refl
