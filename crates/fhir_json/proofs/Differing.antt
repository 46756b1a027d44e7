-- Names that differ from one another and from those of a set, one name more in the set at a time.
use Rattle.std.proofs.Common.{◌≡◌, ◌<◌, ◌+◌, ℕ, Bool, true, false, not, ◌&&◌, ◌||◌, List, [], ◌∷◌, length, drop, refl, sym, ap, ◌∙◌}
use Rattle.std.specs.List.{list_all}
use Rattle.std.specs.Str.{bytes_eq}
use Rattle.std.proofs.lemmas.Bool.{false≢true, false_from_ne_true}
use Rattle.std.proofs.Math.ListN.{get_or}
use Rattle.std.proofs.lemmas.List.{drop_more}
use Rattle.std.proofs.lemmas.Slice.Eq.{bytes_eq-Decides}
use Rattle.fhir_json.specs.declared.json.Member.{Member}
use Rattle.fhir_json.specs.Tree.{Text, names}
use Rattle.fhir_json.specs.Views.{members_view, property_of}
use Rattle.fhir_json.specs.Sound.{is_among, differ}

-- none of the names is held
abbrev pub none_held : (Text → Bool) → List Text → Bool
none_held holds names = list_all (λ name. not (holds name)) names

-- the names differ, and none of them is held
abbrev pub all_new : (Text → Bool) → List Text → Bool
all_new holds names = differ names && none_held holds names

turned : (x y : Text) → bytes_eq x y ≡ bytes_eq y x
turned x y = at (bytes_eq x y) (bytes_eq y x) refl refl
  where
    at : (a b : Bool) → bytes_eq x y ≡ a → bytes_eq y x ≡ b → a ≡ b
    at true true p q = refl
    at false false p q = refl
    at true false p q = sym ((bytes_eq-Decides y x).1 (sym ((bytes_eq-Decides x y).0 p))) ∙ q
    at false true p q = sym p ∙ (bytes_eq-Decides x y).1 (sym ((bytes_eq-Decides y x).0 q))

none_held-added : (holds after : Text → Bool) (name : Text) (names : List Text)
    → ((other : Text) → after other ≡ (bytes_eq other name || holds other))
    → none_held after names ≡ (not (is_among name names) && none_held holds names)
none_held-added holds after name [] added = refl
none_held-added holds after name (n ∷ ns) added =
    rw (added n, none_held-added holds after name ns added, turned n name) (either (bytes_eq name n) (holds n) (is_among name ns) (none_held holds ns))
  where
    either : (e h a r : Bool) → (not (e || h) && (not a && r)) ≡ (not (e || a) && (not h && r))
    either true h a r = refl
    either false true true r = refl
    either false true false r = refl
    either false false a r = refl

-- a name that isn't held goes from the names into what is held
pub all_new-added : (holds after : Text → Bool) (name : Text) (names : List Text)
    → ((other : Text) → after other ≡ (bytes_eq other name || holds other)) → holds name ≡ false
    → all_new holds (name ∷ names) ≡ all_new after names
all_new-added holds after name names added free =
    rw (free, none_held-added holds after name names added) (swapped (is_among name names) (differ names) (none_held holds names))
  where
    swapped : (a d r : Bool) → ((not a && d) && (not false && r)) ≡ (d && (not a && r))
    swapped true true r = refl
    swapped true false r = refl
    swapped false true r = refl
    swapped false false r = refl

-- one that is held is not new
pub all_new-held : (holds : Text → Bool) (name : Text) (names : List Text) → holds name ≡ true → all_new holds (name ∷ names) ≡ false
all_new-held holds name names held = rw (held) (none (not (is_among name names) && differ names))
  where
    none : (a : Bool) → (a && false) ≡ false
    none true = refl
    none false = refl

-- where nothing is held, the names have to differ
pub all_new-none : (holds : Text → Bool) (names : List Text) → ((name : Text) → holds name ≡ false) → all_new holds names ≡ differ names
all_new-none holds names free = rw (all names) (whole (differ names))
  where
    all : (ns : List Text) → none_held holds ns ≡ true
    all [] = refl
    all (n ∷ ns) = rw (free n) (all ns)

    whole : (a : Bool) → (a && true) ≡ a
    whole true = refl
    whole false = refl

-- the names from a place on begin with the one there
pub names_from : (members : List Member) (place : ℕ) (m : Member) → place < length members → m ≡ get_or members place m
    → names (members_view (drop place members)) ≡ (property_of m).0 ∷ names (members_view (drop (place + 1) members))
names_from members place m lt is =
    ap (λ (ms : List Member). names (members_view ms)) (drop_more members place m lt ∙ ap (λ (x : Member). x ∷ drop (place + 1) members) (sym is))
