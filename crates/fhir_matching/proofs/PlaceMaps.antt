-- A map of names and places, one member more at a time.
use Rattle.std.proofs.Common.{◌≡◌, ℕ, ◌+◌, ◌<◌, ◌≤◌, ◌||◌, Bool, true, false, cond, List, [], ◌∷◌, length, take, Option, Some, None, is_some, suc, get_or, refl}
use Rattle.std.proofs.Common.{sym, ap, ap₂, subst, ◌∙◌, arith}
use Rattle.std.specs.Prelude.{IfSome}
use Rattle.std.specs.Borrow.{Bor}
use Rattle.std.specs.Str.{bytes_eq}
use Rattle.std.specs.BTreeMap.{BTreeMap, UpdatesBy}
use Rattle.std.specs.Cmp.Lexicographic.{slice_cmp}
use Rattle.std.specs.Ordering.{nat_cmp}
use Rattle.std.proofs.lemmas.Map.Text.{btree_map_updates_str}
use Rattle.std.proofs.lemmas.List.{take_all}
use Rattle.std.proofs.lemmas.Slice.Eq.{bytes_eq-Decides}
use Rattle.fhir_json.specs.declared.json.Member.{Member}
use Rattle.fhir_json.specs.Tree.{Text, names}
use Rattle.fhir_json.specs.Views.{property_of, members_view}
use Rattle.fhir_matching.specs.Places.{place_at, AreOf}
use Rattle.fhir_matching.proofs.Sides.{naming, naming_before}

same_tests : (a b : Bool) → (a ≡ true → b ≡ true) → (b ≡ true → a ≡ true) → a ≡ b
same_tests true b f g = sym (f refl)
same_tests false true f g = g refl
same_tests false false f g = refl

same_either_way : (x y : Text) → bytes_eq x y ≡ bytes_eq y x
same_either_way x y =
    same_tests (bytes_eq x y) (bytes_eq y x)
    (λ h. (bytes_eq-Decides y x).1 (sym ((bytes_eq-Decides x y).0 h)))
    (λ h. (bytes_eq-Decides x y).1 (sym ((bytes_eq-Decides y x).0 h)))

pub length_names : (ms : List Member) → length (names (members_view ms)) ≡ length ms
length_names [] = refl
length_names (m ∷ ms) = ap suc (length_names ms)

-- the map with a name more
abbrev pub Adds : Bor Text → BTreeMap (Bor Text) ℕ → BTreeMap (Bor Text) ℕ → ℕ → Type 0
Adds key old new place = UpdatesBy (λ x y. slice_cmp nat_cmp x.now y.now) (λ k. slice_cmp nat_cmp key.now k.now) old new (Some place)

at_added : (key : Bor Text) (old new : BTreeMap (Bor Text) ℕ) (place : ℕ) → Adds key old new place → (name : Text)
    → place_at name new ≡ cond (bytes_eq name key.now) (Some place) (place_at name old)
at_added key old new place adds name =
    btree_map_updates_str key.now old new (Some place) adds name
    ∙ ap (λ (b : Bool). cond b (Some place) (place_at name old)) (same_either_way key.now name)

is_some_either : (b : Bool) (place : ℕ) (o : Option ℕ) → is_some (cond b (Some place) o) ≡ (is_some o || b)
is_some_either true place (Some x) = refl
is_some_either true place None = refl
is_some_either false place (Some x) = refl
is_some_either false place None = refl

within_either : (b : Bool) (place : ℕ) (o : Option ℕ) → IfSome o (λ x. x < place) → IfSome (cond b (Some place) o) (λ x. x < place + 1)
within_either true place o h = omega arith
within_either false place (Some x) h = omega arith
within_either false place None h = tt

pub named_more : (ms : List Member) (k : ℕ) (m : Member) (key : Bor Text) (old new : BTreeMap (Bor Text) ℕ)
    → k < length ms → get_or ms k m ≡ m → key.now ≡ (property_of m).0
    → Adds key old new k → ((name : Text) → is_some (place_at name old) ≡ naming name (take k ms))
    → (name : Text) → is_some (place_at name new) ≡ naming name (take (k + 1) ms)
named_more ms k m key old new lt is same adds before name =
    ap is_some (at_added key old new k adds name)
    ∙ is_some_either (bytes_eq name key.now) k (place_at name old)
    ∙ ap₂ (λ (a b : Bool). a || b) (before name) (ap (bytes_eq name) same)
    ∙ sym (naming_before name ms k m lt is)

pub within_more : (key : Bor Text) (k : ℕ) (old new : BTreeMap (Bor Text) ℕ) → Adds key old new k → ((name : Text) → IfSome (place_at name old) (λ x. x < k))
    → (name : Text) → IfSome (place_at name new) (λ x. x < k + 1)
within_more key k old new adds before name =
    subst (λ (o : Option ℕ). IfSome o (λ x. x < k + 1)) (sym (at_added key old new k adds name))
    (within_either (bytes_eq name key.now) k (place_at name old) (before name))

-- a place that is found
pub found_within : (ms : List Member) (found o : Option ℕ) → found ≡ o
    → IfSome o (λ x. x < length (names (members_view ms))) → IfSome found (λ x. x < length ms)
found_within ms (Some x) (Some y) e h = let n = length_names ms in grind arith
found_within ms (Some x) None e h = cc
found_within ms None o e h = tt

pub all_named : (ms : List Member) (k : ℕ) (places : BTreeMap (Bor Text) ℕ) → k ≤ length ms → length ms ≤ k
    → ((name : Text) → is_some (place_at name places) ≡ naming name (take k ms)) → ((name : Text) → IfSome (place_at name places) (λ x. x < k))
    → AreOf places (names (members_view ms))
all_named ms k places le ge named within =
    let n : k ≡ length (names (members_view ms)) = let e = length_names ms in omega arith in
    record {
      named = λ name. named name ∙ ap (naming name) (take_all k ms ge);
      within = λ name. subst (λ (x : ℕ). IfSome (place_at name places) (λ place. place < x)) n (within name);
    }
