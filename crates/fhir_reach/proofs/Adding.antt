-- Keys that are added in turn.
use Rattle.std.proofs.Common.{◌≡◌, ℕ, suc, ◌+◌, ◌<◌, List, ◌∷◌, ◌++◌, drop, get_or, length, Result, OnOk, refl, sym, ap, ◌∙◌, subst, add-one, append_assoc}
use Rattle.std.specs.Cow.{cow_str_bytes}
use Rattle.std.proofs.Math.Seq.{drop-cons}
use Rattle.fhir_json.specs.declared.json.Json.{Json}
use Rattle.fhir_json.specs.declared.json.Member.{Member, fold_out-Member}
use Rattle.fhir_json.specs.Tree.{Tree, Property}
use Rattle.fhir_json.specs.Views.{tree_of, property_of, json_step, member_step, items_view, members_view}
use Rattle.fhir_reach.specs.Keys.{KeyValue, with_keys}
use Rattle.fhir_reach.specs.Starting.{resource_keys, tree_keys, items_keys, members_keys}
use Rattle.fhir_reach.proofs.Keys.{with_more}

-- two lists behind others, one after the other
pub both_added : {A E : Type 0} (r : Result A E) (old first new xs ys : List KeyValue) → first ≡ with_keys old xs → OnOk r (new ≡ with_keys first ys)
    → OnOk r (new ≡ with_keys old (xs ++ ys))
both_added r old first new xs ys e h =
    subst (λ (l : List KeyValue). OnOk r (new ≡ l)) (ap (λ (f : List KeyValue). with_keys f ys) e ∙ sym (with_more xs ys old)) h

-- what is left, once the keys of one more are added
pub next : {A : Type 0} (F : List A → List KeyValue) (f : A → List KeyValue) → ((x : A) (xs : List A) → F (x ∷ xs) ≡ f x ++ F xs)
    → (xs : List A) (i : ℕ) (x : A) (found new all : List KeyValue) → i < length xs → x ≡ get_or xs i x → new ≡ with_keys found (f x)
    → with_keys found (F (drop i xs)) ≡ all → with_keys new (F (drop (i + 1) xs)) ≡ all
next {A} F f step xs i x found new all h is e before =
    let here : drop i xs ≡ x ∷ drop (suc i) xs = drop-cons xs i x h ∙ ap (λ (y : A). y ∷ drop (suc i) xs) (sym is) in
    let more : with_keys new (F (drop (suc i) xs)) ≡ all =
    ap (λ (l : List KeyValue). with_keys l (F (drop (suc i) xs))) e
    ∙ sym (with_more (f x) (F (drop (suc i) xs)) found)
    ∙ ap (with_keys found) (sym (step x (drop (suc i) xs)) ∙ ap F (sym here))
    ∙ before in
    rw add-one more

pub next_item : (xs : List Json) (i : ℕ) (x : Json) (found new all : List KeyValue) → i < length xs → x ≡ get_or xs i x → new ≡ with_keys found (tree_keys (tree_of x))
    → with_keys found (items_keys (items_view (drop i xs))) ≡ all → with_keys new (items_keys (items_view (drop (i + 1) xs))) ≡ all
next_item = next (λ xs. items_keys (items_view xs)) (λ x. tree_keys (tree_of x)) (λ x xs. refl)

-- the name and the value of a member
pub seen_name : (m : Member) → cow_str_bytes m.name ≡ (property_of m).0
seen_name m = sym (ap (λ (p : Property). p.0) (fold_out-Member Tree Property json_step member_step m))

pub seen_value : (m : Member) → tree_of m.value ≡ (property_of m).1
seen_value m = sym (ap (λ (p : Property). p.1) (fold_out-Member Tree Property json_step member_step m))

member_keys : Member → List KeyValue
member_keys m = resource_keys (property_of m).0 (property_of m).1 ++ tree_keys (property_of m).1

next_members : (m : Member) (ms : List Member) → members_keys (members_view (m ∷ ms)) ≡ member_keys m ++ members_keys (members_view ms)
unfolding member_keys
next_members m ms = sym (append_assoc (resource_keys (property_of m).0 (property_of m).1) (tree_keys (property_of m).1) (members_keys (members_view ms)))

pub next_member : (xs : List Member) (i : ℕ) (x : Member) (found first new all : List KeyValue) → i < length xs → x ≡ get_or xs i x
    → first ≡ with_keys found (resource_keys (property_of x).0 (property_of x).1) → new ≡ with_keys first (tree_keys (property_of x).1)
    → with_keys found (members_keys (members_view (drop i xs))) ≡ all → with_keys new (members_keys (members_view (drop (i + 1) xs))) ≡ all
unfolding member_keys
next_member xs i x found first new all h is e g =
    next (λ ms. members_keys (members_view ms)) member_keys next_members xs i x found new all h is
    (g ∙ ap (λ (l : List KeyValue). with_keys l (tree_keys (property_of x).1)) e ∙ sym (with_more (resource_keys (property_of x).0 (property_of x).1) (tree_keys (property_of x).1) found))
