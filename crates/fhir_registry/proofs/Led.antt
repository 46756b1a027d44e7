-- Keys that are reached from others lead to no more.
use Rattle.std.proofs.Common.{◌≡◌, Bool, true, false, List, [], ◌∷◌, take, inl, inr, Option, None, Some, IsTrue, ◌&&◌, Vec, refl, sym, ap₂, subst, ◌∙◌}
use Rattle.std.specs.Prelude.{IsSomeAnd, slice_get}
use Rattle.std.specs.List.{list_all}
use Rattle.std.specs.Option.{option_map_or}
use Rattle.std.proofs.lemmas.Bool.{and_parts, or_cases, or_left, or_right, false≢true}
use Rattle.lru.specs.LruCache.{LruCache}
use Rattle.fhir_package.specs.Definitions.{Definitions}
use Rattle.fhir_reach.specs.declared.key.Key.{Key}
use Rattle.fhir_reach.specs.Keys.{KeyValue, key_eq, key_seen, keys_seen, has_key, same_keys}
use Rattle.fhir_reach.specs.Reach.{restrict, IsReach}
use Rattle.fhir_reach.specs.Search.{reached}
use Rattle.fhir_schema.specs.Schemas.{SchemaValue}
use Rattle.fhir_registry.specs.declared.kept.Kept.{Kept}
use Rattle.fhir_registry.specs.Sound.{IsSchemaOf, IsRightFor, IsFirst}
use Rattle.fhir_registry.proofs.Equal.{key_eq-true, key_eq-refl}

same_tests : (x y : Bool) → (IsTrue x → IsTrue y) → (IsTrue y → IsTrue x) → x ≡ y
same_tests true y f g = sym (f refl)
same_tests false true f g = g refl
same_tests false false f g = refl

-- each of the keys is one of the list
each_there : (holds : KeyValue → Bool) (ks : List Key) → list_all (λ (key : Key). holds (key_seen key)) ks ≡ true → (k : KeyValue) → IsTrue (has_key (keys_seen ks) k) → IsTrue (holds k)
each_there holds [] all k h = absurd (false≢true h)
each_there holds (x ∷ ks) all k h =
    let parts = and_parts (holds (key_seen x)) _ all in
    elim (or_cases (key_eq k (key_seen x)) (has_key (keys_seen ks) k) h) [
      | inl here ↦ subst (λ (j : KeyValue). IsTrue (holds j)) (sym (key_eq-true k (key_seen x) here)) parts.0
      | inr there ↦ each_there holds ks parts.1 k there
    ]

all_of : (holds : KeyValue → Bool) (ks : List KeyValue) → ((k : KeyValue) → IsTrue (has_key ks k) → IsTrue (holds k)) → list_all holds ks ≡ true
all_of holds [] within = refl
all_of holds (x ∷ ks) within =
    ap₂ (λ (a b : Bool). a && b) (within x (or_left (key_eq x x) (has_key ks x) (key_eq-refl x)))
    (all_of holds ks (λ k h. within k (or_right (key_eq k x) (has_key ks k) h)))

same_from : (a b : List KeyValue) → ((k : KeyValue) → has_key a k ≡ has_key b k) → same_keys a b ≡ true
same_from a b tests =
    ap₂ (λ (x y : Bool). x && y) (all_of (has_key a) b (λ k h. tests k ∙ h)) (all_of (has_key b) a (λ k h. sym (tests k) ∙ h))

-- the first of the keys is one of them
first_there : (ks : List KeyValue) (k : KeyValue) → IsTrue (has_key (take 1 ks) k) → IsTrue (has_key ks k)
first_there [] k h = h
first_there (x ∷ ks) k h = elim (or_cases (key_eq k x) false h) [
  | inl here ↦ or_left (key_eq k x) (has_key ks k) here
  | inr there ↦ absurd (false≢true there)
]

module _ (p : Definitions) (least : (start : List KeyValue) → IsReach p start (reached p start)) where
  -- keys among which these stand, and which they reach, reach what these do
  same_reach : (few more : List KeyValue) → ((k : KeyValue) → IsTrue (has_key few k) → IsTrue (has_key more k))
      → ((k : KeyValue) → IsTrue (has_key more k) → IsTrue (has_key (reached p few) k)) → (k : KeyValue) → has_key (reached p few) k ≡ has_key (reached p more) k
  same_reach few more among within k =
      same_tests _ _
      ((least few).least (has_key (reached p more)) (record { starts = λ j h. (least more).closed.starts j (among j h); follows = (least more).closed.follows }) k)
      ((least more).least (has_key (reached p few)) (record { starts = within; follows = (least few).closed.follows }) k)

  led : (tests : (keys others : List KeyValue) → same_keys keys others ≡ true → (k : KeyValue) → has_key keys k ≡ has_key others k)
      → ((p : Definitions) (keys others : List KeyValue) → same_keys keys others ≡ true → restrict p keys ≡ restrict p others)
      → (start : List Key) (kept : Kept SchemaValue) → IsRightFor p (reached p (take 1 (keys_seen start))) kept
      → list_all (λ (key : Key). has_key kept.keys (key_seen key)) start ≡ true → IsRightFor p (reached p (keys_seen start)) kept
  led tests restrictions start kept right all =
      let few = take 1 (keys_seen start) in
      let more = keys_seen start in
      let held = tests kept.keys (reached p few) right.same in
      let same = same_reach few more (first_there more) (λ k h. sym (held k) ∙ each_there (has_key kept.keys) start all k h) in
      record {
        same = same_from kept.keys (reached p more) (λ k. held k ∙ same k);
        schema = subst (λ (d : Definitions). IsSchemaOf d kept.value) (restrictions p (reached p few) (reached p more) (same_from (reached p few) (reached p more) same)) right.schema;
      }

  pub first_led : {Y : Type 0} (tests : (keys others : List KeyValue) → same_keys keys others ≡ true → (k : KeyValue) → has_key keys k ≡ has_key others k)
      → ((p : Definitions) (keys others : List KeyValue) → same_keys keys others ≡ true → restrict p keys ≡ restrict p others)
      → (start : List Key) (front : List KeyValue) (cache : LruCache (Vec Key Y) (Kept SchemaValue)) → front ≡ take 1 (keys_seen start) → IsFirst p front cache
      → option_map_or (λ e. list_all (λ (key : Key). has_key e.1.keys (key_seen key)) start) (slice_get cache.entries 0) false ≡ true → IsFirst p (keys_seen start) cache
  first_led {Y} tests restrictions start front cache is first all =
      by (slice_get cache.entries 0) (subst (λ (l : List KeyValue). IsSomeAnd (slice_get cache.entries 0) (λ e. IsRightFor p (reached p l) e.1)) is first) all
    where
      by : (o : Option (Vec Key Y × Kept SchemaValue)) → IsSomeAnd o (λ e. IsRightFor p (reached p (take 1 (keys_seen start))) e.1)
          → option_map_or (λ e. list_all (λ (key : Key). has_key e.1.keys (key_seen key)) start) o false ≡ true → IsSomeAnd o (λ e. IsRightFor p (reached p (keys_seen start)) e.1)
      by None first all = absurd (false≢true all)
      by (Some e) first all = led tests restrictions start e.1 first all
