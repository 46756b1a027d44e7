-- What two equal values have in common: their kind, their text or number, and the fields of objects.
use Rattle.std.proofs.Common.{◌≡◌, Bool, true, false, not, ◌&&◌, ◌||◌, List, [], ◌∷◌, Option, Some, None, is_some, inl, inr, refl, sym, ap, subst, ◌∙◌, IsTrue}
use Rattle.std.specs.Prelude.{if◌then◌else◌}
use Rattle.std.specs.Str.{bytes_eq, is_utf8}
use Rattle.std.proofs.lemmas.Bool.{and_parts, or_cases, or_left, or_right, not-true, false≢true}
use Rattle.std.proofs.lemmas.Slice.Eq.{bytes_eq-Decides}
use Rattle.fhir_json.specs.Tree.{Text, Tree, null, boolean, number, string, array, object, Items, Members, no_members, member, names}
use Rattle.fhir_json.specs.Fields.{as_text, is_object, value_named, field}
use Rattle.fhir_json.specs.Sound.{is_among, differ, sound, members_sound}
use Rattle.fhir_matching.specs.Equality.{same_flag, equal, items_equal, members_within, has_passing, are_among}

-- what bytes compare as equal is one text
text_is : (x y : Text) → bytes_eq x y ≡ true → x ≡ y
text_is x y = (bytes_eq-Decides x y).0

-- and so of flags
flag_is : (a b : Bool) → same_flag a b ≡ true → a ≡ b
flag_is true b h = sym h
flag_is false true h = absurd (false≢true h)
flag_is false false h = refl

-- ---- by their kind

-- equal values are one, or both are arrays, or both are objects
module _ (P : Tree → Tree → Type 0) (on_null : P null null) (on_flag : (b : Bool) → P (boolean b) (boolean b))
    (on_number : (n : Text) → P (number n) (number n)) (on_text : (s : Text) → P (string s) (string s))
    (on_array : (ts us : Items) → IsTrue (items_equal ts us) → P (array ts) (array us))
    (on_object : (ms ns : Members) → IsTrue (equal (object ms) (object ns)) → P (object ms) (object ns)) where
  pub by_kind : (t u : Tree) → IsTrue (equal t u) → P t u
  by_kind null null h = on_null
  by_kind null _ h = absurd (false≢true h)
  by_kind (boolean a) (boolean b) h = subst (λ c. P (boolean a) (boolean c)) (flag_is a b h) (on_flag a)
  by_kind (boolean a) _ h = absurd (false≢true h)
  by_kind (number m) (number n) h = subst (λ c. P (number m) (number c)) (text_is m n h) (on_number m)
  by_kind (number m) _ h = absurd (false≢true h)
  by_kind (string m) (string n) h = subst (λ c. P (string m) (string c)) (text_is m n h) (on_text m)
  by_kind (string m) _ h = absurd (false≢true h)
  by_kind (array ts) (array us) h = on_array ts us h
  by_kind (array ts) _ h = absurd (false≢true h)
  by_kind (object ms) (object ns) h = on_object ms ns h
  by_kind (object ms) _ h = absurd (false≢true h)

-- the same text, if any
pub same_text : (t u : Tree) → IsTrue (equal t u) → as_text t ≡ as_text u
same_text = by_kind (λ t u. as_text t ≡ as_text u) refl (λ b. refl) (λ n. refl) (λ s. refl) (λ ts us h. refl) (λ ms ns h. refl)

-- both are objects, or none is
pub same_kind : (t u : Tree) → IsTrue (equal t u) → is_object t ≡ is_object u
same_kind = by_kind (λ t u. is_object t ≡ is_object u) refl (λ b. refl) (λ n. refl) (λ s. refl) (λ ts us h. refl) (λ ms ns h. refl)

-- ---- fields

-- a value is found under a name exactly where that is among the names
named_among : (name : Text) (ms : Members) → is_some (value_named name ms) ≡ is_among name (names ms)
named_among name no_members = refl
named_among name (member n t ms) = by_case (bytes_eq name n) (named_among name ms)
  where
    by_case : (b : Bool) → is_some (value_named name ms) ≡ is_among name (names ms)
        → is_some (if b then Some t else value_named name ms) ≡ (b || is_among name (names ms))
    by_case true more = refl
    by_case false more = more

-- the name of a member that passes is among the names
passing_among : (name : Text) (p : Tree → Bool) (ms : Members) → has_passing name p ms ≡ true → is_among name (names ms) ≡ true
passing_among name p no_members h = h
passing_among name p (member n t ms) h =
    elim (or_cases (bytes_eq name n && p t) (has_passing name p ms) h) [
      | inl k ↦ or_left (bytes_eq name n) (is_among name (names ms)) (and_parts (bytes_eq name n) (p t) k).0
      | inr k ↦ or_right (bytes_eq name n) (is_among name (names ms)) (passing_among name p ms k)
    ]

-- what is among the first of two lists is among the second, where each of the first is
among_among : (xs ys : List Text) → are_among xs ys ≡ true → (x : Text) → is_among x xs ≡ true → is_among x ys ≡ true
among_among [] ys h x i = absurd (false≢true i)
among_among (y ∷ xs) ys h x i =
    let both = and_parts (is_among y ys) (are_among xs ys) h in
    elim (or_cases (bytes_eq x y) (is_among x xs) i) [
      | inl e ↦ ap (λ (z : Text). is_among z ys) (text_is x y e) ∙ both.0
      | inr j ↦ among_among xs ys both.1 x j
    ]

-- what a name is found to have, where it is sound and passes a test
pub record IsFound (name : Text) (p : Tree → Bool) (ms : Members) : Type 0 where
  pub value : Tree
  pub is : value_named name ms ≡ Some value
  pub passes : IsTrue (p value)
  pub sounds : IsTrue (sound value)

-- where names differ, a member that passes is the one that is found
passing_found : (name : Text) (p : Tree → Bool) (ms : Members) → members_sound ms ≡ true → differ (names ms) ≡ true → has_passing name p ms ≡ true
    → IsFound name p ms
passing_found name p no_members sounds differs h = absurd (false≢true h)
passing_found name p (member n t ms) sounds differs h =
    by_case (bytes_eq name n) refl
    (passing_found name p ms (and_parts (is_utf8 n && sound t) (members_sound ms) sounds).1 (and_parts (not (is_among n (names ms))) (differ (names ms)) differs).1) h
  where
    by_case : (b : Bool) → bytes_eq name n ≡ b → (has_passing name p ms ≡ true → IsFound name p ms) → ((b && p t) || has_passing name p ms) ≡ true
        → IsFound name p (member n t ms)
    by_case true is more h =
        elim (or_cases (p t) (has_passing name p ms) h) [
          | inl k ↦ record {
            value = t;
            is = ap (λ (b : Bool). if b then Some t else value_named name ms) is;
            passes = k;
            sounds = (and_parts (is_utf8 n) (sound t) (and_parts (is_utf8 n && sound t) (members_sound ms) sounds).0).1;
          }
          | inr k ↦ absurd (false≢true
              (sym (not-true (is_among n (names ms)) (and_parts (not (is_among n (names ms))) (differ (names ms)) differs).0)
              ∙ ap (λ (z : Text). is_among z (names ms)) (sym (text_is name n is))
              ∙ passing_among name p ms k))
        ]
    by_case false is more h =
        let found = more h in
        record {
          value = found.value;
          is = ap (λ (b : Bool). if b then Some t else value_named name ms) is ∙ found.is;
          passes = found.passes;
          sounds = found.sounds;
        }

-- what a name is found to have has its equal
named_within : (name : Text) (ms ns : Members) → members_within ms ns ≡ true → (t : Tree) → value_named name ms ≡ Some t
    → has_passing name (equal t) ns ≡ true
named_within name no_members ns h t is = cc
named_within name (member n u ms) ns h t is =
    let both = and_parts (has_passing n (equal u) ns) (members_within ms ns) h in
    by_case (bytes_eq name n) refl both.0 (named_within name ms ns both.1 t) is
  where
    by_case : (b : Bool) → bytes_eq name n ≡ b → has_passing n (equal u) ns ≡ true → (value_named name ms ≡ Some t → has_passing name (equal t) ns ≡ true)
        → (if b then Some u else value_named name ms) ≡ Some t → has_passing name (equal t) ns ≡ true
    by_case true same here more is =
        let value : u ≡ t = cc in
        ap (λ (z : Text). has_passing z (equal t) ns) (text_is name n same) ∙ ap (λ (v : Tree). has_passing n (equal v) ns) (sym value) ∙ here
    by_case false same here more is = more is

-- what fields of equal objects have: nothing, or values that are equal
abbrev pub AreAlike : Option Tree → Option Tree → Type 0
AreAlike None None = Unit {0}
AreAlike None (Some u) = ⊥
AreAlike (Some t) None = ⊥
AreAlike (Some t) (Some u) = IsTrue (equal t u) × IsTrue (sound u)

-- the values of a name in two equal objects, the second of which is sound
alike_named : (name : Text) (ms ns : Members) → IsTrue (equal (object ms) (object ns)) → IsTrue (sound (object ns))
    → AreAlike (value_named name ms) (value_named name ns)
alike_named name ms ns h sounds = by_case (value_named name ms) (value_named name ns) refl refl
  where
    both : IsTrue (members_within ms ns) × IsTrue (are_among (names ns) (names ms))
    both = and_parts (members_within ms ns) (are_among (names ns) (names ms)) h

    parts : IsTrue (members_sound ns) × IsTrue (differ (names ns))
    parts = and_parts (members_sound ns) (differ (names ns)) sounds

    found : (t : Tree) → value_named name ms ≡ Some t → IsFound name (equal t) ns
    found t is = passing_found name (equal t) ns parts.0 parts.1 (named_within name ms ns both.0 t is)

    by_case : (o p : Option Tree) → value_named name ms ≡ o → value_named name ns ≡ p → AreAlike o p
    by_case None None is its = tt
    by_case None (Some u) is its =
        let among = among_among (names ns) (names ms) both.1 name (sym (named_among name ns) ∙ ap (λ (o : Option Tree). is_some o) its) in
        false≢true (sym (ap (λ (o : Option Tree). is_some o) is) ∙ named_among name ms ∙ among)
    by_case (Some t) None is its =
        let f = found t is in
        let clash : None ≡ Some f.value = sym its ∙ f.is in
        cc
    by_case (Some t) (Some u) is its =
        let f = found t is in
        let clash : Some u ≡ Some f.value = sym its ∙ f.is in
        let same : f.value ≡ u = cc in
        (subst (λ v. IsTrue (equal t v)) same f.passes, subst (λ v. IsTrue (sound v)) same f.sounds)

-- the fields of a name of two equal values, the second of which is sound
pub alike_fields : (name : Text) (t u : Tree) → IsTrue (equal t u) → IsTrue (sound u) → AreAlike (field name t) (field name u)
alike_fields name =
    by_kind (λ t u. IsTrue (sound u) → AreAlike (field name t) (field name u)) (λ sounds. tt) (λ b sounds. tt) (λ n sounds. tt) (λ s sounds. tt)
    (λ ts us h sounds. tt) (λ ms ns h sounds. alike_named name ms ns h sounds)
