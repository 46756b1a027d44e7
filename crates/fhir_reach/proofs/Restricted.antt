-- The definitions for which keys stand, one entry more at a time.
use Rattle.std.proofs.Common.{◌≡◌, ◌⊎◌, ◌+◌, ℕ, Option, Some, None, Bool, true, false, IsTrue, ◌&&◌, List, [], ◌∷◌, ◌++◌, length, take, filter, ⊎_elim, inl, inr, refl, sym, subst, ap, ap₂, ◌∙◌, append_assoc, if◌then◌else◌}
use Rattle.std.specs.List.{list_any, list_all, slice_get}
use Rattle.std.specs.Option.{option_map_or}
use Rattle.std.proofs.lemmas.Bool.{false≢true, or_cases, or_left, or_right, and_parts}
use Rattle.std.proofs.lemmas.List.{append-nil}
use Rattle.fhir_json.specs.Tree.{Text, Tree}
use Rattle.fhir_package.specs.declared.kind.Kind.{Kind}
use Rattle.fhir_package.specs.declared.kind.Kind.TheVariants.{StructureDefinition, ValueSet, CodeSystem}
use Rattle.fhir_package.specs.Definitions.{ByUrl, Definitions, no_definitions, of_kind, with_kind}
use Rattle.fhir_inheritance.proofs.Sourced.{take-some, take-none}
use Rattle.fhir_reach.specs.Keys.{KeyValue, key_eq, has_key, same_keys, with_keys}
use Rattle.fhir_reach.specs.Reach.{keys_of, is_held, held_of, restrict}
use Rattle.fhir_reach.specs.Places.{with_entry}
use Rattle.fhir_reach.proofs.Keys.{same_tests, key_eq-true, key_eq-refl, added_by_all, only_by_all}

-- ---- keys that are kept once

same_key : (keys : List KeyValue) (k : KeyValue) → has_key (with_keys [] keys) k ≡ has_key keys k
same_key keys k = same_tests _ _ forth (added_by_all keys [] k)
  where
    forth : IsTrue (has_key (with_keys [] keys) k) → IsTrue (has_key keys k)
    forth h = ⊎_elim (λ (none : IsTrue false). absurd (false≢true none)) (λ (there : IsTrue (has_key keys k)). there) (only_by_all keys [] k h)

same_any : (f g : KeyValue → Bool) (ks : List KeyValue) → ((k : KeyValue) → f k ≡ g k) → list_any f ks ≡ list_any g ks
same_any f g [] same = refl
same_any f g (k ∷ ks) same = rw (same k, same_any f g ks same) refl

-- lists with the same keys hold the same definitions
module _ (keys others : List KeyValue) (same : (k : KeyValue) → has_key keys k ≡ has_key others k) where
  held_as : (kind : Kind) (es : ByUrl) → held_of keys kind es ≡ held_of others kind es
  held_as kind [] = refl
  held_as kind (e ∷ es) = rw (same_any (has_key keys) (has_key others) (keys_of kind e.0 e.1) same, held_as kind es) refl

  restrict_as : (p : Definitions) → restrict p keys ≡ restrict p others
  restrict_as p =
      rw (held_as StructureDefinition p.structure_definitions, held_as ValueSet p.value_sets, held_as CodeSystem p.code_systems) refl

pub same_restrict : (keys : List KeyValue) (p : Definitions) → restrict p (with_keys [] keys) ≡ restrict p keys
same_restrict keys p = restrict_as (with_keys [] keys) keys (same_key keys) p

has_if_all : (keys others : List KeyValue) → IsTrue (list_all (has_key keys) others) → (k : KeyValue) → IsTrue (has_key others k) → IsTrue (has_key keys k)
has_if_all keys [] all k h = absurd (false≢true h)
has_if_all keys (x ∷ others) all k h =
    elim (or_cases (key_eq k x) (has_key others k) h) [
      | inl here ↦ subst (λ (j : KeyValue). IsTrue (has_key keys j)) (sym (key_eq-true k x here)) (and_parts (has_key keys x) _ all).0
      | inr there ↦ has_if_all keys others (and_parts (has_key keys x) _ all).1 k there
    ]

pub tests_as : (keys others : List KeyValue) → same_keys keys others ≡ true → (k : KeyValue) → has_key keys k ≡ has_key others k
tests_as keys others same k =
    let both = and_parts (list_all (has_key keys) others) (list_all (has_key others) keys) same in
    same_tests _ _ (has_if_all others keys both.1 k) (has_if_all keys others both.0 k)

pub restricts_as : (p : Definitions) (keys others : List KeyValue) → same_keys keys others ≡ true → restrict p keys ≡ restrict p others
restricts_as p keys others same = restrict_as keys others (tests_as keys others same) p

pub same_itself : (keys : List KeyValue) → same_keys keys keys ≡ true
same_itself keys = ap₂ (λ (a b : Bool). a && b) (all_of keys (λ k h. h)) (all_of keys (λ k h. h))
  where
    all_of : (ks : List KeyValue) → ((k : KeyValue) → IsTrue (has_key ks k) → IsTrue (has_key keys k)) → list_all (has_key keys) ks ≡ true
    all_of [] within = refl
    all_of (x ∷ ks) within =
        ap₂ (λ (a b : Bool). a && b) (within x (or_left (key_eq x x) (has_key ks x) (key_eq-refl x)))
        (all_of ks (λ k h. within k (or_right (key_eq k x) (has_key ks k) h)))

-- ---- entries of a kind

of_with : (kind : Kind) (es : ByUrl) (p : Definitions) → of_kind kind (with_kind kind es p) ≡ es
of_with StructureDefinition es p = refl
of_with ValueSet es p = refl
of_with CodeSystem es p = refl

with_with : (kind : Kind) (es fs : ByUrl) (p : Definitions) → with_kind kind fs (with_kind kind es p) ≡ with_kind kind fs p
with_with StructureDefinition es fs p = refl
with_with ValueSet es fs p = refl
with_with CodeSystem es fs p = refl

pub with_own : (kind : Kind) (p : Definitions) → with_kind kind (of_kind kind p) p ≡ p
with_own StructureDefinition p = refl
with_own ValueSet p = refl
with_own CodeSystem p = refl

held_snoc : (keys : List KeyValue) (kind : Kind) (es : ByUrl) (e : Text × Tree)
    → held_of keys kind (es ++ e ∷ []) ≡ (if is_held keys kind e.0 e.1 then held_of keys kind es ++ e ∷ [] else held_of keys kind es)
held_snoc keys kind [] e = at (is_held keys kind e.0 e.1)
  where
    at : (b : Bool) → (if b then e ∷ [] else []) ≡ (if b then [] ++ e ∷ [] else [])
    at true = refl
    at false = refl
held_snoc keys kind (f ∷ es) e =
    rw (held_snoc keys kind es e) (at (is_held keys kind f.0 f.1) (is_held keys kind e.0 e.1))
  where
    at : (b c : Bool)
        → (if b then f ∷ (if c then held_of keys kind es ++ e ∷ [] else held_of keys kind es) else (if c then held_of keys kind es ++ e ∷ [] else held_of keys kind es))
        ≡ (if c then (if b then f ∷ held_of keys kind es else held_of keys kind es) ++ e ∷ [] else (if b then f ∷ held_of keys kind es else held_of keys kind es))
    at true true = refl
    at true false = refl
    at false true = refl
    at false false = refl

-- those that stand before an entry were put in, and then it is looked at
pub next_entry : (keys : List KeyValue) (kind : Kind) (before : ByUrl) (e : Text × Tree) (start : Definitions)
    → with_entry keys kind e (with_kind kind (of_kind kind start ++ held_of keys kind before) start)
    ≡ with_kind kind (of_kind kind start ++ held_of keys kind (before ++ e ∷ [])) start
next_entry keys kind before e start = rw (held_snoc keys kind before e) (at (is_held keys kind e.0 e.1))
  where
    at : (b : Bool)
        → (if b then with_kind kind (of_kind kind (with_kind kind (of_kind kind start ++ held_of keys kind before) start) ++ e ∷ []) (with_kind kind (of_kind kind start ++ held_of keys kind before) start)
        else with_kind kind (of_kind kind start ++ held_of keys kind before) start)
        ≡ with_kind kind (of_kind kind start ++ (if b then held_of keys kind before ++ e ∷ [] else held_of keys kind before)) start
    at true =
        with_with kind _ _ start
        ∙ ap (λ (es : ByUrl). with_kind kind es start)
        (ap (λ (es : ByUrl). es ++ e ∷ []) (of_with kind _ start) ∙ append_assoc (of_kind kind start) (held_of keys kind before) (e ∷ []))
    at false = refl

pub none_yet : (keys : List KeyValue) (kind : Kind) (es : ByUrl) (start : Definitions)
    → start ≡ with_kind kind (of_kind kind start ++ held_of keys kind (take 0 es)) start
none_yet keys kind es start = sym (ap (λ (l : ByUrl). with_kind kind l start) (append-nil (of_kind kind start)) ∙ with_own kind start)

-- the entry at a place is looked at, if there is one
pub next_place : (keys : List KeyValue) (kind : Kind) (es : ByUrl) (k : ℕ) (start old new : Definitions)
    → new ≡ option_map_or (λ e. with_entry keys kind e old) (slice_get es k) old
    → old ≡ with_kind kind (of_kind kind start ++ held_of keys kind (take k es)) start
    → new ≡ with_kind kind (of_kind kind start ++ held_of keys kind (take (k + 1) es)) start
next_place keys kind es k start old new made before = at (slice_get es k) refl
  where
    so_far : ByUrl → Definitions
    so_far l = with_kind kind (of_kind kind start ++ held_of keys kind l) start

    at : (o : Option (Text × Tree)) → slice_get es k ≡ o → new ≡ so_far (take (k + 1) es)
    at (Some e) is =
        made ∙ ap (λ (o : Option (Text × Tree)). option_map_or (λ e. with_entry keys kind e old) o old) is ∙ ap (with_entry keys kind e) before
        ∙ next_entry keys kind (take k es) e start ∙ ap so_far (sym (take-some es k e is))
    at None is =
        made ∙ ap (λ (o : Option (Text × Tree)). option_map_or (λ e. with_entry keys kind e old) o old) is ∙ before
        ∙ ap so_far (sym (take-none es k is))

-- ---- all kinds

module _ (keys : List KeyValue) (p : Definitions) where
  -- those of one kind put in
  abbrev pub with_held : Kind → Definitions → Definitions
  with_held kind q = with_kind kind (of_kind kind q ++ held_of keys kind (of_kind kind p)) q

  pub all_kinds : (wanted : List KeyValue) (base first second third : Definitions)
      → keys ≡ with_keys [] wanted → base ≡ no_definitions
      → first ≡ with_held StructureDefinition base → second ≡ with_held ValueSet first → third ≡ with_held CodeSystem second
      → third ≡ restrict p wanted
  all_kinds wanted base first second third found none one two three =
      three ∙ ap (with_held CodeSystem) (two ∙ ap (with_held ValueSet) (one ∙ ap (with_held StructureDefinition) none))
      ∙ ap (λ (ks : List KeyValue). restrict p ks) found ∙ same_restrict wanted p
