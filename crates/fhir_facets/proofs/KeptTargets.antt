-- What narrower targets hold of, wider ones do; and what targets hold of, they do where more of the unread rules hold.
use Rattle.std.proofs.Common.{◌≡◌, Bool, true, false, not, ◌&&◌, ◌||◌, Option, Some, None, List, [], ◌∷◌, IsTrue, refl, sym, ap, ◌∙◌}
use Rattle.std.specs.List.{list_any, list_all}
use Rattle.std.specs.Option.{option_map_or}
use Rattle.std.specs.Str.{bytes_eq}
use Rattle.std.proofs.lemmas.Bool.{and_parts, or_left, or_right, false≢true}
use Rattle.fhir_json.specs.Tree.{Text}
use Rattle.fhir_elements.specs.TypeEntry.{TypeEntry}
use Rattle.fhir_schema.specs.Schemas.{SchemaValue}
use Rattle.fhir_schema.specs.Covers.{covers}
use Rattle.fhir_facets.specs.Seen.{Seen}
use Rattle.fhir_facets.specs.Targets.{has_targets, referred_type, target_type, target_holds, targets_hold, covers_known, target_narrower, targets_narrower}
use Rattle.fhir_facets.specs.Unread.{Unread, Meaning, target}
use Rattle.fhir_facets.proofs.Alike.{text_is}
use Rattle.fhir_facets.proofs.Keeping.{mapped}

pub either : {A : Type 0} (b c : Bool) → (b ≡ true → A) → (c ≡ true → A) → (b || c) ≡ true → A
either true c f g h = f refl
either false c f g h = g h

-- ---- one of several

pub some_more : {A : Type 0} (p q : A → Bool) → ((a : A) → IsTrue (p a) → IsTrue (q a)) → (xs : List A) → IsTrue (list_any p xs) → IsTrue (list_any q xs)
some_more p q f [] h = h
some_more p q f (x ∷ xs) h =
    either (p x) (list_any p xs) (λ k. or_left (q x) (list_any q xs) (f x k)) (λ k. or_right (q x) (list_any q xs) (some_more p q f xs k)) h

module _ {A : Type 0} (r : A → A → Bool) (p q : A → Bool) (step : (a b : A) → IsTrue (r a b) → IsTrue (p a) → IsTrue (q b)) where
  some_kept : (xs ys : List A) → IsTrue (list_all (λ a. list_any (r a) ys) xs) → IsTrue (list_any p xs) → IsTrue (list_any q ys)
  some_kept [] ys all h = absurd (false≢true h)
  some_kept (x ∷ xs) ys all h =
      let both = and_parts (list_any (r x) ys) (list_all (λ a. list_any (r a) ys) xs) all in
      either (p x) (list_any p xs) (λ k. some_more (r x) q (λ b e. step x b e k) ys both.0) (some_kept xs ys both.1) h

-- ---- targets

module _ (s : SchemaValue) (m : Meaning) where
  known_kept : ((a b c : Text) → IsTrue (covers s a b) → IsTrue (covers s b c) → IsTrue (covers s a c))
      → (type : Text) (own base : Option Text) (d e : Bool) → IsTrue (covers_known s base own)
      → IsTrue (option_map_or (λ c. covers s c type) own d) → IsTrue (option_map_or (λ c. covers s c type) base e)
  known_kept transitive type own None d e narrow h = absurd (false≢true narrow)
  known_kept transitive type None (Some b) d e narrow h = absurd (false≢true narrow)
  known_kept transitive type (Some a) (Some b) d e narrow h = transitive b a type narrow h

  target_kept : ((a b c : Text) → IsTrue (covers s a b) → IsTrue (covers s b c) → IsTrue (covers s a c))
      → (type own base : Text) → IsTrue (target_narrower s own base) → IsTrue (target_holds s m type own) → IsTrue (target_holds s m type base)
  target_kept transitive type own base narrow h =
      either (bytes_eq own base) (covers_known s (target_type s base) (target_type s own))
      (λ same. sym (ap (target_holds s m type) (text_is own base same)) ∙ h)
      (λ known. known_kept transitive type (target_type s own) (target_type s base) (m (target own)) (m (target base)) known h)
      narrow

  judged_kept : ((a b c : Text) → IsTrue (covers s a b) → IsTrue (covers s b c) → IsTrue (covers s a c))
      → (e base : TypeEntry) (x : Seen) (has : Bool) → IsTrue (has && list_all (λ t. list_any (target_narrower s t) base.targets) e.targets)
      → IsTrue (not has || option_map_or (λ type. list_any (target_holds s m type) e.targets) (referred_type x) true)
      → IsTrue (option_map_or (λ type. list_any (target_holds s m type) base.targets) (referred_type x) true)
  judged_kept transitive e base x false narrow h = absurd (false≢true narrow)
  judged_kept transitive e base x true narrow h =
      mapped (λ type. list_any (target_holds s m type) e.targets) (λ type. list_any (target_holds s m type) base.targets)
      (referred_type x) true true
      (λ type. some_kept (target_narrower s) (target_holds s m type) (target_holds s m type) (target_kept transitive type) e.targets base.targets narrow)
      (λ h. h) h

  pub targets_kept : ((a b c : Text) → IsTrue (covers s a b) → IsTrue (covers s b c) → IsTrue (covers s a c))
      → (e base : TypeEntry) (x : Seen) → IsTrue (targets_narrower s e base) → IsTrue (targets_hold s m e x) → IsTrue (targets_hold s m base x)
  targets_kept transitive e base x narrow h =
      either (not (has_targets base)) (has_targets e && list_all (λ t. list_any (target_narrower s t) base.targets) e.targets)
      (or_left (not (has_targets base)) (option_map_or (λ type. list_any (target_holds s m type) base.targets) (referred_type x) true))
      (λ both. or_right (not (has_targets base)) (option_map_or (λ type. list_any (target_holds s m type) base.targets) (referred_type x) true)
      (judged_kept transitive e base x (has_targets e) both h))
      narrow

-- ---- where more of the unread rules hold

module _ (s : SchemaValue) (m larger : Meaning) (more : (u : Unread) → IsTrue (m u) → IsTrue (larger u)) where
  target_more : (type canonical : Text) → IsTrue (target_holds s m type canonical) → IsTrue (target_holds s larger type canonical)
  target_more type canonical =
      mapped (λ c. covers s c type) (λ c. covers s c type) (target_type s canonical) (m (target canonical)) (larger (target canonical))
      (λ c h. h) (more (target canonical))

  pub targets_more : (e : TypeEntry) (x : Seen) → IsTrue (targets_hold s m e x) → IsTrue (targets_hold s larger e x)
  targets_more e x h =
      let judged : Meaning → Bool = λ n. option_map_or (λ type. list_any (target_holds s n type) e.targets) (referred_type x) true in
      either (not (has_targets e)) (judged m) (or_left (not (has_targets e)) (judged larger))
      (λ k. or_right (not (has_targets e)) (judged larger)
      (mapped (λ type. list_any (target_holds s m type) e.targets) (λ type. list_any (target_holds s larger type) e.targets)
      (referred_type x) true true
      (λ type. some_more (target_holds s m type) (target_holds s larger type) (target_more type) e.targets) (λ h. h) k)) h
