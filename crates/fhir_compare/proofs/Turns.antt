-- Turns of loops over the definitions of a package.
use Rattle.std.proofs.Common.{◌≡◌, ℕ, zero, suc, ◌<◌, ◌≤◌, ◌+◌, Bool, true, false, List, [], ◌∷◌, ◌++◌, length, map, filter, get_or, drop, take, Option, None, Some}
use Rattle.std.proofs.Common.{refl, ap, sym, ◌∙◌, subst, arith, if◌then◌else◌}
use Rattle.std.specs.Option.{option_map_or, option_to_list}
use Rattle.std.specs.List.{slice_get, filter_map, cons_option}
use Rattle.fhir_json.specs.Tree.{Text, Tree}
use Rattle.fhir_package.specs.Definitions.{ByUrl, Definitions}
use Rattle.fhir_alike.proofs.Rests.{rest_at, from_turn, from_end}
use Rattle.fhir_compare.specs.Comparing.{Said, only_in_new, leads_to, edges_from, edges, is_new, new_at, all_new}
use Rattle.fhir_compare.specs.Owns.{OwnValue, IsOwnAt, AreOwnsFrom, AreOwns}

-- ---- edges

one_edge : {A B : Type 0} (f : A → B) (o : Option A) (x : A) (d v : B) → o ≡ Some x → v ≡ option_map_or f o d
    → v ∷ [] ≡ option_map_or (λ a. f a ∷ []) o []
one_edge f None x d v e h = cc
one_edge f (Some a) x d v e h = ap (λ b. b ∷ []) h

pub edges_turn : (old : Definitions) (i : ℕ) (acc next : List (List ℕ)) (v : List ℕ) → i < length old.structure_definitions
    → acc ++ edges_from old i (drop i old.structure_definitions) ≡ edges old
    → v ≡ option_map_or (leads_to old i) (slice_get old.structure_definitions i) [] → next ≡ acc ++ v ∷ []
    → next ++ edges_from old (i + 1) (drop (i + 1) old.structure_definitions) ≡ edges old
edges_turn old i acc next v h was here now =
    let r = rest_at old.structure_definitions i h in
    from_turn (λ (k : ℕ) (e : Text × Tree). leads_to old k e ∷ []) (edges_from old) (λ k x xs. refl) (λ k. refl) old.structure_definitions i acc next
    (edges old) h was
    (now ∙ ap (λ es. acc ++ es) (one_edge (leads_to old i) (slice_get old.structure_definitions i) r.0 [] v r.1 here))

pub edges_end : (old : Definitions) (i : ℕ) (acc : List (List ℕ)) → length old.structure_definitions ≤ i
    → acc ++ edges_from old i (drop i old.structure_definitions) ≡ edges old → acc ≡ edges old
edges_end old i acc h was =
    from_end (λ (k : ℕ) (e : Text × Tree). leads_to old k e ∷ []) (edges_from old) (λ k x xs. refl) (λ k. refl) old.structure_definitions i acc
    (edges old) h was

-- ---- what is said of each by itself

module _ (old made : Definitions) (mark : Text) where
  pub owns_more : (k : ℕ) (es : ByUrl) (owns : List OwnValue) (e : Text × Tree) (own : OwnValue) → AreOwnsFrom old made mark k es owns
      → IsOwnAt old made mark (k + length es) own → AreOwnsFrom old made mark k (es ++ e ∷ []) (owns ++ own ∷ [])
  owns_more k [] [] e own a is =
      let here : k + 0 ≡ k = omega arith in
      (subst (λ p. IsOwnAt old made mark p own) here is, refl)
  owns_more k [] (o ∷ owns) e own a is = cc
  owns_more k (x ∷ es) [] e own a is = absurd a
  owns_more k (x ∷ es) (o ∷ owns) e own a is =
      let next : k + suc (length es) ≡ suc k + length es = omega arith in
      (a.0, owns_more (suc k) es owns e own a.1 (subst (λ p. IsOwnAt old made mark p own) next is))

take_more : {A : Type 0} (xs : List A) (i : ℕ) → i < length xs → (x : A) × (take (i + 1) xs ≡ take i xs ++ x ∷ []) × (length (take i xs) ≡ i)
take_more [] i h = absurd (omega arith)
take_more (x ∷ xs) zero h = (x, refl, refl)
take_more (x ∷ xs) (suc i) h =
    let r = take_more xs i (omega arith) in
    let next : suc i + 1 ≡ suc (i + 1) = omega arith in
    (r.0, ap (λ n. take n (x ∷ xs)) next ∙ ap (λ ys. x ∷ ys) r.1, ap suc r.2)

pub owns_turn : (old made : Definitions) (mark : Text) (i : ℕ) (owns next : List OwnValue) (own : OwnValue) → i < length old.structure_definitions
    → AreOwnsFrom old made mark 0 (take i old.structure_definitions) owns → IsOwnAt old made mark i own → next ≡ owns ++ own ∷ []
    → AreOwnsFrom old made mark 0 (take (i + 1) old.structure_definitions) next
owns_turn old made mark i owns next own h was is now =
    let r = take_more old.structure_definitions i h in
    let here : 0 + length (take i old.structure_definitions) ≡ i = omega (arith, r.2) in
    let more = owns_more old made mark 0 (take i old.structure_definitions) owns r.0 own was (subst (λ p. IsOwnAt old made mark p own) (sym here) is) in
    subst (λ o. AreOwnsFrom old made mark 0 (take (i + 1) old.structure_definitions) o) (sym now)
    (subst (λ es. AreOwnsFrom old made mark 0 es (owns ++ own ∷ [])) (sym r.1) more)

take_all : {A : Type 0} (xs : List A) (i : ℕ) → length xs ≤ i → take i xs ≡ xs
take_all [] zero h = refl
take_all [] (suc i) h = refl
take_all (x ∷ xs) zero h = absurd (omega arith)
take_all (x ∷ xs) (suc i) h = ap (λ ys. x ∷ ys) (take_all xs i (omega arith))

pub owns_end : (old made : Definitions) (mark : Text) (i : ℕ) (owns : List OwnValue) → length old.structure_definitions ≤ i
    → AreOwnsFrom old made mark 0 (take i old.structure_definitions) owns → AreOwns old made mark owns
owns_end old made mark i owns h was = subst (λ es. AreOwnsFrom old made mark 0 es owns) (take_all old.structure_definitions i h) was

-- ---- what NEW alone has

pub news : Definitions → Text → ByUrl → List Said
news old mark es = map (λ e. (e.0, only_in_new)) (filter (is_new old mark) es)

kept_or_not : {A B : Type 0} (p : A → Bool) (f : A → B) (x : A) (xs : List A) (b : Bool) → p x ≡ b
    → map f (filter p (x ∷ xs)) ≡ (if b then f x ∷ [] else []) ++ map f (filter p xs)
kept_or_not p f x xs true h = rw h
kept_or_not p f x xs false h = rw h

news_step : (old : Definitions) (mark : Text) (e : Text × Tree) (es : ByUrl)
    → news old mark (e ∷ es) ≡ new_at old mark (Some e) ++ news old mark es
unfolding news
news_step old mark e es = kept_or_not (is_new old mark) (λ (d : Text × Tree). (d.0, only_in_new)) e es (is_new old mark e) refl

one_new : (old : Definitions) (mark : Text) (o : Option (Text × Tree)) → new_at old mark o ≡ option_map_or (λ e. new_at old mark (Some e)) o []
one_new old mark None = refl
one_new old mark (Some e) = refl

news_none : (old : Definitions) (mark : Text) → news old mark [] ≡ []
unfolding news
news_none old mark = refl

pub news_turn : (old made : Definitions) (mark : Text) (i : ℕ) (acc next all : List Said) → i < length made.structure_definitions
    → acc ++ news old mark (drop i made.structure_definitions) ≡ all
    → next ≡ acc ++ new_at old mark (slice_get made.structure_definitions i)
    → next ++ news old mark (drop (i + 1) made.structure_definitions) ≡ all
news_turn old made mark i acc next all h was now =
    from_turn (λ (k : ℕ) (e : Text × Tree). new_at old mark (Some e)) (λ (k : ℕ) (es : ByUrl). news old mark es)
    (λ k x xs. news_step old mark x xs) (λ k. news_none old mark) made.structure_definitions i acc next all h was
    (now ∙ ap (λ ys. acc ++ ys) (one_new old mark (slice_get made.structure_definitions i)))

pub news_end : (old made : Definitions) (mark : Text) (i : ℕ) (acc all : List Said) → length made.structure_definitions ≤ i
    → acc ++ news old mark (drop i made.structure_definitions) ≡ all → acc ≡ all
news_end old made mark i acc all h was =
    from_end (λ (k : ℕ) (e : Text × Tree). new_at old mark (Some e)) (λ (k : ℕ) (es : ByUrl). news old mark es)
    (λ k x xs. news_step old mark x xs) (λ k. news_none old mark) made.structure_definitions i acc all h was

pub news_all : (old made : Definitions) (mark : Text) → news old mark (drop 0 made.structure_definitions) ≡ all_new old made mark
unfolding news
news_all old made mark = refl

-- ---- lists put together one by one

map_last : {A B : Type 0} (f : A → B) (xs : List A) (x : A) → map f (xs ++ x ∷ []) ≡ map f xs ++ f x ∷ []
map_last f [] x = refl
map_last f (y ∷ ys) x = ap (λ zs. f y ∷ zs) (map_last f ys x)

pub map_more : {A B : Type 0} (f : A → B) (xs : List A) (x : A) (next : List A) → next ≡ xs ++ x ∷ [] → map f next ≡ map f xs ++ f x ∷ []
map_more f xs x next h = ap (map f) h ∙ map_last f xs x

one_option : {B : Type 0} (o : Option B) → option_to_list o ≡ cons_option o []
one_option None = refl
one_option (Some x) = refl

cons_append : {B : Type 0} (o : Option B) (xs ys : List B) → cons_option o xs ++ ys ≡ cons_option o (xs ++ ys)
cons_append None xs ys = refl
cons_append (Some x) xs ys = refl

module _ {A B : Type 0} (f : A → Option B) where
  filter_at : (xs : List A) (i : ℕ) (d : A) → i < length xs
      → filter_map f (take i xs) ++ option_to_list (f (get_or xs i d)) ≡ filter_map f (take (i + 1) xs)
  filter_at [] i d h = absurd (omega arith)
  filter_at (x ∷ xs) zero d h = one_option (f x)
  filter_at (x ∷ xs) (suc i) d h =
      let next : suc i + 1 ≡ suc (i + 1) = omega arith in
      cons_append (f x) (filter_map f (take i xs)) (option_to_list (f (get_or xs i d)))
      ∙ ap (cons_option (f x)) (filter_at xs i d (omega arith))
      ∙ sym (ap (λ n. filter_map f (take n (x ∷ xs))) next)

through_map : {A B C : Type 0} (f : B → Option C) (g : A → B) (xs : List A) → filter_map f (map g xs) ≡ filter_map (λ x. f (g x)) xs
through_map f g [] = refl
through_map f g (x ∷ xs) = ap (cons_option (f (g x))) (through_map f g xs)

pub filter_turn : {A B C : Type 0} (f : B → Option C) (g : A → B) (xs : List A) (i : ℕ) (d : A) (acc next : List C) → i < length xs
    → acc ≡ filter_map f (map g (take i xs)) → next ≡ acc ++ option_to_list (f (g (get_or xs i d)))
    → next ≡ filter_map f (map g (take (i + 1) xs))
filter_turn f g xs i d acc next h was now =
    now
    ∙ ap (λ ys. ys ++ option_to_list (f (g (get_or xs i d)))) (was ∙ through_map f g (take i xs))
    ∙ filter_at (λ x. f (g x)) xs i d h
    ∙ sym (through_map f g (take (i + 1) xs))
