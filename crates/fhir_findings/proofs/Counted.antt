-- Each text once: how what is told grows with the list, and what it says of it.
use Rattle.std.proofs.Common.{◌≡◌, ℕ, zero, suc, ◌+◌, ◌<◌, ◌≤◌, Bool, true, false, not, cond, ◌||◌, ◌&&◌, List, [], ◌∷◌, ◌++◌, map, filter, length, get_or, None, Some, refl, sym, ap, ap₂, ◌∙◌, arith, nat_lt, subst, append_assoc, zero-add}
use Rattle.std.specs.Prelude.{count_by}
use Rattle.std.specs.List.{list_all, position_from, sum_by, slice_set}
use Rattle.std.specs.Str.{bytes_eq}
use Rattle.std.proofs.lemmas.List.Sums.{sum_by-cons, sum_by_push, count_by-le-length}
use Rattle.std.proofs.lemmas.Bool.{false≢true, and_parts}
use Rattle.std.proofs.lemmas.Bool.{lt-ltb}
use Rattle.std.proofs.lemmas.List.{append-nil, length-map}
use Rattle.fhir_json.specs.Tree.{Text}
use Rattle.fhir_findings.specs.Firsts.{have_one_text, has_text_of, firsts}
use Rattle.fhir_findings.specs.Once.{Told, told_once}
use Rattle.fhir_findings.specs.Telling.{with_one, texts_told}
use Rattle.fhir_findings.proofs.Firsts.{laws}

module _ {A : Type 0} (text : A → Text) where
  -- those of other texts
  abbrev pub others : A → List (Told A) → List (Told A)
  others x ts = filter (λ t. not (have_one_text text x t.first)) ts

  -- ---- what is told of an item and others behind it

  abbrev counted : (A → ℕ) → List A → List (Told A)
  counted count xs = map (λ x. record { first = x; count = count x }) xs

  counts_behind : (x : A) (xs ds : List A)
      → counted (λ d. count_by (have_one_text text d) (x ∷ xs)) (filter (λ d. not (have_one_text text x d)) ds)
      ≡ others x (counted (λ d. count_by (have_one_text text d) xs) ds)
  counts_behind x xs [] = refl
  counts_behind x xs (d ∷ ds) = by (have_one_text text x d) refl (counts_behind x xs ds)
    where
      by : (b : Bool) → have_one_text text x d ≡ b
          → counted (λ d. count_by (have_one_text text d) (x ∷ xs)) (filter (λ d. not (have_one_text text x d)) ds)
          ≡ others x (counted (λ d. count_by (have_one_text text d) xs) ds)
          → counted (λ d. count_by (have_one_text text d) (x ∷ xs)) (cond (not b) (d ∷ filter (λ d. not (have_one_text text x d)) ds) (filter (λ d. not (have_one_text text x d)) ds))
          ≡ cond (not b) (record { first = d; count = count_by (have_one_text text d) xs } ∷ others x (counted (λ d. count_by (have_one_text text d) xs) ds))
          (others x (counted (λ d. count_by (have_one_text text d) xs) ds))
      by true is rest = rest
      by false is rest =
          let none : have_one_text text d x ≡ false = (laws text).symm d x ∙ is in
          let same : count_by (have_one_text text d) (x ∷ xs) ≡ count_by (have_one_text text d) xs =
          sum_by-cons (λ y. cond (have_one_text text d y) 1 0) x xs
          ∙ ap (λ (b : Bool). cond b 1 0 + count_by (have_one_text text d) xs) none
          ∙ omega arith in
          ap₂ (λ (n : ℕ) (ts : List (Told A)). record { first = d; count = n } ∷ ts) same rest

  pub told-cons : (x : A) (xs : List A)
      → told_once text (x ∷ xs) ≡ record { first = x; count = 1 + count_by (have_one_text text x) xs } ∷ others x (told_once text xs)
  told-cons x xs =
      let own : count_by (have_one_text text x) (x ∷ xs) ≡ 1 + count_by (have_one_text text x) xs =
      sum_by-cons (λ y. cond (have_one_text text x y) 1 0) x xs
      ∙ ap (λ (b : Bool). cond b 1 0 + count_by (have_one_text text x) xs) ((laws text).refl x) in
      ap₂ (λ (n : ℕ) (ts : List (Told A)). record { first = x; count = n } ∷ ts) own (counts_behind x xs (firsts text xs))

  -- ---- what is told of a list that is one longer

  -- the item isn't told again, where it has the text that is left out
  same_left : (x y : A) → have_one_text text x y ≡ true → (ts : List (Told A)) → others x (with_one text ts y) ≡ others x ts
  same_left x y same [] = ap (λ (b : Bool). cond (not b) (record { first = y; count = 1 } ∷ []) []) same
  same_left x y same (t ∷ ts) = by (have_one_text text y t.first) refl (same_left x y same ts)
    where
      by : (b : Bool) → have_one_text text y t.first ≡ b → others x (with_one text ts y) ≡ others x ts
          → others x (cond b (record t { count = t.count + 1 } ∷ ts) (t ∷ with_one text ts y)) ≡ others x (t ∷ ts)
      by true is rest =
          let out : have_one_text text x t.first ≡ true = (laws text).congr x y t.first same ∙ is in
          rw (out) refl
      by false is rest = ap (λ (l : List (Told A)). cond (not (have_one_text text x t.first)) (t ∷ l) l) rest

  other_left : (x y : A) → have_one_text text x y ≡ false → (ts : List (Told A)) → others x (with_one text ts y) ≡ with_one text (others x ts) y
  other_left x y other [] = ap (λ (b : Bool). cond (not b) (record { first = y; count = 1 } ∷ []) []) other
  other_left x y other (t ∷ ts) = by (have_one_text text y t.first) refl (have_one_text text x t.first) refl (other_left x y other ts)
    where
      by : (b : Bool) → have_one_text text y t.first ≡ b → (c : Bool) → have_one_text text x t.first ≡ c → others x (with_one text ts y) ≡ with_one text (others x ts) y
          → others x (cond b (record t { count = t.count + 1 } ∷ ts) (t ∷ with_one text ts y))
          ≡ with_one text (cond (not c) (t ∷ others x ts) (others x ts)) y
      by true is true out rest =
          let same : have_one_text text x y ≡ true =
          (laws text).symm x y ∙ (laws text).congr y t.first x is ∙ (laws text).symm t.first x ∙ out in
          absurd (false≢true (sym other ∙ same))
      by true is false out rest = rw (out, is) refl
      by false is true out rest = rw (out) rest
      by false is false out rest = rw (out, is) (ap (λ (l : List (Told A)). t ∷ l) rest)

  pub told-snoc : (xs : List A) (y : A) → told_once text (xs ++ y ∷ []) ≡ with_one text (told_once text xs) y
  told-snoc [] y = told-cons y []
  told-snoc (x ∷ xs) y =
      told-cons x (xs ++ y ∷ [])
      ∙ ap₂ (λ (n : ℕ) (ts : List (Told A)). record { first = x; count = 1 + n } ∷ others x ts)
      (sum_by_push (λ z. cond (have_one_text text x z) 1 0) xs y) (told-snoc xs y)
      ∙ by (have_one_text text y x) refl ((laws text).symm x y)
      ∙ ap (λ (ts : List (Told A)). with_one text ts y) (sym (told-cons x xs))
    where
      by : (b : Bool) → have_one_text text y x ≡ b → have_one_text text x y ≡ b
          → record { first = x; count = 1 + (count_by (have_one_text text x) xs + cond (have_one_text text x y) 1 0) } ∷ others x (with_one text (told_once text xs) y)
          ≡ cond b (record { first = x; count = 1 + count_by (have_one_text text x) xs + 1 } ∷ others x (told_once text xs))
          (record { first = x; count = 1 + count_by (have_one_text text x) xs } ∷ with_one text (others x (told_once text xs)) y)
      by true is same =
          ap₂ (λ (n : ℕ) (ts : List (Told A)). record { first = x; count = n } ∷ ts)
          (ap (λ (b : Bool). 1 + (count_by (have_one_text text x) xs + cond b 1 0)) same ∙ omega arith)
          (same_left x y same (told_once text xs))
      by false is same =
          ap₂ (λ (n : ℕ) (ts : List (Told A)). record { first = x; count = n } ∷ ts)
          (ap (λ (b : Bool). 1 + (count_by (have_one_text text x) xs + cond b 1 0)) same ∙ omega arith)
          (other_left x y same (told_once text xs))

  -- ---- the place at which an index has a text

  pub new_told : (ts : List (Told A)) (x : A) (i : ℕ) → position_from (bytes_eq (text x)) i (texts_told text ts) ≡ None
      → with_one text ts x ≡ ts ++ record { first = x; count = 1 } ∷ []
  new_told [] x i none = refl
  new_told (t ∷ ts) x i none = by (have_one_text text x t.first) none (new_told ts x (i + 1))
    where
      by : (b : Bool) → cond b (Some i) (position_from (bytes_eq (text x)) (i + 1) (texts_told text ts)) ≡ None
          → (position_from (bytes_eq (text x)) (i + 1) (texts_told text ts) ≡ None → with_one text ts x ≡ ts ++ record { first = x; count = 1 } ∷ [])
          → cond b (record t { count = t.count + 1 } ∷ ts) (t ∷ with_one text ts x) ≡ t ∷ (ts ++ record { first = x; count = 1 } ∷ [])
      by true none rest = cc
      by false none rest = ap (λ (l : List (Told A)). t ∷ l) (rest none)

  -- that one is counted once more
  pub record IsCounted (ts : List (Told A)) (x : A) (k : ℕ) : Type 0 where
    pub within : k < length ts
    pub counted_more : (d : Told A) → with_one text ts x ≡ slice_set ts k (record (get_or ts k d) { count = (get_or ts k d).count + 1 })

  at_from : (ts : List (Told A)) (x : A) (i k : ℕ) → position_from (bytes_eq (text x)) i (texts_told text ts) ≡ Some k
      → (n : ℕ) × (k ≡ i + n) × IsCounted ts x n
  at_from [] x i k is = cc
  at_from (t ∷ ts) x i k is = by (have_one_text text x t.first) refl is (at_from ts x (i + 1) k)
    where
      by : (b : Bool) → have_one_text text x t.first ≡ b
          → cond b (Some i) (position_from (bytes_eq (text x)) (i + 1) (texts_told text ts)) ≡ Some k
          → (position_from (bytes_eq (text x)) (i + 1) (texts_told text ts) ≡ Some k → (n : ℕ) × (k ≡ i + 1 + n) × IsCounted ts x n)
          → (n : ℕ) × (k ≡ i + n) × IsCounted (t ∷ ts) x n
      by true same is rest =
          let e : i ≡ k = cc in (
            zero,
            sym e ∙ omega arith,
            record {
              within = omega arith;
              counted_more = λ d. ap (λ (b : Bool). cond b (record t { count = t.count + 1 } ∷ ts) (t ∷ with_one text ts x)) same;
            },
          )
      by false other is rest =
          let more = rest is in (
            suc more.0,
            more.1 ∙ omega arith,
            record {
              within = omega (arith, more.2.within);
              counted_more = λ d.
                  ap (λ (b : Bool). cond b (record t { count = t.count + 1 } ∷ ts) (t ∷ with_one text ts x)) other
                  ∙ ap (λ (l : List (Told A)). t ∷ l) (more.2.counted_more d);
            },
          )

  pub told_at : (ts : List (Told A)) (x : A) (k : ℕ) → position_from (bytes_eq (text x)) 0 (texts_told text ts) ≡ Some k → IsCounted ts x k
  told_at ts x k is =
      let there = at_from ts x 0 k is in
      let e : there.0 ≡ k = sym (there.1 ∙ omega arith) in
      subst (IsCounted ts x) e there.2

  -- the texts stay, where one is counted once more
  pub same_texts : (ts : List (Told A)) (k n : ℕ) (d : Told A) → texts_told text (slice_set ts k (record (get_or ts k d) { count = n })) ≡ texts_told text ts
  same_texts [] k n d = refl
  same_texts (t ∷ ts) zero n d = refl
  same_texts (t ∷ ts) (suc k) n d = ap (λ (l : List Text). text t.first ∷ l) (same_texts ts k n d)

  -- no text has more items than there are
  counts_within : (count : A → ℕ) (n : ℕ) → ((x : A) → count x ≤ n) → (xs : List A) (k : ℕ) (d : Told A) → k < length xs → (get_or (counted count xs) k d).count ≤ n
  counts_within count n most [] k d h = absurd (omega arith)
  counts_within count n most (x ∷ xs) zero d h = most x
  counts_within count n most (x ∷ xs) (suc k) d h = counts_within count n most xs k d (omega arith)

  pub count_within : (xs : List A) (k : ℕ) (d : Told A) → k < length (told_once text xs) → (get_or (told_once text xs) k d).count ≤ length xs
  count_within xs k d h =
      counts_within (λ x. count_by (have_one_text text x) xs) (length xs) (λ x. count_by-le-length (have_one_text text x) xs) (firsts text xs) k d
      (omega (arith, length-map (firsts text xs) (λ x. let t : Told A = record { first = x; count = count_by (have_one_text text x) xs } in t)))

  -- ---- what is told of all

  one_counted : (ts : List (Told A)) (x : A) → sum_by (λ t. t.count) (with_one text ts x) ≡ sum_by (λ t. t.count) ts + 1
  one_counted [] x = refl
  one_counted (t ∷ ts) x = by (have_one_text text x t.first) (one_counted ts x)
    where
      by : (b : Bool) → sum_by (λ t. t.count) (with_one text ts x) ≡ sum_by (λ t. t.count) ts + 1
          → sum_by (λ t. t.count) (cond b (record t { count = t.count + 1 } ∷ ts) (t ∷ with_one text ts x)) ≡ sum_by (λ t. t.count) (t ∷ ts) + 1
      by true rest =
          let e = sum_by-cons (λ (t : Told A). t.count) (record t { count = t.count + 1 }) ts in
          let f = sum_by-cons (λ (t : Told A). t.count) t ts in omega (arith, e, f)
      by false rest =
          let e = sum_by-cons (λ (t : Told A). t.count) t (with_one text ts x) in
          let f = sum_by-cons (λ (t : Told A). t.count) t ts in omega (arith, e, f)

  total_behind : (xs ys : List A) → sum_by (λ t. t.count) (told_once text (xs ++ ys)) ≡ sum_by (λ t. t.count) (told_once text xs) + length ys
  total_behind xs [] = ap (λ (l : List A). sum_by (λ t. t.count) (told_once text l)) (append-nil xs) ∙ omega arith
  total_behind xs (y ∷ ys) =
      ap (λ (l : List A). sum_by (λ t. t.count) (told_once text l)) (sym (append_assoc xs (y ∷ []) ys))
      ∙ total_behind (xs ++ y ∷ []) ys
      ∙ ap (λ (ts : List (Told A)). sum_by (λ t. t.count) ts + length ys) (told-snoc xs y)
      ∙ ap (λ (n : ℕ). n + length ys) (one_counted (told_once text xs) y)
      ∙ omega arith

  -- the counts together are the number of items
  pub total : (xs : List A) → sum_by (λ t. t.count) (told_once text xs) ≡ length xs
  total xs = total_behind [] xs ∙ omega arith

  none_left : (x y : A) → have_one_text text y x ≡ true → (ts : List (Told A)) → count_by (λ t. have_one_text text y t.first) (others x ts) ≡ 0
  none_left x y same [] = refl
  none_left x y same (t ∷ ts) = by (have_one_text text x t.first) refl (none_left x y same ts)
    where
      by : (b : Bool) → have_one_text text x t.first ≡ b → count_by (λ t. have_one_text text y t.first) (others x ts) ≡ 0
          → count_by (λ t. have_one_text text y t.first) (cond (not b) (t ∷ others x ts) (others x ts)) ≡ 0
      by true is rest = rest
      by false is rest =
          let e = sum_by-cons (λ (t : Told A). cond (have_one_text text y t.first) 1 0) t (others x ts) in
          let f : have_one_text text y t.first ≡ false = (laws text).congr y x t.first same ∙ is in
          e ∙ ap (λ (b : Bool). cond b 1 0 + count_by (λ (t : Told A). have_one_text text y t.first) (others x ts)) f ∙ omega (arith, rest)

  all_left : (x y : A) → have_one_text text y x ≡ false → (ts : List (Told A))
      → count_by (λ t. have_one_text text y t.first) (others x ts) ≡ count_by (λ t. have_one_text text y t.first) ts
  all_left x y other [] = refl
  all_left x y other (t ∷ ts) = by (have_one_text text x t.first) refl (all_left x y other ts)
    where
      by : (b : Bool) → have_one_text text x t.first ≡ b
          → count_by (λ t. have_one_text text y t.first) (others x ts) ≡ count_by (λ t. have_one_text text y t.first) ts
          → count_by (λ t. have_one_text text y t.first) (cond (not b) (t ∷ others x ts) (others x ts)) ≡ count_by (λ t. have_one_text text y t.first) (t ∷ ts)
      by true is rest =
          let e = sum_by-cons (λ (t : Told A). cond (have_one_text text y t.first) 1 0) t ts in
          let f : have_one_text text y t.first ≡ false =
          (laws text).symm y t.first ∙ sym ((laws text).congr x t.first y is) ∙ (laws text).symm x y ∙ other in
          rest ∙ sym (e ∙ ap (λ (b : Bool). cond b 1 0 + count_by (λ (t : Told A). have_one_text text y t.first) ts) f ∙ omega arith)
      by false is rest =
          let e = sum_by-cons (λ (t : Told A). cond (have_one_text text y t.first) 1 0) t (others x ts) in
          let f = sum_by-cons (λ (t : Told A). cond (have_one_text text y t.first) 1 0) t ts in
          e ∙ ap (λ (n : ℕ). cond (have_one_text text y t.first) 1 0 + n) rest ∙ sym f

  -- a text is told by one, where an item has it, and by none else
  pub told_by_one : (xs : List A) (y : A) → count_by (λ t. have_one_text text y t.first) (told_once text xs) ≡ cond (has_text_of text xs y) 1 0
  told_by_one [] y = refl
  told_by_one (x ∷ xs) y =
      ap (count_by (λ (t : Told A). have_one_text text y t.first)) (told-cons x xs)
      ∙ sum_by-cons (λ (t : Told A). cond (have_one_text text y t.first) 1 0) (record { first = x; count = 1 + count_by (have_one_text text x) xs }) (others x (told_once text xs))
      ∙ by (have_one_text text y x) refl (told_by_one xs y)
    where
      by : (b : Bool) → have_one_text text y x ≡ b
          → count_by (λ (t : Told A). have_one_text text y t.first) (told_once text xs) ≡ cond (has_text_of text xs y) 1 0
          → cond b 1 0 + count_by (λ (t : Told A). have_one_text text y t.first) (others x (told_once text xs)) ≡ cond (b || has_text_of text xs y) 1 0
      by true is rest = ap (λ (n : ℕ). 1 + n) (none_left x y is (told_once text xs))
      by false is rest = zero-add _ ∙ all_left x y is (told_once text xs) ∙ rest

  all_filtered : (p q : Told A → Bool) (ts : List (Told A)) → list_all p ts ≡ true → list_all p (filter q ts) ≡ true
  all_filtered p q [] h = refl
  all_filtered p q (t ∷ ts) h =
      let parts = and_parts (p t) (list_all p ts) h in by (q t) parts.0 (all_filtered p q ts parts.1)
    where
      by : (b : Bool) → p t ≡ true → list_all p (filter q ts) ≡ true → list_all p (cond b (t ∷ filter q ts) (filter q ts)) ≡ true
      by true own rest = rw (own) rest
      by false own rest = rest

  -- no text is told of no items
  pub none_empty : (xs : List A) → list_all (λ t. nat_lt 0 t.count) (told_once text xs) ≡ true
  none_empty [] = refl
  none_empty (x ∷ xs) =
      ap (list_all (λ (t : Told A). nat_lt 0 t.count)) (told-cons x xs)
      ∙ ap (λ (b : Bool). b && list_all (λ (t : Told A). nat_lt 0 t.count) (others x (told_once text xs)))
      (lt-ltb 0 (1 + count_by (have_one_text text x) xs) (omega arith))
      ∙ all_filtered (λ t. nat_lt 0 t.count) (λ t. not (have_one_text text x t.first)) (told_once text xs) (none_empty xs)
