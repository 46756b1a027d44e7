-- One more turn of a loop that builds a list, and answers at an equal value.
use Rattle.std.proofs.Common.{◌≡◌, ℕ, ◌<◌, ◌+◌, List, [], ◌∷◌, ◌++◌, map, length, get_or, take, filter, Bool, true, false, cond, ◌||◌, Some, ◌≤◌, if◌then◌else◌, Result, sym, ◌∙◌, ap, subst, inl, inr, arith}
use Rattle.std.specs.List.{list_any, slice_get}
use Rattle.std.specs.Map.{keys_of}
use Rattle.std.proofs.lemmas.Bool.{cases_eq}
use Rattle.std.proofs.lemmas.List.{take_more, append-nil, map-append, length-map, length-take-le}
use Rattle.std.proofs.lemmas.Option.{slice_get_within, get_or_from_slice_get}
use Rattle.std.proofs.lemmas.List.Elements.{filter_more}
use Rattle.std.proofs.lemmas.List.Folds.{list_any_more}
use Rattle.fhir_json.specs.Memory.{Gives}
use Rattle.fhir_json.specs.Tree.{Text}
use Rattle.fhir_json.specs.declared.memory.NoMemory.{NoMemory}

module _ {A : Type 0} where
  kept : (p : A → Bool) (x : A) (out after : List A) (b : Bool) → b ≡ p x → after ≡ (if b then out ++ x ∷ [] else out) → after ≡ out ++ cond (p x) (x ∷ []) []
  kept p x out after true is grown = grown ∙ ap (λ c. out ++ cond c (x ∷ []) []) is
  kept p x out after false is grown = grown ∙ sym (append-nil out) ∙ ap (λ c. out ++ cond c (x ∷ []) []) is

  pub keep_more : (p : A → Bool) (xs out after : List A) (i : ℕ) (x : A) (b : Bool) → i < length xs → x ≡ get_or xs i x → b ≡ p x → after ≡ (if b then out ++ x ∷ [] else out) → out ≡ filter p (take i xs) → after ≡ filter p (take (i + 1) xs)
  keep_more p xs out after i x b lt at is grown before =
      kept p x out after b is grown
      ∙ ap (λ l. l ++ cond (p x) (x ∷ []) []) before
      ∙ ap (λ y. filter p (take i xs) ++ cond (p y) (y ∷ []) []) at
      ∙ sym (filter_more p xs i x lt)

  -- a test of one more
  pub any_more : (p : A → Bool) (xs : List A) (i : ℕ) (x : A) → i < length xs → x ≡ get_or xs i x → list_any p (take (i + 1) xs) ≡ (list_any p (take i xs) || p x)
  any_more p xs i x lt at = list_any_more p xs i x lt ∙ ap (λ y. list_any p (take i xs) || p y) (sym at)

-- one more that is mapped
pub map_more : {A B D : Type 0} (view : A → B) (of : D → B) (xs new : List A) (ds : List D) (i : ℕ) (x : A) (d : D)
    → i < length ds → d ≡ get_or ds i d → new ≡ xs ++ x ∷ [] → view x ≡ of d → map view xs ≡ map of (take i ds)
    → map view new ≡ map of (take (i + 1) ds)
map_more view of xs new ds i x d h is more same before =
    ap (map view) more ∙ map-append view xs (x ∷ []) ∙ ap (λ l. l ++ view x ∷ []) before
    ∙ ap (λ y. map of (take i ds) ++ y ∷ []) (same ∙ ap of is)
    ∙ sym (map-append of (take i ds) (get_or ds i d ∷ []))
    ∙ ap (map of) (sym (take_more ds i d h))

-- what is given is given as each equal value
pub gives_as : {X Y : Type 0} (view : X → Y) (r : Result X NoMemory) (x y : Y) → x ≡ y → Gives view r x → Gives view r y
gives_as view r x y e h = subst (Gives view r) e h

-- the next one of a list
pub take_at : {A : Type 0} (xs : List A) (i : ℕ) (x : A) → slice_get xs i ≡ Some x → take (i + 1) xs ≡ take i xs ++ x ∷ []
take_at xs i x at = take_more xs i x (slice_get_within xs i x at) ∙ ap (λ y. take i xs ++ y ∷ []) (get_or_from_slice_get xs i x x at)

-- the keys of one entry more
pub keys_more : {V : Type 0} (es : List (Text × V)) (i : ℕ) (e : Text × V) → slice_get es i ≡ Some e → keys_of (take i es) ++ e.0 ∷ [] ≡ keys_of (take (i + 1) es)
keys_more es i e at = sym (ap keys_of (take_at es i e at) ∙ map-append (λ (e : Text × _). e.0) (take i es) (e ∷ []))

pub count_keys : {V : Type 0} (es : List (Text × V)) (i : ℕ) → i ≤ length es → length (keys_of (take i es)) ≡ i
count_keys es i le = length-map (take i es) (λ e. e.0) ∙ length-take-le i es le

-- none up to one more
pub none_more : (test : ℕ → Bool) (n : ℕ) → ((k : ℕ) → k < n → test k ≡ false) → test n ≡ false → (k : ℕ) → k < n + 1 → test k ≡ false
none_more test n below here k lt = elim (cases_eq k n) [ inl same ↦ ap test same ∙ here | inr ne ↦ below k (omega (arith, ne, lt)) ]
