-- The places of the definitions of a type.
use Rattle.std.proofs.Common.{◌≡◌, ℕ, suc, ◌+◌, Bool, true, false, cond, List, [], ◌∷◌, ◌++◌, map, filter, length, Option, Some, refl, sym, ap, ◌∙◌, arith, append_assoc, length-append}
use Rattle.std.specs.List.{slice_get, flat_map}
use Rattle.std.specs.Option.{option_map_or}
use Rattle.fhir_json.specs.Tree.{Text, Tree}
use Rattle.fhir_package.specs.Definitions.{ByUrl}
use Rattle.fhir_reach.specs.Keys.{KeyValue}
use Rattle.fhir_reach.specs.Naming.{structure_keys}
use Rattle.fhir_reach.specs.Reach.{is_type_of, types_of}
use Rattle.fhir_reach.specs.Places.{type_places, keys_at_place}

-- an entry behind others
pub places_snoc : (code : Text) (n m : ℕ) (es : ByUrl) (e : Text × Tree) → m ≡ n + length es
    → type_places code n (es ++ e ∷ []) ≡ cond (is_type_of code e.1) (type_places code n es ++ m ∷ []) (type_places code n es)
places_snoc code n m [] e at = by (is_type_of code e.1)
  where
    is : n ≡ m
    is = omega (arith, at)

    by : (b : Bool) → cond b (n ∷ []) [] ≡ cond b (m ∷ []) []
    by true = ap (λ (k : ℕ). k ∷ []) is
    by false = refl
places_snoc code n m (x ∷ es) e at =
    by (is_type_of code x.1) (is_type_of code e.1) (places_snoc code (suc n) m es e (omega (arith, at)))
  where
    by : (b c : Bool) → type_places code (suc n) (es ++ e ∷ []) ≡ cond c (type_places code (suc n) es ++ m ∷ []) (type_places code (suc n) es)
        → cond b (n ∷ type_places code (suc n) (es ++ e ∷ [])) (type_places code (suc n) (es ++ e ∷ []))
        ≡ cond c (cond b (n ∷ type_places code (suc n) es) (type_places code (suc n) es) ++ m ∷ []) (cond b (n ∷ type_places code (suc n) es) (type_places code (suc n) es))
    by true true rest = ap (λ (l : List ℕ). n ∷ l) rest
    by true false rest = ap (λ (l : List ℕ). n ∷ l) rest
    by false true rest = rest
    by false false rest = rest

get_behind : {A : Type 0} (xs : List A) (y : A) (ys : List A) → slice_get (xs ++ y ∷ ys) (length xs) ≡ Some y
get_behind [] y ys = refl
get_behind (x ∷ xs) y ys = get_behind xs y ys

-- what the definitions at those places name is what those of the type name
keys_from : (code : Text) (n : ℕ) (front es : ByUrl) → n ≡ length front
    → flat_map (keys_at_place (front ++ es)) (type_places code n es) ≡ flat_map structure_keys (types_of code es)
keys_from code n front [] at = refl
keys_from code n front (e ∷ es) at =
    by (is_type_of code e.1)
    (ap (λ (all : ByUrl). flat_map (keys_at_place all) (type_places code (suc n) es)) (sym (append_assoc front (e ∷ []) es))
    ∙ keys_from code (suc n) (front ++ e ∷ []) es (omega (arith, at, length-append front (e ∷ []))))
  where
    here : keys_at_place (front ++ e ∷ es) n ≡ structure_keys e.1
    here =
        ap (λ (k : ℕ). keys_at_place (front ++ e ∷ es) k) at
        ∙ ap (λ (o : Option (Text × Tree)). option_map_or (λ x. structure_keys x.1) o []) (get_behind front e es)

    by : (b : Bool) → flat_map (keys_at_place (front ++ e ∷ es)) (type_places code (suc n) es) ≡ flat_map structure_keys (types_of code es)
        → flat_map (keys_at_place (front ++ e ∷ es)) (cond b (n ∷ type_places code (suc n) es) (type_places code (suc n) es))
        ≡ flat_map structure_keys (map (λ x. x.1) (cond b (e ∷ filter (λ x. is_type_of code x.1) es) (filter (λ x. is_type_of code x.1) es)))
    by true rest = ap (λ (k : List KeyValue). k ++ flat_map (keys_at_place (front ++ e ∷ es)) (type_places code (suc n) es)) here ∙ ap (λ (k : List KeyValue). structure_keys e.1 ++ k) rest
    by false rest = rest

pub keys_of_type : (code : Text) (es : ByUrl) → flat_map (keys_at_place es) (type_places code 0 es) ≡ flat_map structure_keys (types_of code es)
keys_of_type code es = keys_from code 0 [] es refl
