-- One more value set found, and none left to find.
use Rattle.std.proofs.Common.{◌≡◌, ℕ, zero, suc, ◌<◌, ◌≤◌, [], ◌∷◌, length, set, true, false, Option, None, Some, is_none, refl, sym, ◌∙◌, ap, subst, inl, inr, arith}
use mathlib.Core.Bool.{false≢true}
use Rattle.std.specs.List.{slice_get}
use Rattle.std.specs.Option.{option_map, option_map_or, option_and_then}
use Rattle.std.proofs.lemmas.Bool.{cases_eq, and_parts, and_from}
use Rattle.std.proofs.lemmas.List.{length-set}
use Rattle.std.proofs.lemmas.Option.{slice_get_within}
use Rattle.fhir_json.specs.Tree.{Text, Tree}
use Rattle.fhir_package.specs.declared.kind.Kind.TheVariants.{ValueSet}
use Rattle.fhir_package.specs.Definitions.{Definitions}
use Rattle.fhir_package.specs.Canonical.{named_by}
use Rattle.fhir_codes.specs.Concepts.{Concepts}
use Rattle.fhir_codes.specs.ValueSets.{composition, is_read, expansion, expanded, concepts_of}
use Rattle.fhir_codes.specs.Placing.{Found, found_at, found_concepts, place_named, tree_at}
use Rattle.fhir_codes.specs.Filled.{concepts_at, is_ready, one_if_found, found_count, AreFilled, AreDone}
use Rattle.fhir_codes.proofs.Places.{named_tree}
use Rattle.fhir_codes.proofs.Rounds.{IsBelow, no_some, and_then_more, chosen, guarded, step, step_more, expansion_more}
use Rattle.fhir_codes.proofs.Settled.{both_below, then_then, concepts_step}

-- ---- lists of what has been found

get_set_same : (sets : Found) (place : ℕ) (s : Option Concepts) → place < length sets → slice_get (set sets place s) place ≡ Some s
get_set_same [] place s lt = absurd (omega arith)
get_set_same (x ∷ xs) zero s lt = refl
get_set_same (x ∷ xs) (suc place) s lt = get_set_same xs place s (omega arith)

get_set_other : (sets : Found) (place k : ℕ) (s : Option Concepts) → (k ≡ place → ⊥) → slice_get (set sets place s) k ≡ slice_get sets k
get_set_other [] place k s ne = refl
get_set_other (x ∷ xs) zero zero s ne = absurd (ne refl)
get_set_other (x ∷ xs) zero (suc k) s ne = refl
get_set_other (x ∷ xs) (suc place) zero s ne = refl
get_set_other (x ∷ xs) (suc place) (suc k) s ne = get_set_other xs place k s (λ e. ne (ap suc e))

found_none : (o : Option Concepts) → o ≡ None → one_if_found o ≡ 0
found_none o e = ap one_if_found e

pub count_set : (sets : Found) (place : ℕ) (s : Concepts) → place < length sets → found_at sets place ≡ None → found_count (set sets place (Some s)) ≡ suc (found_count sets)
count_set [] place s lt none = absurd (omega arith)
count_set (x ∷ xs) zero s lt none =
    let nothing : one_if_found x ≡ 0 = found_none x none in omega arith
count_set (x ∷ xs) (suc place) s lt none =
    let rest : found_count (set xs place (Some s)) ≡ suc (found_count xs) = count_set xs place s (omega arith) none in omega arith

one_most : (o : Option Concepts) → one_if_found o ≤ 1
one_most None = omega arith
one_most (Some s) = omega arith

pub count_most : (sets : Found) → found_count sets ≤ length sets
count_most [] = omega arith
count_most (x ∷ sets) = let h = count_most sets in let k = one_most x in omega arith

-- ---- what has been found is right

then_some : {A B : Type 0} (f : A → Option B) (o : Option A) (y : B) → option_and_then f o ≡ Some y → (x : A) × (o ≡ Some x) × (f x ≡ Some y)
then_some f None y e = no_some y e
then_some f (Some x) y e = (x, refl, e)

concepts_placed : (p : Definitions) (canonical : Text) → concepts_of p canonical ≡ option_and_then (concepts_at p) (place_named p canonical)
concepts_placed p canonical =
    concepts_step p canonical
    ∙ ap (option_and_then (expansion p (concepts_of p))) (named_tree p canonical)
    ∙ then_then (expansion p (concepts_of p)) (tree_at p) (place_named p canonical)

known_below : (p : Definitions) (sets : Found) → AreFilled p sets → IsBelow (found_concepts p sets) (concepts_of p)
known_below p sets f canonical s e = concepts_placed p canonical ∙ and_then_more (found_at sets) (concepts_at p) (place_named p canonical) s (λ place. f.1 place s) e

right_at : (p : Definitions) (sets : Found) → AreFilled p sets → (place : ℕ) (t : Tree) (s : Concepts) → tree_at p place ≡ Some t → expansion p (found_concepts p sets) t ≡ Some s → concepts_at p place ≡ Some s
right_at p sets f place t s at e = ap (option_and_then (expansion p (concepts_of p))) at ∙ expansion_more p (found_concepts p sets) (concepts_of p) (known_below p sets f) t s e

pub filled_step : (p : Definitions) (sets : Found) (place : ℕ) (t : Tree) (s : Concepts) → AreFilled p sets → place < length sets → tree_at p place ≡ Some t → expansion p (found_concepts p sets) t ≡ Some s → AreFilled p (set sets place (Some s))
filled_step p sets place t s f lt at e = (length-set sets place (Some s) ∙ f.0, right)
  where
    here : (r : Concepts) → found_at (set sets place (Some s)) place ≡ Some r → concepts_at p place ≡ Some r
    here r is = right_at p sets f place t s at e ∙ sym (ap (option_and_then (λ o. o)) (get_set_same sets place (Some s) lt)) ∙ is

    right : (k : ℕ) (r : Concepts) → found_at (set sets place (Some s)) k ≡ Some r → concepts_at p k ≡ Some r
    right k r is = elim (cases_eq k place) [
      | inl same ↦ subst (λ j. found_at (set sets place (Some s)) j ≡ Some r → concepts_at p j ≡ Some r) (sym same) (here r) is
      | inr ne ↦ f.1 k r (sym (ap (option_and_then (λ o. o)) (get_set_other sets place k (Some s) ne)) ∙ is)
    ]

-- what is ready is read, and hasn't been found
pub ready_parts : (p : Definitions) (sets : Found) (place : ℕ) (t : Tree) → tree_at p place ≡ Some t → is_ready p sets place ≡ true → (found_at sets place ≡ None) × (is_read p (found_concepts p sets) t ≡ true)
ready_parts p sets place t at is =
    let parts = and_parts (is_none (found_at sets place)) (option_map_or (is_read p (found_concepts p sets)) (tree_at p place) false) is in
    (is_nothing (found_at sets place) parts.0, sym (ap (λ o. option_map_or (is_read p (found_concepts p sets)) o false) at) ∙ parts.1)
  where
    is_nothing : (o : Option Concepts) → is_none o ≡ true → o ≡ None
    is_nothing None e = refl
    is_nothing (Some x) e = absurd (false≢true e)

pub expansion_read : (p : Definitions) (sets : Found) (t : Tree) (s : Concepts) → is_read p (found_concepts p sets) t ≡ true → s ≡ composition p (found_concepts p sets) t → expansion p (found_concepts p sets) t ≡ Some s
expansion_read p sets t s is e = chosen (is_read p (found_concepts p sets) t) (composition p (found_concepts p sets) t) is ∙ ap Some (sym e)

pub place_within : (p : Definitions) (sets : Found) (place : ℕ) (t : Tree) → length sets ≡ length p.value_sets → tree_at p place ≡ Some t → place < length sets
place_within p sets place t same at = let within = tree_within p place t at in omega (arith, within, same)
  where
    some_of : {A B : Type 0} (f : A → B) (o : Option A) (y : B) → option_map f o ≡ Some y → (x : A) × (o ≡ Some x)
    some_of f None y e = no_some y e
    some_of f (Some x) y e = (x, refl)

    tree_within : (p : Definitions) (place : ℕ) (t : Tree) → tree_at p place ≡ Some t → place < length p.value_sets
    tree_within p place t at =
        let e = some_of (λ (e : Text × Tree). e.1) (slice_get p.value_sets place) t at in slice_get_within p.value_sets place e.0 e.1

-- none yet
pub none_filled : (p : Definitions) (sets : Found) → length sets ≡ length p.value_sets → ((k : ℕ) → found_at sets k ≡ None) → AreFilled p sets
none_filled p sets same none = (same, λ place s e. no_some s (sym (none place) ∙ e))

-- ---- none left

abbrev pub NoneReady : Definitions → Found → Type 0
NoneReady p sets = (place : ℕ) → place < length p.value_sets → is_ready p sets place ≡ false

-- what is read and isn't ready has been found
found_if : (p : Definitions) (sets : Found) → AreFilled p sets → NoneReady p sets → (place : ℕ) (t : Tree) (s : Concepts) → tree_at p place ≡ Some t → expansion p (found_concepts p sets) t ≡ Some s → found_at sets place ≡ Some s
found_if p sets f none place t s at e = found (found_at sets place) refl
  where
    read : option_map_or (is_read p (found_concepts p sets)) (tree_at p place) false ≡ true
    read = ap (λ o. option_map_or (is_read p (found_concepts p sets)) o false) at ∙ (guarded (is_read p (found_concepts p sets) t) (composition p (found_concepts p sets) t) s e).0

    within : place < length p.value_sets
    within = let lt = place_within p sets place t f.0 at in omega (arith, lt, f.0)

    found : (o : Option Concepts) → found_at sets place ≡ o → found_at sets place ≡ Some s
    found None is =
        absurd (false≢true (sym (none place within) ∙ and_from (is_none (found_at sets place)) (option_map_or (is_read p (found_concepts p sets)) (tree_at p place) false) (ap is_none is) read))
    found (Some r) is = is ∙ sym (f.1 place r is) ∙ right_at p sets f place t s at e

expanded_known : (p : Definitions) (sets : Found) → AreFilled p sets → NoneReady p sets → (n : ℕ) → IsBelow (expanded p n) (found_concepts p sets)
expanded_known p sets f none zero canonical s e = no_some s e
expanded_known p sets f none (suc n) canonical s e =
    let told : step p (found_concepts p sets) canonical ≡ Some s = step_more p (expanded p n) (found_concepts p sets) (expanded_known p sets f none n) canonical s e in
    let tree = then_some (expansion p (found_concepts p sets)) (named_by ValueSet canonical p) s told in
    let place = then_some (tree_at p) (place_named p canonical) tree.0 (sym (named_tree p canonical) ∙ tree.1) in
    ap (option_and_then (found_at sets)) place.1 ∙ found_if p sets f none place.0 tree.0 s place.2 tree.2

pub all_done : (p : Definitions) (sets : Found) → AreFilled p sets → NoneReady p sets → AreDone p sets
all_done p sets f none = (f.0, λ place. both_below (found_at sets place) (concepts_at p place) (f.1 place) (back place))
  where
    back : (place : ℕ) (s : Concepts) → concepts_at p place ≡ Some s → found_at sets place ≡ Some s
    back place s e =
        let tree = then_some (expansion p (concepts_of p)) (tree_at p place) s e in
        found_if p sets f none place tree.0 s tree.1
        (expansion_more p (concepts_of p) (found_concepts p sets) (expanded_known p sets f none (length p.value_sets)) tree.0 s tree.2)

-- what is found under a canonical is what it means
pub known_all : (p : Definitions) (sets : Found) → AreDone p sets → (canonical : Text) → found_concepts p sets canonical ≡ concepts_of p canonical
known_all p sets done canonical =
    (λ i. option_and_then (λ place. done.1 place i) (place_named p canonical)) ∙ sym (concepts_placed p canonical)

-- and at the place of an entry
pub found_entry : (p : Definitions) (sets : Found) → AreDone p sets → (place : ℕ) (e : Text × Tree) → slice_get p.value_sets place ≡ Some e → found_at sets place ≡ expansion p (concepts_of p) e.1
found_entry p sets done place e at = done.1 place ∙ ap (λ o. option_and_then (expansion p (concepts_of p)) (option_map (λ e. e.1) o)) at
