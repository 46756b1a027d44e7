-- Where more is known, what was read stays read, with the same concepts.
use Rattle.std.proofs.Common.{◌≡◌, ℕ, zero, suc, List, [], ◌∷◌, ◌++◌, map, Bool, true, false, if◌then◌else◌, Option, None, Some, is_some, codes, refl, sym, ◌∙◌, ap}
use Rattle.std.specs.Option.{option_map_or, option_and_then}
use Rattle.std.specs.List.{list_all, flat_map}
use Rattle.std.specs.FinSet as set
use Rattle.std.proofs.lemmas.Bool.{and_parts, and_from}
use Rattle.std.proofs.lemmas.List.Folds.{list_all-append}
use Rattle.fhir_json.specs.Tree.{Text, Tree}
use Rattle.fhir_json.specs.Fields.{text_in}
use Rattle.fhir_package.specs.declared.kind.Kind.TheVariants.{ValueSet}
use Rattle.fhir_package.specs.Definitions.{Definitions}
use Rattle.fhir_package.specs.Canonical.{named_by}
use Rattle.fhir_codes.specs.Concepts.{Concepts, of_system, common, union_of}
use Rattle.fhir_codes.specs.ValueSets.{sets_named, includes, excludes, named, codes_taken, of_set, of_include, composition, is_read, expansion, expanded}
use Rattle.fhir_codes.specs.Least.{is_plain}
use Rattle.fhir_codes.proofs.Parts.{all_flat}

-- ---- options and lists

abbrev pub Known : Type 0
Known = Text → Option Concepts

-- what the first knows the second knows alike
abbrev pub IsBelow : Known → Known → Type 0
IsBelow f g = (canonical : Text) (s : Concepts) → f canonical ≡ Some s → g canonical ≡ Some s

pub no_some : {A : Type 0} {B : Type 0} (x : A) → None ≡ Some x → B
no_some x e = absurd (let bad : None ≡ Some x = e in cc)

pub one_some : {A : Type 0} (x y : A) → Some x ≡ Some y → x ≡ y
one_some x y e = cc

pub and_then_more : {A B : Type 0} (f g : A → Option B) (o : Option A) (y : B) → ((x : A) → f x ≡ Some y → g x ≡ Some y) → option_and_then f o ≡ Some y → option_and_then g o ≡ Some y
and_then_more f g None y h e = e
and_then_more f g (Some x) y h e = h x e

pub all_more : {A : Type 0} (p q : A → Bool) → ((x : A) → p x ≡ true → q x ≡ true) → (xs : List A) → list_all p xs ≡ true → list_all q xs ≡ true
all_more p q h [] all = refl
all_more p q h (x ∷ xs) all =
    let parts = and_parts (p x) (list_all p xs) all in
    and_from (q x) (list_all q xs) (h x parts.0) (all_more p q h xs parts.1)

map_agree : {A B : Type 0} (r : A → Bool) (f g : A → B) → ((x : A) → r x ≡ true → f x ≡ g x) → (xs : List A) → list_all r xs ≡ true → map f xs ≡ map g xs
map_agree r f g h [] all = refl
map_agree r f g h (x ∷ xs) all =
    let parts = and_parts (r x) (list_all r xs) all in
    ap (λ y. y ∷ map f xs) (h x parts.0) ∙ ap (λ ys. g x ∷ ys) (map_agree r f g h xs parts.1)

-- ---- one value set

pub guarded : (b : Bool) (x s : Concepts) → (if b then Some x else None) ≡ Some s → (b ≡ true) × (x ≡ s)
guarded true x s e = (refl, one_some x s e)
guarded false x s e = no_some s e

pub chosen : (b : Bool) (x : Concepts) → b ≡ true → (if b then Some x else None) ≡ Some x
chosen true x is = refl
chosen false x is = absurd (let bad : false ≡ true = is in cc)

pub is_some_at : (o : Option Concepts) → is_some o ≡ true → (s : Concepts) × (o ≡ Some s)
is_some_at None is = absurd (let bad : false ≡ true = is in cc)
is_some_at (Some s) is = (s, refl)

known_more : (f g : Known) → IsBelow f g → (canonical : Text) → is_some (f canonical) ≡ true → is_some (g canonical) ≡ true
known_more f g h canonical is =
    let at = is_some_at (f canonical) is in ap is_some (h canonical at.0 at.1)

same_set_of : (p : Definitions) (f g : Known) → IsBelow f g → (canonical : Text) → is_some (f canonical) ≡ true → of_set p f canonical ≡ of_set p g canonical
same_set_of p f g h canonical is =
    let at = is_some_at (f canonical) is in
    ap (λ o. option_map_or (λ s. s) o set.empty) (at.1 ∙ sym (h canonical at.0 at.1))

same_include : (p : Definitions) (f g : Known) → IsBelow f g → (t : Tree) → list_all (λ c. is_some (f c)) (sets_named t) ≡ true → of_include p f t ≡ of_include p g t
same_include p f g h t all =
    ap (λ l. common (option_map_or (λ system. of_system system (codes_taken p t system) ∷ []) (text_in (codes "system") t) [] ++ l))
    (map_agree (λ c. is_some (f c)) (of_set p f) (of_set p g) (same_set_of p f g h) (sets_named t) all)

same_includes : (p : Definitions) (f g : Known) → IsBelow f g → (ts : List Tree) → list_all (λ c. is_some (f c)) (flat_map sets_named ts) ≡ true → map (of_include p f) ts ≡ map (of_include p g) ts
same_includes p f g h ts all =
    map_agree (λ t. list_all (λ c. is_some (f c)) (sets_named t)) (of_include p f) (of_include p g) (same_include p f g h) ts
    (sym (all_flat (λ c. is_some (f c)) sets_named ts) ∙ all)

flat_parts : (q : Text → Bool) (xs ys : List Tree) → list_all q (flat_map sets_named (xs ++ ys)) ≡ true → (list_all q (flat_map sets_named xs) ≡ true) × (list_all q (flat_map sets_named ys) ≡ true)
flat_parts q xs ys all =
    let parts =
    and_parts (list_all (λ t. list_all q (sets_named t)) xs) (list_all (λ t. list_all q (sets_named t)) ys)
    (sym (list_all-append (λ t. list_all q (sets_named t)) xs ys) ∙ sym (all_flat q sets_named (xs ++ ys)) ∙ all)
    in (all_flat q sets_named xs ∙ parts.0, all_flat q sets_named ys ∙ parts.1)

same_composed : (p : Definitions) (f g : Known) → IsBelow f g → (t : Tree) → list_all (λ c. is_some (f c)) (named t) ≡ true → composition p f t ≡ composition p g t
same_composed p f g h t all =
    let parts = flat_parts (λ c. is_some (f c)) (includes t) (excludes t) all in
    ap (λ l. set.difference (union_of l) (union_of (map (of_include p f) (excludes t)))) (same_includes p f g h (includes t) parts.0)
    ∙ ap (λ l. set.difference (union_of (map (of_include p g) (includes t))) (union_of l)) (same_includes p f g h (excludes t) parts.1)

-- what is read is plain, and all that it names is known
pub read_parts_of : (p : Definitions) (f : Known) (t : Tree) (s : Concepts) → expansion p f t ≡ Some s → (is_plain p t ≡ true) × (list_all (λ c. is_some (f c)) (named t) ≡ true)
read_parts_of p f t s e = and_parts (is_plain p t) (list_all (λ c. is_some (f c)) (named t)) (guarded (is_read p f t) (composition p f t) s e).0

pub expansion_more : (p : Definitions) (f g : Known) → IsBelow f g → (t : Tree) (s : Concepts) → expansion p f t ≡ Some s → expansion p g t ≡ Some s
expansion_more p f g h t s e =
    let parts = read_parts_of p f t s e in
    let all : list_all (λ c. is_some (g c)) (named t) ≡ true = all_more (λ c. is_some (f c)) (λ c. is_some (g c)) (known_more f g h) (named t) parts.1 in
    let read : is_read p g t ≡ true = and_from (is_plain p t) (list_all (λ c. is_some (g c)) (named t)) parts.0 all in
    chosen (is_read p g t) (composition p g t) read
    ∙ ap Some (sym (same_composed p f g h t parts.1) ∙ (guarded (is_read p f t) (composition p f t) s e).1)

-- ---- one step more

abbrev pub step : Definitions → Known → Known
step p f canonical = option_and_then (expansion p f) (named_by ValueSet canonical p)

pub step_more : (p : Definitions) (f g : Known) → IsBelow f g → IsBelow (step p f) (step p g)
step_more p f g h canonical s e = and_then_more (expansion p f) (expansion p g) (named_by ValueSet canonical p) s (λ t. expansion_more p f g h t s) e

pub expanded_more : (p : Definitions) (n : ℕ) → IsBelow (expanded p n) (expanded p (suc n))
expanded_more p zero canonical s e = no_some s e
expanded_more p (suc n) canonical s e = step_more p (expanded p n) (expanded p (suc n)) (expanded_more p n) canonical s e
