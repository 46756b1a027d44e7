-- Criteria that are the same find the same.
use Rattle.std.proofs.Common.{◌≡◌, Bool, true, false, ◌&&◌, ◌||◌, List, [], ◌∷◌, Option, None, Some, refl, sym, ap, ap₂, ◌∙◌, IsTrue}
use Rattle.std.specs.List.{list_all, list_any}
use Rattle.std.specs.Option.{option_map_or}
use Rattle.std.specs.Str.{bytes_eq}
use Rattle.std.proofs.lemmas.Bool.{and_parts, false≢true}
use Rattle.std.proofs.lemmas.Slice.Eq.{bytes_eq-Decides}
use Rattle.fhir_json.specs.Tree.{Text, Tree}
use Rattle.fhir_matching.specs.Equality.{equal}
use Rattle.fhir_matching.specs.Fitting.{fits}
use Rattle.fhir_forms.specs.Criteria.{Sought, fixed, pattern, present, absent, typed, Criterion}
use Rattle.fhir_schema.specs.Schemas.{SchemaValue}
use Rattle.fhir_instance.specs.Items.{Item, json_of}
use Rattle.fhir_slicing.specs.Belonging.{items_at, is_value, has_pattern, is_typed, is_found, criterion_holds}
use Rattle.fhir_slicing.specs.SameCriteria.{same_value, same_lists, same_sought, same_by, same_criterion}

pub same_bool : (a b : Bool) → (IsTrue a → IsTrue b) → (IsTrue b → IsTrue a) → a ≡ b
same_bool true b f g = sym (f refl)
same_bool false true f g = g refl
same_bool false false f g = refl

any_same : {A : Type 0} (p q : A → Bool) → ((x : A) → p x ≡ q x) → (xs : List A) → list_any p xs ≡ list_any q xs
any_same p q each [] = refl
any_same p q each (x ∷ xs) = ap₂ (λ (a b : Bool). a || b) (each x) (any_same p q each xs)

same_texts : (ts us : List Text) → IsTrue (same_lists bytes_eq ts us) → ts ≡ us
same_texts [] [] same = refl
same_texts [] (u ∷ us) same = absurd (false≢true same)
same_texts (t ∷ ts) [] same = absurd (false≢true same)
same_texts (t ∷ ts) (u ∷ us) same =
    let parts = and_parts (bytes_eq t u) (same_lists bytes_eq ts us) same in
    ap₂ (λ (v : Text) (vs : List Text). v ∷ vs) ((bytes_eq-Decides t u).0 parts.0) (same_texts ts us parts.1)

module _ (equal_through : (t u v : Tree) → IsTrue (equal t u) → IsTrue (equal u v) → IsTrue (equal t v))
    (fits_through : (t u v : Tree) → IsTrue (fits t u) → IsTrue (fits u v) → IsTrue (fits t v))
    (fits_equal : (t u : Tree) → IsTrue (equal t u) → IsTrue (fits u t)) where
  of_value : (t u : Tree) → IsTrue (same_value t u) → (x : Item) → is_value t x ≡ is_value u x
  of_value t u same x = by_case (json_of x) (and_parts (equal t u) (equal u t) same)
    where
      by_case : (o : Option Tree) → IsTrue (equal t u) × IsTrue (equal u t) → option_map_or (equal t) o false ≡ option_map_or (equal u) o false
      by_case None both = refl
      by_case (Some json) both = same_bool (equal t json) (equal u json) (equal_through u t json both.1) (equal_through t u json both.0)

  of_pattern : (t u : Tree) → IsTrue (same_value t u) → (x : Item) → has_pattern t x ≡ has_pattern u x
  of_pattern t u same x = by_case (json_of x) (and_parts (equal t u) (equal u t) same)
    where
      by_case : (o : Option Tree) → IsTrue (equal t u) × IsTrue (equal u t)
          → option_map_or (λ json. fits json t) o false ≡ option_map_or (λ json. fits json u) o false
      by_case None both = refl
      by_case (Some json) both =
          same_bool (fits json t) (fits json u)
          (λ holds. fits_through json t u holds (fits_equal u t both.1))
          (λ holds. fits_through json u t holds (fits_equal t u both.0))

  module _ (s : SchemaValue) where
    same_found : (f g : Sought) → IsTrue (same_sought f g) → (xs : List Item) → is_found s f xs ≡ is_found s g xs
    same_found (fixed t) (fixed u) same xs = any_same (is_value t) (is_value u) (of_value t u same) xs
    same_found (pattern t) (pattern u) same xs = any_same (has_pattern t) (has_pattern u) (of_pattern t u same) xs
    same_found present present same xs = refl
    same_found absent absent same xs = refl
    same_found (typed codes) (typed others) same xs = ap (λ (cs : List Text). list_any (is_typed s cs) xs) (same_texts codes others same)
    same_found (fixed t) (pattern u) same xs = absurd (false≢true same)
    same_found (fixed t) present same xs = absurd (false≢true same)
    same_found (fixed t) absent same xs = absurd (false≢true same)
    same_found (fixed t) (typed others) same xs = absurd (false≢true same)
    same_found (pattern t) (fixed u) same xs = absurd (false≢true same)
    same_found (pattern t) present same xs = absurd (false≢true same)
    same_found (pattern t) absent same xs = absurd (false≢true same)
    same_found (pattern t) (typed others) same xs = absurd (false≢true same)
    same_found present (fixed u) same xs = absurd (false≢true same)
    same_found present (pattern u) same xs = absurd (false≢true same)
    same_found present absent same xs = absurd (false≢true same)
    same_found present (typed others) same xs = absurd (false≢true same)
    same_found absent (fixed u) same xs = absurd (false≢true same)
    same_found absent (pattern u) same xs = absurd (false≢true same)
    same_found absent present same xs = absurd (false≢true same)
    same_found absent (typed others) same xs = absurd (false≢true same)
    same_found (typed codes) (fixed u) same xs = absurd (false≢true same)
    same_found (typed codes) (pattern u) same xs = absurd (false≢true same)
    same_found (typed codes) present same xs = absurd (false≢true same)
    same_found (typed codes) absent same xs = absurd (false≢true same)

    same_holds : (x : Item) (c d : Criterion) → IsTrue (same_criterion c d) → criterion_holds s x c ≡ criterion_holds s x d
    same_holds x c d same =
        let by = and_parts ((same_by c.by d.by && bytes_eq c.path d.path) && same_lists bytes_eq c.names d.names) (same_sought c.sought d.sought) same in
        let names = and_parts (same_by c.by d.by && bytes_eq c.path d.path) (same_lists bytes_eq c.names d.names) by.0 in
        ap (λ (ns : List Text). is_found s c.sought (items_at ns x)) (same_texts c.names d.names names.1)
        ∙ same_found c.sought d.sought by.1 (items_at d.names x)

    pub all_same_hold : (x : Item) (cs ds : List Criterion) → IsTrue (same_lists same_criterion cs ds)
        → list_all (criterion_holds s x) cs ≡ list_all (criterion_holds s x) ds
    all_same_hold x [] [] same = refl
    all_same_hold x [] (d ∷ ds) same = absurd (false≢true same)
    all_same_hold x (c ∷ cs) [] same = absurd (false≢true same)
    all_same_hold x (c ∷ cs) (d ∷ ds) same =
        let parts = and_parts (same_criterion c d) (same_lists same_criterion cs ds) same in
        ap₂ (λ (a b : Bool). a && b) (same_holds x c d parts.0) (all_same_hold x cs ds parts.1)
