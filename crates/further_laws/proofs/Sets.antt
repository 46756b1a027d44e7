-- What a set of concepts has, and what a value set is put together from.
use Rattle.std.proofs.Common.{◌≡◌, ◌↔◌, Bool, true, List, [], ◌∷◌, ◌++◌, map, not, ◌&&◌, ◌||◌, Option, Some, codes, refl, sym, ap, ◌∙◌, inl, inr, IsTrue}
use Rattle.std.specs.List.{list_any, list_all}
use Rattle.std.specs.Option.{option_map_or}
use Rattle.std.specs.Str.{bytes_eq}
use Rattle.std.specs.Ordering.{eq_by_cmp, is_eq, nat_cmp}
use Rattle.std.specs.Cmp.{IsTotalOrder}
use Rattle.std.specs.Cmp.Lexicographic.{slice_cmp}
use Rattle.std.specs.FinSet as set
use Rattle.std.specs.declared.cmp.Ordering.{Ordering}
use Rattle.std.specs.declared.cmp.Ordering.TheVariants.{Less, Equal, Greater}
use Rattle.std.proofs.lemmas.Cmp.{tied_itself, then_total, on_total, nat_list_cmp_total}
use Rattle.std.proofs.lemmas.List.Folds.{list_all-map}
use Rattle.std.proofs.lemmas.Map.Lookups.{exact_pairs, exact_bytes}
use Rattle.std.proofs.lemmas.Bool.{or_cases, or_left, or_right, false≢true}
use Rattle.std.proofs.lemmas.Slice.Eq.{bytes_eq-Decides}
use Rattle.fhir_json.specs.Tree.{Text, Tree}
use Rattle.fhir_json.specs.Fields.{text_in}
use Rattle.fhir_package.specs.Definitions.{Definitions}
use Rattle.fhir_codes.specs.Concepts.{Concept, Concepts, concept, concept_cmp, has_code, of_system, union_of, common}
use Rattle.fhir_codes.specs.ValueSets.{sets_named, includes, excludes, codes_taken, of_set, of_include, composition}

-- ---- the order of concepts

concept_total : IsTotalOrder concept_cmp
concept_total = then_total (on_total (λ (c : Concept). c.code) nat_list_cmp_total) (on_total (λ (c : Concept). c.system) nat_list_cmp_total)

abbrev same : Concept → Concept → Bool
same x y = eq_by_cmp concept_cmp x y

is_equal : (r : Ordering) → is_eq r ≡ true → r ≡ Equal
is_equal Less e = absurd (false≢true e)
is_equal Equal e = refl
is_equal Greater e = absurd (false≢true e)

one_concept : (x y : Concept) → same x y ≡ true → x ≡ y
one_concept x y h =
    ap (λ (p : Text × Text). concept p.1 p.0)
    (exact_pairs (slice_cmp nat_cmp) (slice_cmp nat_cmp) exact_bytes exact_bytes (x.code, x.system) (y.code, y.system) (is_equal (concept_cmp x y) h))

same_itself : (x : Concept) → same x x ≡ true
same_itself x = ap is_eq (tied_itself concept_total x)

-- ---- codes

-- one of the list passes
one_passes : (p : Concept → Bool) (xs : List Concept) → list_any p xs ≡ true → (x : Concept) × IsTrue (p x) × (list_any (same x) xs ≡ true)
one_passes p [] h = absurd (false≢true h)
one_passes p (y ∷ ys) h =
    elim (or_cases (p y) (list_any p ys) h) [
      | inl here ↦ (y, here, or_left (same y y) (list_any (same y) ys) (same_itself y))
      | inr behind ↦
          let x = one_passes p ys behind in
          (x.0, x.1, or_right (same x.0 y) (list_any (same x.0) ys) x.2)
    ]

passes : (p : Concept → Bool) (x : Concept) → IsTrue (p x) → (ys : List Concept) → list_any (same x) ys ≡ true → list_any p ys ≡ true
passes p x is [] there = absurd (false≢true there)
passes p x is (y ∷ ys) there =
    elim (or_cases (same x y) (list_any (same x) ys) there) [
      | inl here ↦ or_left (p y) (list_any p ys) (sym (ap p (one_concept x y here)) ∙ is)
      | inr behind ↦ or_right (p y) (list_any p ys) (passes p x is ys behind)
    ]

in_system : (s : Concepts) (code : Text) → IsTrue (has_code code s) → (system : Text) × IsTrue (set.contains s (concept system code))
in_system s code h =
    let x = one_passes (λ c. bytes_eq code c.code) (set.items s) h in
    let is : x.0.code ≡ code = sym ((bytes_eq-Decides code x.0.code).0 x.1) in
    (x.0.system, ap (λ (t : Text). set.contains s (concept x.0.system t)) (sym is) ∙ set.contains-items s x.0 ∙ x.2)

of_some : (s : Concepts) (code system : Text) → IsTrue (set.contains s (concept system code)) → IsTrue (has_code code s)
of_some s code system h =
    passes (λ c. bytes_eq code c.code) (concept system code) ((bytes_eq-Decides code code).1 refl) (set.items s)
    (sym (set.contains-items s (concept system code)) ∙ h)

pub code_somewhere : (s : Concepts) (code : Text) → IsTrue (has_code code s) ↔ ((system : Text) × IsTrue (set.contains s (concept system code)))
code_somewhere s code = (in_system s code, λ some. of_some s code some.0 some.1)

-- ---- value sets

any-map : {A B : Type 0} (test : B → Bool) (f : A → B) (xs : List A) → list_any test (map f xs) ≡ list_any (λ x. test (f x)) xs
any-map test f [] = refl
any-map test f (x ∷ xs) = λ i. test (f x) || any-map test f xs i

abbrev pub OfUnion : Type 0
OfUnion = (ss : List Concepts) (c : Concept) → set.contains (union_of ss) c ≡ list_any (λ s. set.contains s c) ss

abbrev pub OfCommon : Type 0
OfCommon = (s : Concepts) (ss : List Concepts) (c : Concept) → set.contains (common (s ∷ ss)) c ≡ list_all (λ s. set.contains s c) (s ∷ ss)

abbrev pub OfSystem : Type 0
OfSystem = (system : Text) (cs : List Text) (c : Concept) → set.contains (of_system system cs) c ≡ (bytes_eq c.system system && list_any (bytes_eq c.code) cs)

module _ (p : Definitions) (known : Text → Option Concepts) (t : Tree) (c : Concept) where
  united : OfUnion → (is : List Tree) → set.contains (union_of (map (of_include p known) is)) c ≡ list_any (λ i. set.contains (of_include p known i) c) is
  united of_union is = of_union (map (of_include p known) is) c ∙ any-map (λ s. set.contains s c) (of_include p known) is

  pub of_parts : OfUnion → set.contains (composition p known t) c
      ≡ (list_any (λ i. set.contains (of_include p known i) c) (includes t) && not (list_any (λ e. set.contains (of_include p known e) c) (excludes t)))
  of_parts of_union =
      set.contains-difference concept_total (union_of (map (of_include p known) (includes t))) (union_of (map (of_include p known) (excludes t))) c
      ∙ (λ j. united of_union (includes t) j && not (united of_union (excludes t) j))

  pub of_one_system : OfCommon → OfSystem → (system : Text) → text_in (codes "system") t ≡ Some system → set.contains (of_include p known t) c
      ≡ (bytes_eq c.system system && list_any (bytes_eq c.code) (codes_taken p t system) && list_all (λ n. set.contains (of_set p known n) c) (sets_named t))
  of_one_system of_common of_all system is =
      ap (λ (o : Option Text). set.contains (common (option_map_or (λ system. of_system system (codes_taken p t system) ∷ []) o [] ++ map (of_set p known) (sets_named t))) c) is
      ∙ of_common (of_system system (codes_taken p t system)) (map (of_set p known) (sets_named t)) c
      ∙ (λ j. of_all system (codes_taken p t system) c j && list_all-map (λ s. set.contains s c) (of_set p known) (sets_named t) j)
