-- A value set that lists concepts has these and no others, in whatever package it stands.
use Rattle.std.proofs.Common.{◌≡◌, Bool, true, false, not, ◌&&◌, ◌||◌, List, [], ◌∷◌, ◌++◌, map, Option, None, Some, is_some, if◌then◌else◌, codes, refl, ap, sym, ◌∙◌}
use Rattle.std.specs.Option.{option_map_or}
use Rattle.std.specs.List.{list_all, flat_map}
use Rattle.std.specs.FinSet as set
use Rattle.std.specs.declared.cmp.Ordering.TheVariants.{Equal}
use Rattle.std.specs.Ordering.{nat_cmp, eq_by_cmp}
use Rattle.std.specs.Cmp.{IsTotalOrder}
use Rattle.std.specs.Cmp.Lexicographic.{slice_cmp}
use Rattle.std.proofs.lemmas.Cmp.{then_total, on_total, nat_list_cmp_total}
use Rattle.std.proofs.lemmas.Map.Lookups.{exact_pairs, exact_bytes}
use Rattle.fhir_json.specs.Tree.{Text}
use Rattle.fhir_json.specs.Fields.{field, items_in}
use Rattle.fhir_json.proofs.Trees.{items_again}
use Rattle.fhir_package.specs.Definitions.{Definitions}
use Rattle.fhir_codes.specs.Concepts.{Concept, Concepts, concept, concept_cmp, union_of}
use Rattle.fhir_codes.specs.ValueSets.{includes, excludes, sets_named, is_compose, is_plain_include, of_include, composition, is_read, expansion}
use Rattle.fhir_alike.proofs.Rests.{append_nothing}
use Rattle.fhir_beside.specs.Listing.{include_of, compose_of, listed}

-- ---- sets of concepts

concept_total : IsTotalOrder concept_cmp
concept_total = then_total (on_total (λ (c : Concept). c.code) nat_list_cmp_total) (on_total (λ (c : Concept). c.system) nat_list_cmp_total)

exact_concepts : (x y : Concept) → concept_cmp x y ≡ Equal → x ≡ y
exact_concepts x y h =
    ap (λ (p : Text × Text). concept p.1 p.0)
    (exact_pairs (slice_cmp nat_cmp) (slice_cmp nat_cmp) exact_bytes exact_bytes (x.code, x.system) (y.code, y.system) h)

abbrev same : Concept → Concept → Bool
same x y = eq_by_cmp concept_cmp x y

one_set : (s t : Concepts) → ((c : Concept) → set.contains s c ≡ set.contains t c) → s ≡ t
one_set s t h = set.same_set concept_total exact_concepts s t h

-- ---- the parts of a value set that lists them

compose_is : (url : Text) (version : Option Text) (cs : List Concept) → field (codes "compose") (listed url version cs) ≡ Some (compose_of cs)
compose_is url None cs = refl
compose_is url (Some v) cs = refl

includes_are : (url : Text) (version : Option Text) (cs : List Concept) → includes (listed url version cs) ≡ map include_of cs
includes_are url version cs =
    ap (λ o. option_map_or (items_in (codes "include")) o []) (compose_is url version cs) ∙ items_again (map include_of cs)

excludes_are : (url : Text) (version : Option Text) (cs : List Concept) → excludes (listed url version cs) ≡ []
excludes_are url version cs = ap (λ o. option_map_or (items_in (codes "exclude")) o []) (compose_is url version cs)

parts_are : (url : Text) (version : Option Text) (cs : List Concept)
    → includes (listed url version cs) ++ excludes (listed url version cs) ≡ map include_of cs
parts_are url version cs =
    ap (λ xs. xs ++ excludes (listed url version cs)) (includes_are url version cs)
    ∙ ap (λ xs. map include_of cs ++ xs) (excludes_are url version cs)
    ∙ append_nothing (map include_of cs)

names_none : (cs : List Concept) → flat_map sets_named (map include_of cs) ≡ []
names_none [] = refl
names_none (c ∷ cs) = names_none cs

or_false : (a : Bool) → (a || false) ≡ a
or_false true = refl
or_false false = refl

and_true : (a : Bool) → (a && true) ≡ a
and_true true = refl
and_true false = refl

all_three : (a b c : Bool) → a ≡ true → b ≡ true → c ≡ true → ((a && b) && c) ≡ true
all_three a b c e f g = ap (λ x. (x && b) && c) e ∙ ap (λ x. x && c) f ∙ g

abbrev set_of : List Concept → Concepts
set_of cs = set.from_list cs

-- one concept more
one_more : (c : Concept) (cs : List Concept) → set.union (set_of (c ∷ [])) (set_of cs) ≡ set_of (c ∷ cs)
one_more c cs =
    one_set (set.union (set_of (c ∷ [])) (set_of cs)) (set_of (c ∷ cs))
    (λ q. set.contains-union concept_total (set_of (c ∷ [])) (set_of cs) q
    ∙ ap (λ b. b || set.contains (set_of cs) q) (set.contains-from_list concept_total (c ∷ []) q ∙ or_false (same q c))
    ∙ ap (λ b. same q c || b) (set.contains-from_list concept_total cs q)
    ∙ sym (set.contains-from_list concept_total (c ∷ cs) q))

none_less : (s : Concepts) → set.difference s set.empty ≡ s
none_less s =
    one_set (set.difference s set.empty) s
    (λ q. set.contains-difference concept_total s set.empty q
    ∙ ap (λ b. set.contains s q && not b) (set.contains-empty concept_cmp q)
    ∙ and_true (set.contains s q))

module _ (p : Definitions) (known : Text → Option Concepts) where
  all_plain : (cs : List Concept) → list_all (is_plain_include p) (map include_of cs) ≡ true
  all_plain [] = refl
  all_plain (c ∷ cs) = all_plain cs

  united : (cs : List Concept) → union_of (map (of_include p known) (map include_of cs)) ≡ set_of cs
  united [] = refl
  united (c ∷ cs) = ap (set.union (set_of (c ∷ []))) (united cs) ∙ one_more c cs

  module _ (url : Text) (version : Option Text) (cs : List Concept) where
    reads : is_read p known (listed url version cs) ≡ true
    reads =
        all_three (option_map_or is_compose (field (codes "compose") (listed url version cs)) false)
        (list_all (is_plain_include p) (includes (listed url version cs) ++ excludes (listed url version cs)))
        (list_all (λ canonical. is_some (known canonical)) (flat_map sets_named (includes (listed url version cs) ++ excludes (listed url version cs))))
        (ap (λ o. option_map_or is_compose o false) (compose_is url version cs))
        (ap (list_all (is_plain_include p)) (parts_are url version cs) ∙ all_plain cs)
        (ap (λ ts. list_all (λ canonical. is_some (known canonical)) (flat_map sets_named ts)) (parts_are url version cs)
        ∙ ap (list_all (λ canonical. is_some (known canonical))) (names_none cs))

    has_them : composition p known (listed url version cs) ≡ set_of cs
    has_them =
        ap (λ ts. set.difference (union_of (map (of_include p known) ts)) (union_of (map (of_include p known) (excludes (listed url version cs)))))
        (includes_are url version cs)
        ∙ ap (λ ts. set.difference (union_of (map (of_include p known) (map include_of cs))) (union_of (map (of_include p known) ts)))
        (excludes_are url version cs)
        ∙ ap (λ s. set.difference s set.empty) (united cs)
        ∙ none_less (set_of cs)

    pub listed_has : expansion p known (listed url version cs) ≡ Some (set_of cs)
    listed_has = ap (λ b. if b then Some (composition p known (listed url version cs)) else None) reads ∙ ap Some has_them
