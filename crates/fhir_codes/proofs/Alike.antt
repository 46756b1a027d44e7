-- Packages that answer alike have the same value sets.
use Rattle.std.proofs.Common.{◌≡◌, ℕ, zero, suc, [], ◌∷◌, ◌++◌, map, length, false, not, ◌&&◌, ◌||◌, if◌then◌else◌, None, Some, is_some, codes, refl, sym, ◌∙◌, ap}
use Rattle.std.specs.Option.{option_map_or, option_and_then}
use Rattle.std.specs.List.{list_all}
use Rattle.std.specs.FinSet as set
use Rattle.fhir_json.specs.Bytes.{is_empty}
use Rattle.fhir_json.specs.Tree.{Text, Tree}
use Rattle.fhir_json.specs.Fields.{field, text_in, text_at}
use Rattle.fhir_package.specs.declared.kind.Kind.TheVariants.{ValueSet, CodeSystem}
use Rattle.fhir_package.specs.Definitions.{Definitions, at_url}
use Rattle.fhir_package.specs.Canonical.{named_by}
use Rattle.fhir_codes.specs.Concepts.{of_system, union_of, common}
use Rattle.fhir_codes.specs.CodeSystems.{is_complete, codes_defined}
use Rattle.fhir_codes.specs.ValueSets.{listed_concepts, sets_named, lists_no_concept, has_right_fields, includes, excludes, is_compose, named, is_version_of, code_system, codes_taken, can_take, is_plain_include, of_set, of_include, composition, is_read, expansion, expanded, concepts_of}
use Rattle.fhir_codes.proofs.Rounds.{Known}
use Rattle.fhir_codes.proofs.Settled.{both_below, expanded_most}

abbrev pub AreSystemsAlike : Definitions → Definitions → Type 0
AreSystemsAlike p q = (url : Text) → at_url CodeSystem url p ≡ at_url CodeSystem url q

abbrev pub AreNamesAlike : Definitions → Definitions → Type 0
AreNamesAlike p q = (canonical : Text) → named_by ValueSet canonical p ≡ named_by ValueSet canonical q

module _ (p q : Definitions) (systems : AreSystemsAlike p q) where
  same_system : (t : Tree) (url : Text) → code_system p t url ≡ code_system q t url
  same_system t url = ap (option_and_then (λ system. if is_version_of p t system then Some system else None)) (systems url)

  same_taken : (t : Tree) (url : Text) → codes_taken p t url ≡ codes_taken q t url
  same_taken t url = ap (λ o. if lists_no_concept t then option_map_or codes_defined o [] else map (text_at (codes "code")) (listed_concepts t)) (same_system t url)

  same_can : (t : Tree) (url : Text) → can_take p t url ≡ can_take q t url
  same_can t url = ap (λ o. not (lists_no_concept t) || option_map_or is_complete o false) (same_system t url)

  same_plain : (t : Tree) → is_plain_include p t ≡ is_plain_include q t
  same_plain t i = has_right_fields t && option_map_or (λ url. same_can t url i) (text_in (codes "system") t) (lists_no_concept t && not (is_empty (sets_named t)))

  same_include : (f : Known) (t : Tree) → of_include p f t ≡ of_include q f t
  same_include f t i =
      common (option_map_or (λ system. of_system system (same_taken t system i) ∷ []) (text_in (codes "system") t) [] ++ map (of_set p f) (sets_named t))

  same_composed : (f : Known) (t : Tree) → composition p f t ≡ composition q f t
  same_composed f t i =
      set.difference (union_of (map (λ u. same_include f u i) (includes t))) (union_of (map (λ u. same_include f u i) (excludes t)))

  same_read : (f : Known) (t : Tree) → is_read p f t ≡ is_read q f t
  same_read f t i =
      option_map_or is_compose (field (codes "compose") t) false
      && list_all (λ u. same_plain u i) (includes t ++ excludes t)
      && list_all (λ canonical. is_some (f canonical)) (named t)

  same_expansion : (f : Known) (t : Tree) → expansion p f t ≡ expansion q f t
  same_expansion f t i = if same_read f t i then Some (same_composed f t i) else None

  module _ (names : AreNamesAlike p q) where
    same_expanded : (n : ℕ) (canonical : Text) → expanded p n canonical ≡ expanded q n canonical
    same_expanded zero canonical = refl
    same_expanded (suc n) canonical =
        (λ i. option_and_then (expansion p (λ c. same_expanded n c i)) (named_by ValueSet canonical p))
        ∙ (λ i. option_and_then (λ t. same_expansion (expanded q n) t i) (names canonical i))

    pub same_concepts : (canonical : Text) → concepts_of p canonical ≡ concepts_of q canonical
    same_concepts canonical =
        both_below (concepts_of p canonical) (concepts_of q canonical)
        (λ s e. expanded_most q (length p.value_sets) canonical s (sym (same_expanded (length p.value_sets) canonical) ∙ e))
        (λ s e. expanded_most p (length q.value_sets) canonical s (same_expanded (length q.value_sets) canonical ∙ e))
