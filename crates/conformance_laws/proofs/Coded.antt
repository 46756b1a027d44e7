-- Values that are looked up in sets.
use Rattle.std.proofs.Common.{◌≡◌, ◌↔◌, Bool, false, Option, None, Some, option_map, codes, refl, ap, ap₂, ◌∙◌, IsTrue}
use Rattle.std.specs.Option.{option_map_or, option_and_then}
use Rattle.std.specs.FinSet as set
use Rattle.std.proofs.lemmas.Bool.{false≢true}
use Rattle.fhir_json.specs.Tree.{Text, Tree}
use Rattle.fhir_json.specs.Fields.{text_in}
use Rattle.fhir_codes.specs.Concepts.{Concepts, concept}
use Rattle.fhir_facets.specs.declared.lookup.Lookup.{Lookup}
use Rattle.fhir_facets.specs.Bindings.{Binding, lookup_of, has_coding, is_in, binding_holds}
use Rattle.fhir_facets.specs.Seen.{Seen}
use Rattle.fhir_facets.specs.Unread.{Meaning, binding}

module _ (m : Meaning) (b : Binding) (x : Seen) where
  -- what a set and a way of looking up decide
  abbrev by_both : Option Concepts → Option Lookup → Bool
  by_both set how =
      option_map_or (λ holds. holds) (option_and_then (λ s. option_map (λ h. is_in h s x) how) set) (m (binding b.canonical))

  pub in_known : (s : Concepts) (how : Lookup) → b.concepts ≡ Some s → lookup_of x ≡ Some how → binding_holds m b x ≡ is_in how s x
  in_known s how is looked = ap₂ by_both is looked

  pub in_unknown : b.concepts ≡ None → binding_holds m b x ≡ m (binding b.canonical)
  in_unknown is = ap (λ o. by_both o (lookup_of x)) is

  pub in_none : lookup_of x ≡ None → binding_holds m b x ≡ m (binding b.canonical)
  in_none looked = ap (by_both b.concepts) looked ∙ by b.concepts
    where
      by : (o : Option Concepts) → by_both o None ≡ m (binding b.canonical)
      by None = refl
      by (Some s) = refl

module _ (s : Concepts) (t : Tree) where
  abbrev has_both : Option Text → Option Text → Bool
  has_both system code = option_map_or (λ u. option_map_or (λ c. set.contains s (concept u c)) code false) system false

  abbrev pub IsConcept : Type 0
  IsConcept =
      (system : Text) × (code : Text) × (text_in (codes "system") t ≡ Some system) × (text_in (codes "code") t ≡ Some code)
      × IsTrue (set.contains s (concept system code))

  is_concept : (system code : Option Text) → text_in (codes "system") t ≡ system → text_in (codes "code") t ≡ code → IsTrue (has_both system code) → IsConcept
  is_concept None code of_system of_code h = absurd (false≢true h)
  is_concept (Some u) None of_system of_code h = absurd (false≢true h)
  is_concept (Some u) (Some c) of_system of_code h = (u, c, of_system, of_code, h)

  pub coded : IsTrue (has_coding s t) ↔ IsConcept
  coded = (
    λ h. is_concept (text_in (codes "system") t) (text_in (codes "code") t) refl refl h,
    λ some. ap₂ has_both some.2 some.3 ∙ some.4,
  )
