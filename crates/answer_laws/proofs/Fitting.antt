-- A certificate that is derived is of nodes of the schema.
use Rattle.std.proofs.Common.{◌≡◌, ◌<◌, ℕ, Bool, cond, true, false, List, [], ◌∷◌, length, filter, option_map, Option, Some, None, is_some, IsTrue, nat_lt, refl, ap, ◌∙◌, subst}
use Rattle.std.specs.Prelude.{All}
use Rattle.std.specs.List.{Contains, list_all, position}
use Rattle.std.specs.Option.{option_and_then}
use Rattle.std.proofs.lemmas.Bool.{and_parts, and_from, lt-ltb}
use Rattle.std.proofs.lemmas.List.Elements.{All-head, All-tail, All-weaker, All-contains_itself}
use Rattle.std.proofs.lemmas.List.Quantifiers.{position-Some}
use Rattle.std.proofs.lemmas.Option.{none-some, same_Some}
use Rattle.fhir_json.specs.Tree.{Text}
use Rattle.fhir_package.specs.Definitions.{Definitions}
use Rattle.fhir_definition.specs.Snapshot.{is_root}
use Rattle.fhir_overlay.proofs.Truths.{all_four}
use Rattle.fhir_nodes.specs.declared.node.NodeRef.{NodeRef}
use Rattle.fhir_nodes.specs.Urls.{url_place}
use Rattle.fhir_schema.specs.Schemas.{SchemaValue, schema_of, has, is_usable, elements_at, root_element, root_in, root}
use Rattle.fhir_certificate.specs.declared.pair.NodePair.{NodePair}
use Rattle.fhir_certificate.specs.declared.pair.Pair.{Pair}
use Rattle.fhir_certificate.specs.declared.pair.Pair.TheVariants.{Item, Kids}
use Rattle.fhir_certificate.specs.Certificate.{CertificateValue, are_nodes, fits}
use Rattle.fhir_cert_check.specs.Asked.{asked_for, is_of_nodes}
use Rattle.fhir_derive_check.proofs.Rooted.{root-known, both-roots}
use Rattle.fhir_derive_check.specs.Deriving.{items_in, kids_in, IsDerived}

-- ---- pairs

module _ (s : SchemaValue) where
  of_nodes : (ps : List Pair) → All (λ p. IsTrue (is_of_nodes s p)) ps → IsTrue (list_all (is_of_nodes s) ps)
  of_nodes [] all = refl
  of_nodes (p ∷ ps) all =
      and_from (is_of_nodes s p) (list_all (is_of_nodes s) ps) (All-head (λ p. IsTrue (is_of_nodes s p)) p ps all)
      (of_nodes ps (All-tail (λ p. IsTrue (is_of_nodes s p)) p ps all))

  kept : (test : Pair → Bool) (ps : List Pair) → IsTrue (list_all (is_of_nodes s) ps) → IsTrue (list_all (is_of_nodes s) (filter test ps))
  kept test [] all = refl
  kept test (p ∷ ps) all = let parts = and_parts (is_of_nodes s p) (list_all (is_of_nodes s) ps) all in by (test p) parts.0 (kept test ps parts.1)
    where
      by : (b : Bool) → IsTrue (is_of_nodes s p) → IsTrue (list_all (is_of_nodes s) (filter test ps))
          → IsTrue (list_all (is_of_nodes s) (cond b (p ∷ filter test ps) (filter test ps)))
      by true first rest = and_from (is_of_nodes s p) (list_all (is_of_nodes s) (filter test ps)) first rest
      by false first rest = rest

  of_items : (ps : List Pair) → IsTrue (list_all (is_of_nodes s) ps) → IsTrue (list_all (are_nodes s) (items_in ps))
  of_items [] all = refl
  of_items (Item p ∷ ps) all =
      let parts = and_parts (are_nodes s p) (list_all (is_of_nodes s) ps) all in
      and_from (are_nodes s p) (list_all (are_nodes s) (items_in ps)) parts.0 (of_items ps parts.1)
  of_items (Kids p ∷ ps) all = of_items ps (and_parts (are_nodes s p) (list_all (is_of_nodes s) ps) all).1

  of_kids : (ps : List Pair) → IsTrue (list_all (is_of_nodes s) ps) → IsTrue (list_all (are_nodes s) (kids_in ps))
  of_kids [] all = refl
  of_kids (Item p ∷ ps) all = of_kids ps (and_parts (are_nodes s p) (list_all (is_of_nodes s) ps) all).1
  of_kids (Kids p ∷ ps) all =
      let parts = and_parts (are_nodes s p) (list_all (is_of_nodes s) ps) all in
      and_from (are_nodes s p) (list_all (are_nodes s) (kids_in ps)) parts.0 (of_kids ps parts.1)

-- ---- the whole

abbrev pub AskedAreNodes : Type 0
AskedAreNodes =
    (d : Definitions) (p q : Pair) → IsTrue (is_of_nodes (schema_of d) p) → Contains (asked_for (schema_of d) p) q → IsTrue (is_of_nodes (schema_of d) q)

pub derived_fits : AskedAreNodes → (d : Definitions) (derived base : Text) (c : CertificateValue) → IsDerived (schema_of d) derived base c
    → IsTrue (fits (schema_of d) c)
derived_fits asked d derived base c is =
    let s = schema_of d in
    let rooted = both-roots (root s derived) (root s base) is.roots is.are_roots in
    let first : IsTrue (is_of_nodes s (Item is.roots)) =
    and_from (has s is.roots.derived) (has s is.roots.base) (root-known s derived is.roots.derived rooted.0) (root-known s base is.roots.base rooted.1) in
    let all : IsTrue (list_all (is_of_nodes s) is.found) =
    of_nodes s is.found
    (All-weaker (Contains is.found) (λ p. IsTrue (is_of_nodes s p))
    (λ p there. is.discovery.each p there (is_of_nodes s) (record { rooted = first; closed = asked d })) is.found (All-contains_itself is.found)) in
    let some = kept s is.reached is.found all in
    let of_derived : is_some (root s c.derived) ≡ true = ap (λ (u : Text). is_some (root s u)) is.derived_is ∙ ap is_some rooted.0 in
    let of_base : is_some (root s c.base) ≡ true = ap (λ (u : Text). is_some (root s u)) is.base_is ∙ ap is_some rooted.1 in
    let items : list_all (are_nodes s) c.items ≡ true = ap (list_all (are_nodes s)) is.items ∙ of_items s (filter is.reached is.found) some in
    let kids : list_all (are_nodes s) c.kids ≡ true = ap (list_all (are_nodes s)) is.kids ∙ of_kids s (filter is.reached is.found) some in
    all_four _ _ _ _ of_derived of_base items kids
