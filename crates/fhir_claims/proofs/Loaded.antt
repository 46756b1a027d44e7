-- A claim that names a profile which can be used is known.
use Rattle.std.proofs.Common.{◌≡◌, ℕ, suc, Bool, true, false, cond, List, [], ◌∷◌, Option, None, Some, is_some, refl, sym, ap, subst, ◌∙◌}
use Rattle.std.specs.Option.{option_map, option_map_or, option_and_then}
use Rattle.std.specs.List.{slice_get}
use Rattle.std.specs.Result.{result_ok}
use Rattle.std.specs.Str.{bytes_eq}
use Rattle.std.proofs.lemmas.Bool.{false≢true}
use Rattle.std.proofs.lemmas.Option.{none-some, same_Some}
use Rattle.std.proofs.lemmas.Slice.Eq.{bytes_eq-Decides}
use Rattle.fhir_json.specs.Tree.{Text}
use Rattle.fhir_names.specs.Canonicals.{CanonicalParts, read_canonical}
use Rattle.fhir_definition.specs.Definition.{Definition}
use Rattle.fhir_nodes.specs.declared.node.NodeRef.{NodeRef}
use Rattle.fhir_nodes.specs.Urls.{url_place, is_versioned, where_versioned, version_place, canonical_place}
use Rattle.fhir_schema.specs.Schemas.{SchemaValue, is_usable, root_element, root_in, root, loaded, url_at}
use Rattle.fhir_claims.specs.Claims.{url_of_node, unusable_in, named_url, is_known}

-- the definition that is found under a url
under_url : (ds : List Definition) (url : Text) (place : ℕ) → url_place ds url ≡ Some place
    → (k : ℕ) × (d : Definition) × ((slice_get ds k ≡ Some d) × (d.place ≡ place) × (bytes_eq url d.url ≡ true))
under_url [] url place e = absurd (none-some place e)
under_url (x ∷ ds) url place e = go (bytes_eq url x.url) refl e (under_url ds url place)
  where
    go : (b : Bool) → bytes_eq url x.url ≡ b → cond b (Some x.place) (url_place ds url) ≡ Some place
        → (url_place ds url ≡ Some place → (k : ℕ) × (d : Definition) × ((slice_get ds k ≡ Some d) × (d.place ≡ place) × (bytes_eq url d.url ≡ true)))
        → (k : ℕ) × (d : Definition) × ((slice_get (x ∷ ds) k ≡ Some d) × (d.place ≡ place) × (bytes_eq url d.url ≡ true))
    go true is e behind = (0, x, (refl, same_Some x.place place e, is))
    go false is e behind = let rest = behind e in (suc rest.0, rest.1, rest.2)

module _ (s : SchemaValue) (placed : (place : ℕ) (d : Definition) → slice_get s.definitions place ≡ Some d → d.place ≡ place) where
  url_there : (url : Text) (place : ℕ) → url_place s.definitions url ≡ Some place → url_at s place ≡ url
  url_there url place e =
      let under = under_url s.definitions url place e in
      let at : slice_get s.definitions place ≡ Some under.1 =
      subst (λ k. slice_get s.definitions k ≡ Some under.1) (sym (placed under.0 under.1 under.2.0) ∙ under.2.1) under.2.0 in
      ap (λ o. option_map_or (λ d. d.url) o []) at ∙ sym ((bytes_eq-Decides url under.1.url).0 under.2.2)

  root_there : (place : ℕ) (n : NodeRef) → root_in s place ≡ Some n → n.definition ≡ place
  root_there place n e = go (is_usable s place) (root_element s place) e
    where
      node : ℕ → NodeRef
      node e = record { definition = place; element = e }

      go : (b : Bool) (o : Option ℕ) → cond b (option_map node o) None ≡ Some n → n.definition ≡ place
      go true None e = absurd (none-some n e)
      go true (Some x) e = ap (λ r. r.definition) (sym (same_Some (node x) n e))
      go false o e = absurd (none-some n e)

  -- a canonical names the definition at the url in it
  url_of_place : (canonical : Text) (place : ℕ) → canonical_place s.definitions canonical ≡ Some place
      → (url : Text) × (url_place s.definitions url ≡ Some place)
  url_of_place canonical place e = go (result_ok (read_canonical canonical)) e
    where
      versioned : (p : ℕ) (b : Bool) → cond b (Some p) None ≡ Some place → Some p ≡ Some place
      versioned p true e = e
      versioned p false e = absurd (none-some place e)

      at : (version : Option Text) (o : Option ℕ) → option_and_then (where_versioned s.definitions version) o ≡ Some place → o ≡ Some place
      at version None e = absurd (none-some place e)
      at version (Some p) e = versioned p (option_map_or (λ v. is_versioned s.definitions v p) version true) e

      go : (o : Option CanonicalParts) → option_and_then (version_place s.definitions) o ≡ Some place → (url : Text) × (url_place s.definitions url ≡ Some place)
      go None e = absurd (none-some place e)
      go (Some parts) e = (parts.0, at parts.1 (url_place s.definitions parts.0) e)

  pub loaded_known : (canonical : Text) → is_some (loaded s canonical) ≡ true → is_known s (named_url s canonical) ≡ true
  loaded_known canonical h = go (canonical_place s.definitions canonical) refl h
    where
      other : Text
      other = option_map_or (λ url. url) (unusable_in s canonical) canonical

      by : (place : ℕ) → canonical_place s.definitions canonical ≡ Some place → (o : Option NodeRef) → root_in s place ≡ o → is_some o ≡ true
          → is_some (root s (option_map_or (url_of_node s) o other)) ≡ true
      by place is None e h = absurd (false≢true h)
      by place is (Some n) e h =
          let found = url_of_place canonical place is in
          let named : url_of_node s n ≡ found.0 = ap (url_at s) (root_there place n e) ∙ url_there found.0 place found.1 in
          ap (λ url. is_some (root s url)) named ∙ ap (λ o. is_some (option_and_then (root_in s) o)) found.1 ∙ ap is_some e

      go : (o : Option ℕ) → canonical_place s.definitions canonical ≡ o → is_some (option_and_then (root_in s) o) ≡ true
          → is_some (root s (option_map_or (url_of_node s) (option_and_then (root_in s) o) other)) ≡ true
      go None is h = absurd (false≢true h)
      go (Some place) is h = by place is (root_in s place) refl h
