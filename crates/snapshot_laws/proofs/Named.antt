-- The definition to which a canonical leads is the one that it names.
use Rattle.std.proofs.Common.{◌≡◌, Bool, cond, true, false, Option, Some, None, is_some, refl, ap, sym, ◌∙◌}
use Rattle.std.specs.Option.{option_and_then, option_map_or}
use Rattle.std.specs.Result.{result_ok}
use Rattle.std.proofs.lemmas.Bool.{false≢true}
use Rattle.std.proofs.lemmas.Option.{none-some, same_Some}
use Rattle.fhir_json.specs.Tree.{Text, Tree}
use Rattle.fhir_names.specs.Canonicals.{CanonicalParts, read_canonical}
use Rattle.fhir_package.specs.declared.kind.Kind.TheVariants.{StructureDefinition}
use Rattle.fhir_package.specs.Definitions.{Definitions, at_url}
use Rattle.fhir_package.specs.Canonical.{is_of_version, where_version, at_version, named_by}
use Rattle.fhir_inheritance.specs.Sources.{url_of, canonical_url}

kept_if : (t : Tree) (b : Bool) → is_some (cond b (Some t) None) ≡ true → cond b (Some t) None ≡ Some t
kept_if t true e = refl
kept_if t false e = absurd (false≢true e)

-- a definition of the version is the one that was there
same_there : (version : Option Text) (o : Option Tree) → is_some (option_and_then (where_version version) o) ≡ true
    → option_and_then (where_version version) o ≡ o
same_there version None e = refl
same_there version (Some t) e = kept_if t (option_map_or (λ v. is_of_version v t) version true) e

module _ (p : Definitions) where
  -- the parts of a canonical that leads to a url
  url_parts : (r : CanonicalParts) (url : Text) (b : Bool) → is_some (at_version StructureDefinition p r) ≡ b → cond b (Some r.0) None ≡ Some url
      → (is_some (at_version StructureDefinition p r) ≡ true) × (r.0 ≡ url)
  url_parts r url true is e = (is, same_Some r.0 url e)
  url_parts r url false is e = absurd (none-some url e)

  there_of : (o : Option CanonicalParts) (url : Text) → option_and_then (url_of p) o ≡ Some url
      → is_some (option_and_then (at_version StructureDefinition p) o) ≡ true
  there_of None url e = absurd (none-some url e)
  there_of (Some r) url e = (url_parts r url (is_some (at_version StructureDefinition p r)) refl e).0

  pub named_there : (c url : Text) → canonical_url p c ≡ Some url → is_some (named_by StructureDefinition c p) ≡ true
  named_there c url e = there_of (result_ok (read_canonical c)) url e

  same_of : (o : Option CanonicalParts) (url : Text) → option_and_then (url_of p) o ≡ Some url
      → option_and_then (at_version StructureDefinition p) o ≡ at_url StructureDefinition url p
  same_of None url e = absurd (none-some url e)
  same_of (Some r) url e =
      let parts = url_parts r url (is_some (at_version StructureDefinition p r)) refl e in
      same_there r.1 (at_url StructureDefinition r.0 p) parts.0 ∙ ap (λ (u : Text). at_url StructureDefinition u p) parts.1

  pub named_same : (c url : Text) → canonical_url p c ≡ Some url → named_by StructureDefinition c p ≡ at_url StructureDefinition url p
  named_same c url e = same_of (result_ok (read_canonical c)) url e

  none_if : (url : Text) (o : Option Tree) → cond (is_some o) (Some url) None ≡ None → o ≡ None
  none_if url None e = refl
  none_if url (Some t) e = absurd (none-some url (sym e))

  none_of : (o : Option CanonicalParts) → option_and_then (url_of p) o ≡ None → option_and_then (at_version StructureDefinition p) o ≡ None
  none_of None e = refl
  none_of (Some r) e = none_if r.0 (at_version StructureDefinition p r) e

  pub named_none : (c : Text) → canonical_url p c ≡ None → named_by StructureDefinition c p ≡ None
  named_none c e = none_of (result_ok (read_canonical c)) e
