-- Definitions of which two are of one kind and url, seen one after the other.
use Rattle.std.proofs.Common.{◌≡◌, Bool, true, false, ◌&&◌, ◌||◌, List, [], ◌∷◌, refl, sym, ap, ◌∙◌}
use Rattle.std.specs.List.{list_any}
use Rattle.std.proofs.lemmas.Cmp.{nat_list_eq_equiv}
use Rattle.fhir_json.specs.Tree.{Text, Tree}
use Rattle.fhir_package.specs.declared.kind.Kind.{Kind}
use Rattle.fhir_package.specs.declared.kind.Kind.TheVariants.{StructureDefinition, ValueSet, CodeSystem}
use Rattle.fhir_package.specs.Definitions.{Definitions, no_definitions}
use Rattle.fhir_package.specs.Packing.{Definition, with_definition}
use Rattle.fhir_package.specs.Changing.{has, is_same, is_same_kind, has_twice}
use Rattle.fhir_package.proofs.Kept.{has_with}

-- one of them is in the package already, or two of them are of one kind and url
abbrev pub is_met : List Definition → Definitions → Bool
is_met ds p = list_any (λ d. has d.kind d.url p) ds || has_twice ds

none_has : (kind : Kind) (url : Text) → has kind url no_definitions ≡ false
none_has StructureDefinition url = refl
none_has ValueSet url = refl
none_has CodeSystem url = refl

pub none_met : (ds : List Definition) → is_met ds no_definitions ≡ has_twice ds
none_met ds = none ds (has_twice ds)
  where
    none : (es : List Definition) (b : Bool) → (list_any (λ e. has e.kind e.url no_definitions) es || b) ≡ b
    none [] b = refl
    none (e ∷ es) b = ap (λ (c : Bool). (c || list_any (λ d. has d.kind d.url no_definitions) es) || b) (none_has e.kind e.url) ∙ none es b

has_next : (d e : Definition) (p : Definitions) → has e.kind e.url (with_definition d p) ≡ (has e.kind e.url p || is_same d e)
has_next d e p =
    has_with d e.kind e.url p ∙ ap (λ (b : Bool). has e.kind e.url p || (is_same_kind d.kind e.kind && b)) (nat_list_eq_equiv.symm e.url d.url)

any_next : (d : Definition) (es : List Definition) (p : Definitions)
    → list_any (λ e. has e.kind e.url (with_definition d p)) es ≡ (list_any (λ e. has e.kind e.url p) es || list_any (is_same d) es)
any_next d [] p = refl
any_next d (e ∷ es) p =
    ap (λ (b : Bool). b || list_any (λ e. has e.kind e.url (with_definition d p)) es) (has_next d e p)
    ∙ ap (λ (b : Bool). (has e.kind e.url p || is_same d e) || b) (any_next d es p)
    ∙ apart (has e.kind e.url p) (is_same d e) (list_any (λ e. has e.kind e.url p) es) (list_any (is_same d) es)
  where
    apart : (a b c d : Bool) → ((a || b) || (c || d)) ≡ ((a || c) || (b || d))
    apart true b c d = refl
    apart false true true d = refl
    apart false true false d = refl
    apart false false c d = refl

pub met_here : (d : Definition) (ds : List Definition) (p : Definitions) → has d.kind d.url p ≡ true → is_met (d ∷ ds) p ≡ true
met_here d ds p h = by (has d.kind d.url p) (list_any (λ e. has e.kind e.url p) ds) (has_twice (d ∷ ds)) h
  where
    by : (a b c : Bool) → a ≡ true → ((a || b) || c) ≡ true
    by true b c h = refl
    by false b c h = absurd cc

pub met_later : (d : Definition) (t : Tree) (ds : List Definition) (p q : Definitions) → has d.kind d.url p ≡ false → q ≡ with_definition (record d { tree = t }) p
    → is_met (d ∷ ds) p ≡ is_met ds q
met_later d t ds p q h is =
    by (has d.kind d.url p) (list_any (λ e. has e.kind e.url p) ds) (list_any (is_same d) ds) (has_twice ds) h
    ∙ sym (ap (λ (b : Bool). b || has_twice ds) (any_next (record d { tree = t }) ds p)) ∙ ap (λ (r : Definitions). is_met ds r) (sym is)
  where
    by : (a b c d : Bool) → a ≡ false → ((a || b) || (c || d)) ≡ ((b || c) || d)
    by true b c d h = absurd cc
    by false true c d h = refl
    by false false true d h = refl
    by false false false d h = refl
