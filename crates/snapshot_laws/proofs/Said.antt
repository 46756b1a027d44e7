-- What is laid over an element has what the upper one says, and where that says nothing, what lies under it.
use Rattle.std.proofs.Common.{◌≡◌, ◌&&◌, ◌++◌, ◌∷◌, Bool, cond, true, false, List, [], Option, Some, None, IsTrue, refl, ap, sym, ◌∙◌, subst, inl, inr}
use Rattle.std.proofs.Common.{append_assoc, append-nil}
use Rattle.std.specs.Option.{option_or, option_eq}
use Rattle.std.specs.List.{Contains, All, list_all, list_any}
use Rattle.std.specs.Str.{bytes_eq}
use Rattle.std.proofs.lemmas.Bool.{and_parts, or_cases, false≢true}
use Rattle.std.proofs.lemmas.List.Elements.{All-nil, All-cons, All-contains, Contains-append_left, Contains-append_right, Contains-push}
use Rattle.std.proofs.lemmas.Slice.Eq.{bytes_eq-Decides}
use Rattle.fhir_json.specs.Tree.{Text}
use Rattle.fhir_elements.specs.declared.constraint.Severity.{Severity}
use Rattle.fhir_elements.specs.declared.constraint.Severity.TheVariants.{Error, Warning}
use Rattle.fhir_elements.specs.Constraint.{Constraint}
use Rattle.fhir_elements.specs.Slicing.{Slicing}
use Rattle.fhir_elements.specs.Element.{Element}
use Rattle.fhir_names.specs.Parents.{name_of}
use Rattle.fhir_overlay.specs.Overlay.{same_severity, same_constraint, with_constraints, listed_over, laid_over}
use Rattle.fhir_inheritance.specs.Elements.{find}
use Rattle.fhir_inheritance.specs.Laying.{implied, slicing_with, over, laid}
use Rattle.fhir_inheritance.specs.Lists.{has_any, is_among, with_text, with_others}
use Rattle.snapshot_laws.specs.Differentials.{Wins, Stays, Holds, Inherits}

-- ---- constraints

severity_is : (s t : Option Severity) → option_eq same_severity s t ≡ true → s ≡ t
severity_is None None e = refl
severity_is None (Some t) e = absurd (false≢true e)
severity_is (Some s) None e = absurd (false≢true e)
severity_is (Some Error) (Some Error) e = refl
severity_is (Some Error) (Some Warning) e = absurd (false≢true e)
severity_is (Some Warning) (Some Error) e = absurd (false≢true e)
severity_is (Some Warning) (Some Warning) e = refl

text_is : (s t : Option Text) → option_eq bytes_eq s t ≡ true → s ≡ t
text_is None None e = refl
text_is None (Some t) e = absurd (false≢true e)
text_is (Some s) None e = absurd (false≢true e)
text_is (Some s) (Some t) e = ap Some ((bytes_eq-Decides s t).0 e)

same_is : (c d : Constraint) → same_constraint c d ≡ true → c ≡ d
same_is c d e =
    let last = and_parts (bytes_eq c.key d.key && option_eq same_severity c.severity d.severity) (option_eq bytes_eq c.expression d.expression) e in
    let first = and_parts (bytes_eq c.key d.key) (option_eq same_severity c.severity d.severity) last.0 in
    let key = (bytes_eq-Decides c.key d.key).0 first.0 in
    let severity = severity_is c.severity d.severity first.1 in
    let expression = text_is c.expression d.expression last.1 in
    λ i. record { key = key i; severity = severity i; expression = expression i }

any_there : (c : Constraint) (cs : List Constraint) → list_any (same_constraint c) cs ≡ true → Contains cs c
any_there c [] e = absurd (false≢true e)
any_there c (d ∷ ds) e =
    elim (or_cases (same_constraint c d) (list_any (same_constraint c) ds) e) [
      | inl here ↦ subst (Contains (d ∷ ds)) (sym (same_is c d here)) (Contains-append_left (d ∷ []) ds d (Contains-push [] d))
      | inr later ↦ Contains-append_right (d ∷ []) ds c (any_there c ds later)
    ]

all_pass : (test : Constraint → Bool) (cs : List Constraint) → list_all test cs ≡ true → All (λ c. test c ≡ true) cs
all_pass test [] e = All-nil (λ c. test c ≡ true)
all_pass test (c ∷ cs) e =
    let parts = and_parts (test c) (list_all test cs) e in
    All-cons (λ c. test c ≡ true) c cs parts.0 (all_pass test cs parts.1)

abbrev pub AreThere : Type 0
AreThere = (old more : List Constraint) → IsTrue (list_all (λ c. list_any (same_constraint c) (with_constraints old more)) more)

there_too : AreThere → (old more : List Constraint) (c : Constraint) → Contains more c → Contains (with_constraints old more) c
there_too there old more c h =
    any_there c (with_constraints old more)
    (All-contains (λ c. list_any (same_constraint c) (with_constraints old more) ≡ true) more c
    (all_pass (λ c. list_any (same_constraint c) (with_constraints old more)) more (there old more)) h)

-- ---- other fields

module _ {A : Type 0} where
  wins : (said below : Option A) → Wins said (option_or said below)
  wins said below x is = ap (λ o. option_or o below) is

  stays : (said below : Option A) → Stays said below (option_or said below)
  stays said below none = ap (λ o. option_or o below) none

  listed : (said below : List A) → ¬ (said ≡ []) → listed_over said below ≡ said
  listed [] below any = absurd (any refl)
  listed (x ∷ xs) below any = refl

  unlisted : (said below : List A) → said ≡ [] → listed_over said below ≡ below
  unlisted said below none = ap (λ xs. listed_over xs below) none

-- ---- what is laid

-- an element, as it has slices
abbrev with_slices : List Text → Element → Element
with_slices slices e = record e { slicing = slicing_with slices e }

abbrev otherwise : List Text → Element → Option Slicing
otherwise slices e = cond (has_any slices) (implied (name_of e.id)) None

laid_so : (es : List Element) (slices : List Text) (e : Element) (o : Option Element) → find es e.id ≡ o → laid es slices e ≡ with_slices slices (over o e)
laid_so es slices e o is = ap (λ (o : Option Element). with_slices slices (over o e)) is

holds_on : AreThere → (slices : List Text) (d e : Element) → Holds d (with_slices slices (laid_over d e))
holds_on there slices d e =
    record {
      path = wins d.path e.path;
      slice_name = wins d.slice_name e.slice_name;
      min = wins d.min e.min;
      max = wins d.max e.max;
      types = listed d.types e.types;
      content_reference = wins d.content_reference e.content_reference;
      fixed = wins d.fixed e.fixed;
      pattern = wins d.pattern e.pattern;
      min_value = wins d.min_value e.min_value;
      max_value = wins d.max_value e.max_value;
      max_length = wins d.max_length e.max_length;
      binding = wins d.binding e.binding;
      constraints = there_too there e.constraints d.constraints;
      slicing = λ g is. ap (λ (o : Option Slicing). option_or (option_or o e.slicing) (otherwise slices (laid_over d e))) is;
    }

pub holds : AreThere → (es : List Element) (slices : List Text) (n e d : Element) → find es e.id ≡ Some d → n ≡ laid es slices e → Holds d n
holds there es slices n e d found is = subst (Holds d) (sym (is ∙ laid_so es slices e (Some d) found)) (holds_on there slices d e)

inherits_on : (slices : List Text) (d e : Element) → Inherits d e (with_slices slices (laid_over d e))
inherits_on slices d e =
    record {
      path = stays d.path e.path;
      slice_name = stays d.slice_name e.slice_name;
      min = stays d.min e.min;
      max = stays d.max e.max;
      types = unlisted d.types e.types;
      content_reference = stays d.content_reference e.content_reference;
      fixed = stays d.fixed e.fixed;
      pattern = stays d.pattern e.pattern;
      min_value = stays d.min_value e.min_value;
      max_value = stays d.max_value e.max_value;
      max_length = stays d.max_length e.max_length;
      binding = stays d.binding e.binding;
      slicing = λ g none is.
          ap (λ (o : Option Slicing). option_or (option_or o e.slicing) (otherwise slices (laid_over d e))) none
          ∙ ap (λ (o : Option Slicing). option_or o (otherwise slices (laid_over d e))) is;
    }

pub inherits_so : (es : List Element) (slices : List Text) (n e d : Element) → find es e.id ≡ Some d → n ≡ laid es slices e → Inherits d e n
inherits_so es slices n e d found is = subst (Inherits d e) (sym (is ∙ laid_so es slices e (Some d) found)) (inherits_on slices d e)

pub slicing_stays : (es : List Element) (slices : List Text) (n e : Element) (g : Slicing) → find es e.id ≡ None → n ≡ laid es slices e → e.slicing ≡ Some g
    → n.slicing ≡ Some g
slicing_stays es slices n e g none is kept =
    ap (λ (x : Element). x.slicing) (is ∙ laid_so es slices e None none) ∙ ap (λ (o : Option Slicing). option_or o (otherwise slices e)) kept

-- ---- slices

text_added : (texts : List Text) (text : Text) (b : Bool) → (added : List Text) × (cond b texts (texts ++ text ∷ []) ≡ texts ++ added)
text_added texts text true = ([], sym (append-nil texts))
text_added texts text false = (text ∷ [], refl)

pub others_added : (texts others : List Text) → (added : List Text) × (with_others texts others ≡ texts ++ added)
others_added texts [] = ([], sym (append-nil texts))
others_added texts (other ∷ others) =
    let one = text_added texts other (is_among texts other) in
    let more = others_added (with_text texts other) others in
    (one.0 ++ more.0, more.1 ∙ ap (λ xs. xs ++ more.0) one.1 ∙ append_assoc texts one.0 more.0)
