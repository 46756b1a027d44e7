-- What the verdict on a tree says of the profile.
use Rattle.std.proofs.Common.{◌≡◌, ◌↔◌, Bool, true, false, not, List, refl, sym, ap, ◌∙◌, subst, IsTrue, Some, inl, inr}
use Rattle.std.specs.Prelude.{Result, Ok, Err, IfErr, IsSome, if◌then◌else◌}
use Rattle.std.proofs.lemmas.Bool.{false≢true}
use Rattle.fhir_json.specs.Bytes.{is_empty}
use Rattle.fhir_json.specs.Tree.{Text, Tree}
use Rattle.fhir_nodes.specs.declared.node.NodeRef.{NodeRef}
use Rattle.fhir_schema.specs.Schemas.{SchemaValue, root}
use Rattle.fhir_instance.specs.Items.{Item}
use Rattle.fhir_instance.specs.Typing.{Types}
use Rattle.fhir_facets.specs.Unread.{strict, as_given, lenient}
use Rattle.fhir_conformance.specs.Conformance.{Interpretation, Conforms, conforms, constant, as_read, outermost}
use Rattle.fhir_conformance.proofs.Lists.{all_weaker}
use Rattle.fhir_validator.specs.declared.issue.Issue.{Issue}
use Rattle.fhir_validator.specs.declared.issue.Issue.TheVariants.{Misfit, Broken}
use Rattle.fhir_validator.specs.declared.judgement.Judgement.TheVariants as judgements
use Rattle.fhir_validator.specs.declared.verdict.Vouched.{Vouched}
use Rattle.fhir_validator.specs.declared.verdict.Vouched.TheVariants as verdicts
use Rattle.fhir_validator.specs.declared.fault.Fault.{Fault}
use Rattle.fhir_validator.specs.declared.fault.Fault.TheVariants.{Missing, Unusable, NotJson, NoMemory}
use Rattle.fhir_validator.specs.Issues.{IsIssue, IsSite, IsRelied}
use Rattle.fhir_validator.specs.Judgements.{under}
use Rattle.fhir_validator.specs.Verdicts.{AreSome, IsHeld, IsUpheld, IsVouchedFor, Means, conforms_as_given, conforms_anyway, violates_anyway}
use Rattle.fhir_validator.specs.Listing.{judgement_in, IsVerdictAt, IsVerdictOn, IsMisfitVerdict, IsListed, IsFound, IsFoundSite, IsOfMisfit, IsOfBytes}
use Rattle.fhir_validator.proofs.Raising.{IsPositive}

some_weaker : {A : Type 0} (P Q : A → Type 0) → ((x : A) → P x → Q x) → (xs : List A) → AreSome P xs → AreSome Q xs
some_weaker P Q f xs some = record { some = some.some; each = all_weaker P Q f xs some.each }

-- what a verdict says, by the judgement that is in it
given_in : (v : Vouched) → conforms_as_given v ≡ under as_given (judgement_in v)
given_in (verdicts.Conforms relied) = by_case (is_empty relied.items)
  where
    by_case : (b : Bool) → true ≡ under as_given (if b then judgements.Holds else judgements.Given)
    by_case true = refl
    by_case false = refl
given_in (verdicts.Violates issues) = refl
given_in (verdicts.Open sites) = refl

anyway_in : (v : Vouched) → conforms_anyway v ≡ under strict (judgement_in v)
anyway_in (verdicts.Conforms relied) = by_case (is_empty relied.items)
  where
    by_case : (b : Bool) → b ≡ under strict (if b then judgements.Holds else judgements.Given)
    by_case true = refl
    by_case false = refl
anyway_in (verdicts.Violates issues) = refl
anyway_in (verdicts.Open sites) = refl

violating_in : (v : Vouched) → violates_anyway v ≡ not (under lenient (judgement_in v))
violating_in (verdicts.Conforms relied) = by_case (is_empty relied.items)
  where
    by_case : (b : Bool) → false ≡ not (under lenient (if b then judgements.Holds else judgements.Given))
    by_case true = refl
    by_case false = refl
violating_in (verdicts.Violates issues) = refl
violating_in (verdicts.Open sites) = refl

-- what a verdict says of a profile and a tree
pub record IsConcluded (s : SchemaValue) (texts : List Text) (profile : Text) (t : Tree) (v : Vouched) : Type 0 where
  pub conforms : IsTrue (conforms_as_given v) ↔ Conforms s (as_read texts as_given) profile t
  pub rests : (meaning : Interpretation) → IsUpheld meaning v → Conforms s meaning profile t
  pub anyway : IsTrue (conforms_anyway v) ↔ Conforms s (constant false) profile t
  pub violates : IsTrue (violates_anyway v) ↔ ¬ Conforms s (constant true) profile t
  pub never : IsTrue (violates_anyway v) → (meaning : Interpretation) → ¬ Conforms s meaning profile t

module _ (s : SchemaValue) (texts : List Text) (profile : Text) (t : Tree) (n : NodeRef) (usable : root s profile ≡ Some n) where
  -- a resource conforms where its item does
  of_item : (x : Item) → Types s t x → (meaning : Interpretation) → IsTrue (conforms s meaning (outermost x) x n) → Conforms s meaning profile t
  of_item x typed meaning h = record { node = n; itself = x; usable = usable; typed = typed; holds = h }

  to_item : (x : Item) → Types s t x → (meaning : Interpretation) → Conforms s meaning profile t → IsTrue (conforms s meaning (outermost x) x n)
  to_item x typed meaning h =
      let a : Some h.itself ≡ Some x = sym h.typed ∙ typed in
      let b : Some h.node ≡ Some n = sym h.usable ∙ usable in
      let e : h.itself ≡ x = cc in
      let f : h.node ≡ n = cc in
      subst (λ m. IsTrue (conforms s meaning (outermost x) x m)) f (subst (λ y. IsTrue (conforms s meaning (outermost y) y h.node)) e h.holds)

  module _ (positive : IsPositive s) where
    at_item : (x : Item) → Types s t x → (v : Vouched) → IsVerdictAt s texts x n v → IsConcluded s texts profile t v
    at_item x typed v h = record {
      conforms = (λ c. of_item x typed (as_read texts as_given) (sym given ∙ c), λ c. given ∙ to_item x typed (as_read texts as_given) c);
      rests = λ meaning upheld. of_item x typed meaning (h.rests meaning upheld);
      anyway = (λ c. of_item x typed (constant false) (sym anyway ∙ c), λ c. anyway ∙ to_item x typed (constant false) c);
      violates = (not_conforming, λ never. by_case never (conforms s (constant true) (outermost x) x n) refl);
      never = λ violates meaning c.
          not_conforming violates
          (of_item x typed (constant true) (positive meaning (constant true) (λ u o p e. refl) (outermost x) x n (to_item x typed meaning c)));
    }
      where
        given : conforms_as_given v ≡ conforms s (as_read texts as_given) (outermost x) x n
        given = given_in v ∙ h.right as_given

        anyway : conforms_anyway v ≡ conforms s (constant false) (outermost x) x n
        anyway = anyway_in v ∙ h.right strict

        violating : violates_anyway v ≡ not (conforms s (constant true) (outermost x) x n)
        violating = violating_in v ∙ ap not (h.right lenient)

        not_conforming : IsTrue (violates_anyway v) → ¬ Conforms s (constant true) profile t
        not_conforming violates c = false≢true (sym (violating ∙ ap not (to_item x typed (constant true) c)) ∙ violates)

        by_case : (¬ Conforms s (constant true) profile t) → (b : Bool) → conforms s (constant true) (outermost x) x n ≡ b → IsTrue (violates_anyway v)
        by_case never true e = absurd (never (of_item x typed (constant true) e))
        by_case never false e = violating ∙ ap not e

    at_none : ((x : Item) → Types s t x → ⊥) → (v : Vouched) → IsMisfitVerdict v → IsConcluded s texts profile t v
    at_none untyped (verdicts.Conforms relied) h = absurd h
    at_none untyped (verdicts.Violates issues) h = record {
      conforms = (λ e. absurd (false≢true e), λ c. absurd (untyped c.itself c.typed));
      rests = λ meaning upheld. absurd upheld;
      anyway = (λ e. absurd (false≢true e), λ c. absurd (untyped c.itself c.typed));
      violates = (λ e c. untyped c.itself c.typed, λ c. refl);
      never = λ e meaning c. untyped c.itself c.typed;
    }
    at_none untyped (verdicts.Open sites) h = absurd h

    pub concluded : (v : Vouched) → IsVerdictOn s texts n t v → IsConcluded s texts profile t v
    concluded v h = elim h [ inl is ↦ at_item is.0 is.1 v is.2 | inr none ↦ at_none none.0 v none.1 ]

  of_found : (x : Item) → Types s t x → (issue : Issue) → IsFound s x n issue → IsIssue s profile t issue
  of_found x typed (Misfit misfit) h = absurd h
  of_found x typed (Broken breach) h = (n, x, usable, typed, h)

  listed : (x : Item) → Types s t x → (v : Vouched) → IsListed s texts x n v → IsVouchedFor s texts profile t v
  listed x typed (verdicts.Conforms relied) h =
      all_weaker (IsFoundSite s texts judgements.Given x n) (IsRelied s texts profile t) (λ site h. (n, x, usable, typed, h)) relied.items h
  listed x typed (verdicts.Violates issues) h = some_weaker (IsFound s x n) (IsIssue s profile t) (of_found x typed) issues.items h
  listed x typed (verdicts.Open sites) h =
      some_weaker (IsFoundSite s texts judgements.Open x n) (IsSite s texts profile t) (λ site h. (n, x, usable, typed, h)) sites.items h

  of_misfit : ((x : Item) → Types s t x → ⊥) → (v : Vouched) → IsMisfitVerdict v → IsVouchedFor s texts profile t v
  of_misfit untyped (verdicts.Conforms relied) h = absurd h
  of_misfit untyped (verdicts.Violates issues) h = some_weaker IsOfMisfit (IsIssue s profile t) of_issue issues.items h
    where
      of_issue : (issue : Issue) → IsOfMisfit issue → IsIssue s profile t issue
      of_issue (Misfit misfit) h = untyped
      of_issue (Broken breach) h = absurd h
  of_misfit untyped (verdicts.Open sites) h = absurd h

  pub explained : (v : Vouched) → IsVerdictOn s texts n t v → IsVouchedFor s texts profile t v
  explained v h = elim h [ inl is ↦ listed is.0 is.1 v is.2.listed | inr none ↦ of_misfit none.0 v none.1 ]

  -- what is relied on holds as given
  pub upheld : (v : Vouched) → IsVouchedFor s texts profile t v → IsTrue (conforms_as_given v) → IsUpheld (as_read texts as_given) v
  upheld (verdicts.Conforms relied) h conforming =
      all_weaker (IsRelied s texts profile t) (IsHeld (as_read texts as_given)) (λ site is o p. is.4.rule_holds) relied.items h
  upheld (verdicts.Violates issues) h conforming = absurd (false≢true conforming)
  upheld (verdicts.Open sites) h conforming = absurd (false≢true conforming)

-- what a fault of the bytes says of the call
pub of_bytes : (s : SchemaValue) (profile bytes : Text) (n : NodeRef) → root s profile ≡ Some n → (fault : Fault) → IsOfBytes bytes fault → Means s profile bytes fault
of_bytes s profile bytes n usable Missing h = absurd h
of_bytes s profile bytes n usable (Unusable reason) h = absurd h
of_bytes s profile bytes n usable (NotJson fault) h = (subst IsSome (sym usable) refl, h)
of_bytes s profile bytes n usable NoMemory h = tt

pub err_weaker : {A E : Type 0} (P Q : E → Type 0) → ((e : E) → P e → Q e) → (r : Result A E) → IfErr r P → IfErr r Q
err_weaker P Q f (Ok a) h = h
err_weaker P Q f (Err e) h = f e h
