-- How a resource stands, by the status of what is answered.
use Rattle.std.proofs.Common.{◌≡◌, ℕ, ◌++◌, true, false, eqb, List, Option, None, Some, is_some, is_none, Result, Ok, Err, codes, refl, sym, ap, ◌∙◌, subst, inl, inr}
use Rattle.std.specs.Prelude.{IsSome, option_map, if◌then◌else◌}
use Rattle.std.specs.Option.{option_and_then}
use Rattle.std.proofs.lemmas.Bool.{false≢true}
use Rattle.fhir_json.specs.Tree.{Text, Tree}
use Rattle.fhir_json.specs.Compact.{compact}
use Rattle.fhir_json.specs.Grammar.{Reads}
use Rattle.fhir_package.specs.Surveying.{FileFault}
use Rattle.fhir_elements.specs.declared.reason.Reason.{Reason}
use Rattle.fhir_nodes.specs.declared.node.NodeRef.{NodeRef}
use Rattle.fhir_nodes.specs.Urls.{url_place}
use Rattle.fhir_schema.specs.Settling.{reason_at}
use Rattle.fhir_schema.specs.Schemas.{SchemaValue, root, root_in, root_element, unusable}
use Rattle.fhir_facets.specs.Unread.{as_given}
use Rattle.fhir_conformance.specs.Conformance.{Interpretation, Conforms, constant, as_read}
use Rattle.fhir_validator.specs.declared.fault.Fault.{Fault}
use Rattle.fhir_validator.specs.declared.fault.Fault.TheVariants.{Missing, Unusable, NotJson, NoMemory}
use Rattle.fhir_validator.specs.declared.verdict.Verdict.{Verdict}
use Rattle.fhir_validator.specs.declared.verdict.Verdict.TheVariants as verdicts
use Rattle.fhir_validator.specs.declared.verdict.Vouched.{Vouched}
use Rattle.fhir_validator.specs.declared.verdict.Vouched.TheVariants as vouched
use Rattle.fhir_validator.specs.Verdicts.{Means, AreGiven}
use Rattle.fhir_replies.specs.Standing.{Stands, StandsAsGiven, NeverConforms}
use Rattle.fhir_replies.specs.Judging.{standing_of, standing_given}
use Rattle.fhir_replies.specs.Outcomes.{IsOutcome, severity_of, severity_given}
use Rattle.fhir_unread.specs.Given.{texts_given, AreSame}
use Rattle.fhir_answers.specs.Answering.{AnswerValue, judged, IsReply, IsAnswered, IsJudgedReply, IsGivenReply, package_answer}
use Rattle.fhir_answers.specs.Replying.{ReplyValue, status_of, out_of, is_told}
use Rattle.fhir_answers.specs.Session.{SessionValue, schema_in}
use Rattle.fhir_answers.specs.Status.{code_of, standing_status}
use Rattle.answer_laws.specs.Manual.{severity}
use Rattle.answer_laws.proofs.Replying.{noted_status, noted_out}

-- where the files are a package, it is the answer itself that is told
pub opened : (answer : AnswerValue) (reply : ReplyValue) (fault : Option FileFault) → fault ≡ None → IsReply (package_answer fault answer) reply
    → IsReply answer reply
opened answer reply fault none is = subst (λ f. IsReply (package_answer f answer) reply) none is

-- ---- a fault excludes that bytes are a resource that could be judged

-- the root of the definition at a place, by the reason why that can't be used
abbrev root_by : SchemaValue → ℕ → Option Reason → Option NodeRef
root_by s place reason =
    if is_none reason then option_map (λ e. record { definition = place; element = e }) (root_element s place) else None

unrooted_at : (s : SchemaValue) (reason : Reason) (place : Option ℕ)
    → option_and_then (reason_at s.reasons) place ≡ Some reason → option_and_then (root_in s) place ≡ None
unrooted_at s reason None h = refl
unrooted_at s reason (Some place) h = ap (root_by s place) h

pub unrooted : (s : SchemaValue) (profile : Text) (reason : Reason) → unusable s profile ≡ Some reason → root s profile ≡ None
unrooted s profile reason h = unrooted_at s reason (url_place s.definitions profile) h

module _ (s : SchemaValue) (profile bytes : Text) where
  pub no_fault : (fault : Fault) → Means s profile bytes fault × (fault ≡ NoMemory → ⊥) → (t : Tree) → Reads bytes t → IsSome (root s profile) → ⊥
  no_fault Missing h t reads some = false≢true (sym (ap is_some h.0.0) ∙ some)
  no_fault (Unusable reason) h t reads some = false≢true (sym (ap is_some (unrooted s profile reason h.0)) ∙ some)
  no_fault (NotJson fault) h t reads some = h.0.1 t reads
  no_fault NoMemory h t reads some = h.1 refl

  -- ---- by the number of the status

  abbrev pub number : Result Verdict Fault → ℕ
  number v = code_of (standing_status (standing_of v))

  conforming : (v : Result Verdict Fault) → Stands s profile bytes v → number v ≡ 0
      → (t : Tree) × Reads bytes t × ((meaning : Interpretation) → Conforms s meaning profile t)
  conforming (Ok verdicts.Conforms) h e = (h.0, h.1, h.2.0)
  conforming (Ok (verdicts.Violates issues)) h e = absurd (false≢true (ap (eqb 0) e))
  conforming (Ok (verdicts.Open sites)) h e = absurd (false≢true (ap (eqb 0) e))
  conforming (Err fault) h e = absurd (false≢true (ap (eqb 0) e))

  violating : (v : Result Verdict Fault) → Stands s profile bytes v → number v ≡ 1 → NeverConforms s profile bytes
  violating (Ok verdicts.Conforms) h e = absurd (false≢true (ap (eqb 1) e))
  violating (Ok (verdicts.Violates issues)) h e = (h.0, h.1, h.2)
  violating (Ok (verdicts.Open sites)) h e = absurd (false≢true (ap (eqb 1) e))
  violating (Err fault) h e = absurd (false≢true (ap (eqb 1) e))

  hanging : (v : Result Verdict Fault) → Stands s profile bytes v → number v ≡ 2
      → (t : Tree) × Reads bytes t × (¬ Conforms s (constant false) profile t) × (¬ ¬ Conforms s (constant true) profile t)
  hanging (Ok verdicts.Conforms) h e = absurd (false≢true (ap (eqb 2) e))
  hanging (Ok (verdicts.Violates issues)) h e = absurd (false≢true (ap (eqb 2) e))
  hanging (Ok (verdicts.Open sites)) h e = (h.0, h.1, h.2.0, h.2.1)
  hanging (Err fault) h e = absurd (false≢true (ap (eqb 2) e))

  faulty : (v : Result Verdict Fault) → Stands s profile bytes v → number v ≡ 3 → (t : Tree) → Reads bytes t → IsSome (root s profile) → ⊥
  faulty (Ok verdicts.Conforms) h e = absurd (false≢true (ap (eqb 3) e))
  faulty (Ok (verdicts.Violates issues)) h e = absurd (false≢true (ap (eqb 3) e))
  faulty (Ok (verdicts.Open sites)) h e = absurd (false≢true (ap (eqb 3) e))
  faulty (Err fault) h e = no_fault fault h

  severe : (v : Result Verdict Fault) → severity_of v ≡ severity (number v)
  severe (Ok verdicts.Conforms) = refl
  severe (Ok (verdicts.Violates issues)) = refl
  severe (Ok (verdicts.Open sites)) = refl
  severe (Err fault) = refl

  module _ (reply : ReplyValue) (is : IsAnswered s profile bytes reply) where
    pub its_status : status_of reply ≡ number is.is_judged.validated
    its_status = ap status_of is.is_reply ∙ ap (λ standing. code_of (standing_status standing)) is.is_judged.stands_so

    pub conforms_by : status_of reply ≡ 0 → (t : Tree) × Reads bytes t × ((meaning : Interpretation) → Conforms s meaning profile t)
    conforms_by e = conforming is.is_judged.validated is.is_judged.stands (sym its_status ∙ e)

    pub violates_by : status_of reply ≡ 1 → NeverConforms s profile bytes
    violates_by e = violating is.is_judged.validated is.is_judged.stands (sym its_status ∙ e)

    pub open_by : status_of reply ≡ 2
        → (t : Tree) × Reads bytes t × (¬ Conforms s (constant false) profile t) × (¬ ¬ Conforms s (constant true) profile t)
    open_by e = hanging is.is_judged.validated is.is_judged.stands (sym its_status ∙ e)

    pub fault_by : status_of reply ≡ 3 → (t : Tree) → Reads bytes t → IsSome (root s profile) → ⊥
    fault_by e = faulty is.is_judged.validated is.is_judged.stands (sym its_status ∙ e)

    pub outcome_by : (outcome : Tree) × (out_of reply ≡ compact outcome ++ codes "\n") × IsOutcome (severity (status_of reply)) outcome
    outcome_by = (
      is.outcome,
      ap out_of is.is_reply,
      subst (λ text. IsOutcome text is.outcome) (severe is.is_judged.validated ∙ ap severity (sym its_status)) is.is_judged.is_outcome,
    )

  -- ---- the same where a user vouches for unread rules

  abbrev number_given : Result Vouched Fault → ℕ
  number_given v = code_of (standing_status (standing_given v))

  severe_given : (v : Result Vouched Fault) → severity_given v ≡ severity (number_given v)
  severe_given (Ok (vouched.Conforms relied)) = refl
  severe_given (Ok (vouched.Violates issues)) = refl
  severe_given (Ok (vouched.Open sites)) = refl
  severe_given (Err fault) = refl

  module _ (texts : List Text) where
    conforming_given : (v : Result Vouched Fault) → StandsAsGiven s texts profile bytes v → number_given v ≡ 0
        → (t : Tree) × Reads bytes t × ((meaning : Interpretation) → AreGiven texts meaning → Conforms s meaning profile t)
    conforming_given (Ok (vouched.Conforms relied)) h e = (h.0, h.1, h.2.1)
    conforming_given (Ok (vouched.Violates issues)) h e = absurd (false≢true (ap (eqb 0) e))
    conforming_given (Ok (vouched.Open sites)) h e = absurd (false≢true (ap (eqb 0) e))
    conforming_given (Err fault) h e = absurd (false≢true (ap (eqb 0) e))

    violating_given : (v : Result Vouched Fault) → StandsAsGiven s texts profile bytes v → number_given v ≡ 1 → NeverConforms s profile bytes
    violating_given (Ok (vouched.Conforms relied)) h e = absurd (false≢true (ap (eqb 1) e))
    violating_given (Ok (vouched.Violates issues)) h e = (h.0, h.1, h.2)
    violating_given (Ok (vouched.Open sites)) h e = absurd (false≢true (ap (eqb 1) e))
    violating_given (Err fault) h e = absurd (false≢true (ap (eqb 1) e))

    hanging_given : (v : Result Vouched Fault) → StandsAsGiven s texts profile bytes v → number_given v ≡ 2
        → (t : Tree) × Reads bytes t × (¬ Conforms s (as_read texts as_given) profile t) × (¬ ¬ Conforms s (constant true) profile t)
    hanging_given (Ok (vouched.Conforms relied)) h e = absurd (false≢true (ap (eqb 2) e))
    hanging_given (Ok (vouched.Violates issues)) h e = absurd (false≢true (ap (eqb 2) e))
    hanging_given (Ok (vouched.Open sites)) h e = (h.0, h.1, h.2.0, h.2.1)
    hanging_given (Err fault) h e = absurd (false≢true (ap (eqb 2) e))

    module _ (notes : Text) (reply : ReplyValue) (is : IsJudgedReply s texts notes profile bytes reply) where
      given_status : status_of reply ≡ number_given is.is_judged.validated
      given_status =
          ap status_of is.is_reply ∙ noted_status notes (code_of (standing_status is.standing)) (compact is.outcome ++ codes "\n")
          ∙ ap (λ standing. code_of (standing_status standing)) is.is_judged.stands_so

      conforms_so : status_of reply ≡ 0
          → (t : Tree) × Reads bytes t × ((meaning : Interpretation) → AreGiven texts meaning → Conforms s meaning profile t)
      conforms_so e = conforming_given is.is_judged.validated is.is_judged.stands (sym given_status ∙ e)

      violates_so : status_of reply ≡ 1 → NeverConforms s profile bytes
      violates_so e = violating_given is.is_judged.validated is.is_judged.stands (sym given_status ∙ e)

      open_so : status_of reply ≡ 2
          → (t : Tree) × Reads bytes t × (¬ Conforms s (as_read texts as_given) profile t) × (¬ ¬ Conforms s (constant true) profile t)
      open_so e = hanging_given is.is_judged.validated is.is_judged.stands (sym given_status ∙ e)

      outcome_so : (outcome : Tree) × (out_of reply ≡ compact outcome ++ codes "\n") × IsOutcome (severity (status_of reply)) outcome
      outcome_so = (
        is.outcome,
        ap out_of is.is_reply ∙ noted_out notes (code_of (standing_status is.standing)) (compact is.outcome ++ codes "\n"),
        subst (λ text. IsOutcome text is.outcome) (severe_given is.is_judged.validated ∙ ap severity (sym given_status)) is.is_judged.is_outcome,
      )

-- ---- by the lines of a file

module _ (s : SessionValue) (profile bytes name lines : Text) (reply : ReplyValue) where
  pub given_conforms : IsGivenReply s profile bytes name lines reply → status_of reply ≡ 0 → (texts : List Text) × AreSame texts (texts_given lines)
      × (t : Tree) × Reads bytes t × ((meaning : Interpretation) → AreGiven texts meaning → Conforms (schema_in s) meaning profile t)
  given_conforms (inl read) e = let it = conforms_so (schema_in s) profile bytes read.1.0 _ reply read.1.2 e in (read.1.0, read.1.1, it.0, it.1, it.2)
  given_conforms (inr unread) e = absurd (false≢true (ap (eqb 0) (sym (ap status_of unread.1) ∙ e)))

  pub given_violates : IsGivenReply s profile bytes name lines reply → status_of reply ≡ 1 → NeverConforms (schema_in s) profile bytes
  given_violates (inl read) e = violates_so (schema_in s) profile bytes read.1.0 _ reply read.1.2 e
  given_violates (inr unread) e = absurd (false≢true (ap (eqb 1) (sym (ap status_of unread.1) ∙ e)))

  pub given_open : IsGivenReply s profile bytes name lines reply → status_of reply ≡ 2 → (texts : List Text) × AreSame texts (texts_given lines)
      × (t : Tree) × Reads bytes t × (¬ Conforms (schema_in s) (as_read texts as_given) profile t)
      × (¬ ¬ Conforms (schema_in s) (constant true) profile t)
  given_open (inl read) e = let it = open_so (schema_in s) profile bytes read.1.0 _ reply read.1.2 e in (read.1.0, read.1.1, it.0, it.1, it.2, it.3)
  given_open (inr unread) e = absurd (false≢true (ap (eqb 2) (sym (ap status_of unread.1) ∙ e)))

  pub given_outcome : IsGivenReply s profile bytes name lines reply → is_told reply ≡ false
      → (outcome : Tree) × (out_of reply ≡ compact outcome ++ codes "\n") × IsOutcome (severity (status_of reply)) outcome
  given_outcome (inl read) plain = outcome_so (schema_in s) profile bytes read.1.0 _ reply read.1.2
  given_outcome (inr unread) plain = absurd (false≢true (sym plain ∙ ap is_told unread.1))
