-- How a resource stands where a user vouches for unread rules by their texts, from how it stands else.
use Rattle.std.proofs.Common.{◌≡◌, ℕ, Bool, true, false, List, [], Option, Some, None, Result, Ok, Err, refl, sym, ap, ◌∙◌, subst}
use Rattle.std.specs.Prelude.{is_some, is_none, option_map, IsSome, if◌then◌else◌}
use Rattle.std.specs.Option.{option_and_then}
use Rattle.std.proofs.lemmas.Bool.{false≢true}
use Rattle.fhir_json.specs.Tree.{Text, Tree}
use Rattle.fhir_json.specs.Grammar.{Reads}
use Rattle.fhir_elements.specs.declared.reason.Reason.{Reason}
use Rattle.fhir_nodes.specs.declared.node.NodeRef.{NodeRef}
use Rattle.fhir_nodes.specs.Urls.{url_place}
use Rattle.fhir_schema.specs.Settling.{reason_at}
use Rattle.fhir_schema.specs.Schemas.{SchemaValue, root, root_in, root_element, unusable}
use Rattle.fhir_facets.specs.Unread.{as_given}
use Rattle.fhir_conformance.specs.Conformance.{Interpretation, Conforms, constant, as_read}
use Rattle.fhir_validator.specs.declared.fault.Fault.{Fault}
use Rattle.fhir_validator.specs.declared.fault.Fault.TheVariants.{Missing, Unusable, NotJson, NoMemory}
use Rattle.fhir_validator.specs.declared.verdict.Verdict.{Verdict}
use Rattle.fhir_validator.specs.declared.verdict.Verdict.TheVariants as verdicts
use Rattle.fhir_validator.specs.declared.verdict.Vouched.{Vouched}
use Rattle.fhir_validator.specs.declared.verdict.Vouched.TheVariants as vouched
use Rattle.fhir_validator.specs.Verdicts.{Means}
use Rattle.fhir_commands.specs.declared.reply.Standing.{Standing}
use Rattle.fhir_commands.specs.declared.reply.Standing.TheVariants as standings
use Rattle.fhir_replies.specs.Standing.{Stands, StandsAsGiven}
use Rattle.fhir_replies.specs.Judging.{standing_of, standing_given, IsJudged, IsJudgedAsGiven}

-- ---- a fault excludes a verdict

-- the root of the definition at a place, by the reason why that can't be used
abbrev root_by : SchemaValue → ℕ → Option Reason → Option NodeRef
root_by s place reason =
    if is_none reason then option_map (λ e. record { definition = place; element = e }) (root_element s place) else None

unrooted_at : (s : SchemaValue) (reason : Reason) (place : Option ℕ)
    → option_and_then (reason_at s.reasons) place ≡ Some reason → option_and_then (root_in s) place ≡ None
unrooted_at s reason None h = refl
unrooted_at s reason (Some place) h = ap (root_by s place) h

unrooted : (s : SchemaValue) (profile : Text) (reason : Reason) → unusable s profile ≡ Some reason → root s profile ≡ None
unrooted s profile reason h = unrooted_at s reason (url_place s.definitions profile) h

-- the profile isn't without a root
abbrev IsRooted : SchemaValue → Text → Type 0
IsRooted s profile = root s profile ≡ None → ⊥

rooted : (s : SchemaValue) (profile : Text) → IsSome (root s profile) → IsRooted s profile
rooted s profile some none = false≢true (ap is_some (sym none) ∙ some)

rooted_of : (s : SchemaValue) (meaning : Interpretation) (profile : Text) (t : Tree) → Conforms s meaning profile t → IsRooted s profile
rooted_of s meaning profile t c none = false≢true (ap is_some (sym none ∙ c.usable))

no_fault : (s : SchemaValue) (profile bytes : Text) (t : Tree) (fault : Fault) → Reads bytes t → IsRooted s profile
    → Means s profile bytes fault × (fault ≡ NoMemory → ⊥) → ⊥
no_fault s profile bytes t Missing reads has_root h = has_root h.0.0
no_fault s profile bytes t (Unusable reason) reads has_root h = has_root (unrooted s profile reason h.0)
no_fault s profile bytes t (NotJson fault) reads has_root h = h.0.1 t reads
no_fault s profile bytes t NoMemory reads has_root h = h.1 refl

-- ---- what is told

-- one text is one tree
abbrev pub OneTree : Type 0
OneTree = (bytes : Text) (t u : Tree) → Reads bytes t → Reads bytes u → t ≡ u

-- that it conforms, and that it violates
abbrev conforming : Standing → Bool
conforming standings.Conforms = true
conforming standings.Violates = false
conforming standings.Open = false
conforming standings.Fault = false

abbrev violating : Standing → Bool
violating standings.Conforms = false
violating standings.Violates = true
violating standings.Open = false
violating standings.Fault = false

-- ---- the two together

module _ (one : OneTree) (s : SchemaValue) (profile bytes : Text) where
  -- what conforms in one tree that the bytes are does so in another
  moved : (meaning : Interpretation) (t u : Tree) → Reads bytes t → Reads bytes u → Conforms s meaning profile t → Conforms s meaning profile u
  moved meaning t u reads others c = subst (λ t. Conforms s meaning profile t) (one bytes t u reads others) c

  -- where it is told to conform, it does
  always : (v : Result Verdict Fault) → Stands s profile bytes v → standings.Conforms ≡ standing_of v
      → (t : Tree) × Reads bytes t × ((meaning : Interpretation) → Conforms s meaning profile t)
  always (Ok verdicts.Conforms) h is = (h.0, h.1, h.2.0)
  always (Ok (verdicts.Violates issues)) h is = absurd (false≢true (ap conforming (sym is)))
  always (Ok (verdicts.Open sites)) h is = absurd (false≢true (ap conforming (sym is)))
  always (Err fault) h is = absurd (false≢true (ap conforming (sym is)))

  -- and where the given rules hold
  as_they_hold : (texts : List Text) (v : Result Vouched Fault) → StandsAsGiven s texts profile bytes v → standings.Conforms ≡ standing_given v
      → (t : Tree) × Reads bytes t × Conforms s (as_read texts as_given) profile t
  as_they_hold texts (Ok (vouched.Conforms relied)) h is = (h.0, h.1, h.2.1 (as_read texts as_given) (λ u outermost place given. given))
  as_they_hold texts (Ok (vouched.Violates issues)) h is = absurd (false≢true (ap conforming (sym is)))
  as_they_hold texts (Ok (vouched.Open sites)) h is = absurd (false≢true (ap conforming (sym is)))
  as_they_hold texts (Err fault) h is = absurd (false≢true (ap conforming (sym is)))

  -- where it is told to violate, it does, with and without given rules
  never : (v : Result Verdict Fault) → Stands s profile bytes v → standings.Violates ≡ standing_of v
      → (t : Tree) × Reads bytes t × ((meaning : Interpretation) → ¬ Conforms s meaning profile t) × IsSome (root s profile)
  never (Ok verdicts.Conforms) h is = absurd (false≢true (ap violating (sym is)))
  never (Ok (verdicts.Violates issues)) h is = (h.0, h.1, h.2, h.4)
  never (Ok (verdicts.Open sites)) h is = absurd (false≢true (ap violating (sym is)))
  never (Err fault) h is = absurd (false≢true (ap violating (sym is)))

  never_given : (texts : List Text) (v : Result Vouched Fault) → StandsAsGiven s texts profile bytes v → standings.Violates ≡ standing_given v
      → (t : Tree) × Reads bytes t × ((meaning : Interpretation) → ¬ Conforms s meaning profile t) × IsSome (root s profile)
  never_given texts (Ok (vouched.Conforms relied)) h is = absurd (false≢true (ap violating (sym is)))
  never_given texts (Ok (vouched.Violates issues)) h is = (h.0, h.1, h.2, h.4)
  never_given texts (Ok (vouched.Open sites)) h is = absurd (false≢true (ap violating (sym is)))
  never_given texts (Err fault) h is = absurd (false≢true (ap violating (sym is)))

  module _ (t : Tree) (reads : Reads bytes t) where
    -- what can't conform is told to violate, if the profile has a root
    told_violating : (v : Result Verdict Fault) → Stands s profile bytes v → IsRooted s profile
        → ((meaning : Interpretation) → ¬ Conforms s meaning profile t) → standing_of v ≡ standings.Violates
    told_violating (Ok verdicts.Conforms) h has_root no_meaning =
        absurd (no_meaning (constant true) (moved (constant true) h.0 t h.1 reads (h.2.0 (constant true))))
    told_violating (Ok (verdicts.Violates issues)) h has_root no_meaning = refl
    told_violating (Ok (verdicts.Open sites)) h has_root no_meaning =
        absurd (h.2.1 (λ c. no_meaning (constant true) (moved (constant true) h.0 t h.1 reads c)))
    told_violating (Err fault) h has_root no_meaning = absurd (no_fault s profile bytes t fault reads has_root h)

    told_violating_given : (texts : List Text) (v : Result Vouched Fault) → StandsAsGiven s texts profile bytes v → IsRooted s profile
        → ((meaning : Interpretation) → ¬ Conforms s meaning profile t) → standing_given v ≡ standings.Violates
    told_violating_given texts (Ok (vouched.Conforms relied)) h has_root no_meaning =
        absurd (no_meaning (constant true) (moved (constant true) h.0 t h.1 reads (h.2.1 (constant true) (λ u outermost place given. refl))))
    told_violating_given texts (Ok (vouched.Violates issues)) h has_root no_meaning = refl
    told_violating_given texts (Ok (vouched.Open sites)) h has_root no_meaning =
        absurd (h.2.1 (λ c. no_meaning (constant true) (moved (constant true) h.0 t h.1 reads c)))
    told_violating_given texts (Err fault) h has_root no_meaning = absurd (no_fault s profile bytes t fault reads has_root h)

    -- what fails with no unread rule holding, and doesn't with each, is told to be open where nothing is given
    told_open : (v : Result Vouched Fault) → StandsAsGiven s [] profile bytes v → ¬ Conforms s (constant false) profile t
        → ¬ ¬ Conforms s (constant true) profile t → standing_given v ≡ standings.Open
    told_open (Ok (vouched.Conforms relied)) h fails may =
        absurd (fails (moved (constant false) h.0 t h.1 reads (h.2.1 (constant false) (λ u outermost place given. given))))
    told_open (Ok (vouched.Violates issues)) h fails may = absurd (may (λ c. h.2 (constant true) (moved (constant true) t h.0 reads h.1 c)))
    told_open (Ok (vouched.Open sites)) h fails may = refl
    told_open (Err fault) h fails may =
        absurd (no_fault s profile bytes t fault reads (λ none. may (λ c. rooted_of s (constant true) profile t c none)) h)

    -- what conforms where the given rules hold is told to
    told_conforming : (texts : List Text) (v : Result Vouched Fault) → StandsAsGiven s texts profile bytes v
        → Conforms s (as_read texts as_given) profile t → standing_given v ≡ standings.Conforms
    told_conforming texts (Ok (vouched.Conforms relied)) h c = refl
    told_conforming texts (Ok (vouched.Violates issues)) h c =
        absurd (h.2 (as_read texts as_given) (moved (as_read texts as_given) t h.0 reads h.1 c))
    told_conforming texts (Ok (vouched.Open sites)) h c = absurd (h.2.0 (moved (as_read texts as_given) t h.0 reads h.1 c))
    told_conforming texts (Err fault) h c = absurd (no_fault s profile bytes t fault reads (rooted_of s (as_read texts as_given) profile t c) h)

pub conforms_still : (one : OneTree) (s : SchemaValue) (texts : List Text) (profile bytes : Text) (standing : Standing) (outcome other : Tree)
    → IsJudged s profile bytes standings.Conforms outcome → IsJudgedAsGiven s texts profile bytes standing other → standing ≡ standings.Conforms
conforms_still one s texts profile bytes standing outcome other judged given =
    let it = always one s profile bytes judged.validated judged.stands judged.stands_so in
    given.stands_so ∙ told_conforming one s profile bytes it.0 it.1 texts given.validated given.stands (it.2 (as_read texts as_given))

pub conforms_by_more : (one : OneTree) (s : SchemaValue) (some more : List Text) (profile bytes : Text) (standing : Standing) (outcome other : Tree)
    → ((t : Tree) → Conforms s (as_read some as_given) profile t → Conforms s (as_read more as_given) profile t)
    → IsJudgedAsGiven s some profile bytes standings.Conforms outcome → IsJudgedAsGiven s more profile bytes standing other
    → standing ≡ standings.Conforms
conforms_by_more one s some more profile bytes standing outcome other raised judged given =
    let it = as_they_hold one s profile bytes some judged.validated judged.stands judged.stands_so in
    given.stands_so ∙ told_conforming one s profile bytes it.0 it.1 more given.validated given.stands (raised it.0 it.2)

pub violates_still : (one : OneTree) (s : SchemaValue) (texts : List Text) (profile bytes : Text) (standing : Standing) (outcome other : Tree)
    → IsJudged s profile bytes standings.Violates outcome → IsJudgedAsGiven s texts profile bytes standing other → standing ≡ standings.Violates
violates_still one s texts profile bytes standing outcome other judged given =
    let it = never one s profile bytes judged.validated judged.stands judged.stands_so in
    given.stands_so ∙ told_violating_given one s profile bytes it.0 it.1 texts given.validated given.stands (rooted s profile it.3) it.2

pub violated_before : (one : OneTree) (s : SchemaValue) (texts : List Text) (profile bytes : Text) (standing : Standing) (outcome other : Tree)
    → IsJudgedAsGiven s texts profile bytes standings.Violates outcome → IsJudged s profile bytes standing other → standing ≡ standings.Violates
violated_before one s texts profile bytes standing outcome other given judged =
    let it = never_given one s profile bytes texts given.validated given.stands given.stands_so in
    judged.stands_so ∙ told_violating one s profile bytes it.0 it.1 judged.validated judged.stands (rooted s profile it.3) it.2

-- where nothing is given, the same is told
same_told : (one : OneTree) (s : SchemaValue) (profile bytes : Text) (u : Result Verdict Fault) (v : Result Vouched Fault)
    → Stands s profile bytes u → StandsAsGiven s [] profile bytes v → standing_given v ≡ standing_of u
same_told one s profile bytes (Ok verdicts.Conforms) v judged given =
    told_conforming one s profile bytes judged.0 judged.1 [] v given (judged.2.0 (as_read [] as_given))
same_told one s profile bytes (Ok (verdicts.Violates issues)) v judged given =
    told_violating_given one s profile bytes judged.0 judged.1 [] v given (rooted s profile judged.4) judged.2
same_told one s profile bytes (Ok (verdicts.Open sites)) v judged given =
    told_open one s profile bytes judged.0 judged.1 v given judged.2.0 judged.2.1
same_told one s profile bytes (Err fault) v judged given = faulted v given
  where
    faulted : (v : Result Vouched Fault) → StandsAsGiven s [] profile bytes v → standing_given v ≡ standings.Fault
    faulted (Ok verdict) h = absurd (no_fault s profile bytes h.0 fault h.1 (rooted s profile h.4) judged)
    faulted (Err other) h = refl

pub nothing_given : (one : OneTree) (s : SchemaValue) (profile bytes : Text) (standing given : Standing) (outcome other : Tree)
    → IsJudged s profile bytes standing outcome → IsJudgedAsGiven s [] profile bytes given other → given ≡ standing
nothing_given one s profile bytes standing given outcome other judged vouched =
    vouched.stands_so ∙ (same_told one s profile bytes judged.validated vouched.validated judged.stands vouched.stands
    ∙ sym judged.stands_so)
