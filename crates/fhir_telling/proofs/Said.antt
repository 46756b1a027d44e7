-- What a verdict on a line says of its resource.
use Rattle.std.proofs.Common.{◌≡◌, ◌⊎◌, ℕ, suc, List, [], ◌∷◌, map, fold, Bool, true, false, None, Some, Option, is_some, Result, Ok, Err, All, codes, refl, sym, ap, subst, ◌∙◌, inl, inr, arith}
use Rattle.std.proofs.lemmas.List.Elements.{All-nil, All-cons}
use Rattle.std.specs.List.{Contains, AllZip}
use Rattle.std.specs.Option.{option_map_or, option_and_then}
use Rattle.fhir_json.specs.Grammar.{Reads}
use Rattle.fhir_json.specs.Tree.{Text, Tree}
use Rattle.fhir_schema.specs.Schemas.{SchemaValue}
use Rattle.fhir_json.specs.Fields.{text_in}
use Rattle.fhir_nodes.specs.declared.node.NodeRef.{NodeRef}
use Rattle.fhir_schema.specs.Schemas.{resource_root}
use Rattle.fhir_instance.specs.Items.{Item}
use Rattle.fhir_instance.specs.Typing.{Value, Types, value_of, resource, resource_of_type, item_with, kids_by}
use Rattle.fhir_instance.specs.declared.role.ObjectRole.TheVariants as roles
use Rattle.fhir_commands.specs.declared.reply.Standing.{Standing}
use Rattle.fhir_commands.specs.declared.reply.Standing.TheVariants.{Conforms, Violates, Open, Fault as Faulty}
use Rattle.fhir_validator.specs.declared.fault.Fault.{Fault}
use Rattle.fhir_validator.specs.declared.verdict.Verdict.{Verdict}
use Rattle.fhir_validator.specs.declared.verdict.Verdict.TheVariants as verdicts
use Rattle.fhir_validator.specs.declared.verdict.Vouched.{Vouched}
use Rattle.fhir_validator.specs.declared.verdict.Vouched.TheVariants as vouched
use Rattle.fhir_replies.specs.Judging.{standing_of, standing_given}
use Rattle.fhir_replies.specs.Standing.{Stands, StandsAsGiven, AlwaysConforms, NeverConforms, ConformsAsGiven}
use Rattle.fhir_claims.specs.Claims.{type_node, profiles_of}
use Rattle.fhir_inputs.specs.declared.input.Kind.{Kind}
use Rattle.fhir_telling.specs.declared.verdict.LineVerdict.{LineVerdict}
use Rattle.fhir_telling.specs.declared.verdict.LineVerdict.TheVariants as lines
use Rattle.fhir_telling.specs.Verdicts.{verdict_of, worse, worst}
use Rattle.fhir_telling.specs.Judgements.{JudgementValue, ToldValue}
use Rattle.fhir_telling.specs.Questions.{QuestionValue, profiles_for, IsJudgedBy}
use Rattle.fhir_telling.specs.Telling.{is_blank, IsJudgementOf, IsJudgedByType, IsToldByOwn, IsToldUnread, IsToldBy, IsJudgedTold, IsLineTold, IsTold}

-- ---- of what is answered of a resource

conforms_by : (s : SchemaValue) (profile bytes : Text) (v : Result Verdict Fault) → Stands s profile bytes v
    → standing_of v ≡ Conforms → AlwaysConforms s profile bytes
conforms_by s profile bytes (Ok verdicts.Conforms) so is = (so.0, so.1, so.2.0, so.2.1)
conforms_by s profile bytes (Ok (verdicts.Violates issues)) so is = absurd cc
conforms_by s profile bytes (Ok (verdicts.Open sites)) so is = absurd cc
conforms_by s profile bytes (Err fault) so is = absurd cc

violates_by : (s : SchemaValue) (profile bytes : Text) (v : Result Verdict Fault) → Stands s profile bytes v
    → standing_of v ≡ Violates → NeverConforms s profile bytes
violates_by s profile bytes (Ok verdicts.Conforms) so is = absurd cc
violates_by s profile bytes (Ok (verdicts.Violates issues)) so is = (so.0, so.1, so.2)
violates_by s profile bytes (Ok (verdicts.Open sites)) so is = absurd cc
violates_by s profile bytes (Err fault) so is = absurd cc

conforms_by_given : (s : SchemaValue) (texts : List Text) (profile bytes : Text) (v : Result Vouched Fault) → StandsAsGiven s texts profile bytes v
    → standing_given v ≡ Conforms → ConformsAsGiven s texts profile bytes
conforms_by_given s texts profile bytes (Ok (vouched.Conforms relied)) so is = (so.0, so.1, so.2.1, so.2.3)
conforms_by_given s texts profile bytes (Ok (vouched.Violates issues)) so is = absurd cc
conforms_by_given s texts profile bytes (Ok (vouched.Open sites)) so is = absurd cc
conforms_by_given s texts profile bytes (Err fault) so is = absurd cc

violates_by_given : (s : SchemaValue) (texts : List Text) (profile bytes : Text) (v : Result Vouched Fault) → StandsAsGiven s texts profile bytes v
    → standing_given v ≡ Violates → NeverConforms s profile bytes
violates_by_given s texts profile bytes (Ok (vouched.Conforms relied)) so is = absurd cc
violates_by_given s texts profile bytes (Ok (vouched.Violates issues)) so is = (so.0, so.1, so.2)
violates_by_given s texts profile bytes (Ok (vouched.Open sites)) so is = absurd cc
violates_by_given s texts profile bytes (Err fault) so is = absurd cc

-- it conforms to a profile, as far as is said
abbrev Means : SchemaValue → Option (List Text) → (profile bytes : Text) → Type 0
Means s None profile bytes = AlwaysConforms s profile bytes
Means s (Some texts) profile bytes = ConformsAsGiven s texts profile bytes

means_of : (s : SchemaValue) (texts : Option (List Text)) (profile line : Text) (standing : Standing) (outcome : Tree)
    → IsJudgedBy s texts profile line standing outcome → standing ≡ Conforms → Means s texts profile line
means_of s None profile line standing outcome judged is = conforms_by s profile line judged.validated judged.stands (sym judged.stands_so ∙ is)
means_of s (Some texts) profile line standing outcome judged is =
    conforms_by_given s texts profile line judged.validated judged.stands (sym judged.stands_so ∙ is)

never_of : (s : SchemaValue) (texts : Option (List Text)) (profile line : Text) (standing : Standing) (outcome : Tree)
    → IsJudgedBy s texts profile line standing outcome → standing ≡ Violates → NeverConforms s profile line
never_of s None profile line standing outcome judged is = violates_by s profile line judged.validated judged.stands (sym judged.stands_so ∙ is)
never_of s (Some texts) profile line standing outcome judged is =
    violates_by_given s texts profile line judged.validated judged.stands (sym judged.stands_so ∙ is)

-- the resource that it conforms to is read
read_of : (s : SchemaValue) (texts : Option (List Text)) (profile line : Text) → Means s texts profile line → (t : Tree) × Reads line t
read_of s None profile line so = (so.0, so.1)
read_of s (Some texts) profile line so = (so.0, so.1)

-- a resource of a type that isn't there has no item, and so conforms to nothing
untyped_by : (o : Option Text) (s : SchemaValue) (v : Value) → option_and_then (resource_root s) o ≡ None → option_and_then (resource_of_type s v) o ≡ None
untyped_by None s v none = refl
untyped_by (Some code) s v none = ap (λ node. item_with code (Some v.json) (kids_by roles.Resource node v)) none

no_node : (o : Option NodeRef) → is_some o ≡ false → o ≡ None
no_node None is = refl
no_node (Some node) is = absurd cc

no_item : (s : SchemaValue) (t : Tree) (x : Item) → is_some (type_node s t) ≡ false → Types s t x → ⊥
no_item s t x none typed =
    let nothing : resource s t ≡ None = untyped_by (text_in (codes "resourceType") t) s (value_of s t) (no_node (type_node s t) none) in
    let both : None ≡ Some x = sym nothing ∙ typed in
    absurd cc

untyped_never : (s : SchemaValue) (profile line : Text) (t : Tree) → Reads line t → is_some (type_node s t) ≡ false → NeverConforms s profile line
untyped_never s profile line t reads none = (t, reads, λ meaning so. no_item s t so.itself none so.typed)

-- ---- the worst of several

both_conform : (a b : Standing) → worse a b ≡ Conforms → (a ≡ Conforms) × (b ≡ Conforms)
both_conform Conforms b is = (refl, is)
both_conform Violates b is = absurd cc
both_conform Open Conforms is = absurd cc
both_conform Open Violates is = absurd cc
both_conform Open Open is = absurd cc
both_conform Open Faulty is = absurd cc
both_conform Faulty Conforms is = absurd cc
both_conform Faulty Violates is = absurd cc
both_conform Faulty Open is = absurd cc
both_conform Faulty Faulty is = absurd cc

one_violates : (a b : Standing) → worse a b ≡ Violates → (a ≡ Violates) ⊎ (b ≡ Violates)
one_violates Violates b is = inl refl
one_violates Conforms b is = inr is
one_violates Open Conforms is = absurd cc
one_violates Open Violates is = inr refl
one_violates Open Open is = absurd cc
one_violates Open Faulty is = absurd cc
one_violates Faulty Conforms is = absurd cc
one_violates Faulty Violates is = inr refl
one_violates Faulty Open is = absurd cc
one_violates Faulty Faulty is = absurd cc

abbrev Each : List JudgementValue → Type 0
Each [] = Unit {0}
Each (j ∷ js) = (j.standing ≡ Conforms) × Each js

abbrev Some_ : List JudgementValue → Type 0
Some_ [] = ⊥
Some_ (j ∷ js) = (j.standing ≡ Violates) ⊎ Some_ js

all_conform : (a : Standing) (js : List JudgementValue) → fold worse a (map (λ j. j.standing) js) ≡ Conforms → (a ≡ Conforms) × Each js
all_conform a [] is = (is, tt)
all_conform a (j ∷ js) is =
    let rest = all_conform (worse a j.standing) js is in
    let both = both_conform a j.standing rest.0 in
    (both.0, (both.1, rest.1))

some_violates : (a : Standing) (js : List JudgementValue) → fold worse a (map (λ j. j.standing) js) ≡ Violates → (a ≡ Violates) ⊎ Some_ js
some_violates a [] is = inl is
some_violates a (j ∷ js) is = by (some_violates (worse a j.standing) js is)
  where
    two : (a ≡ Violates) ⊎ (j.standing ≡ Violates) → (a ≡ Violates) ⊎ Some_ (j ∷ js)
    two (inl one) = inl one
    two (inr other) = inr (inl other)

    by : (worse a j.standing ≡ Violates) ⊎ Some_ js → (a ≡ Violates) ⊎ Some_ (j ∷ js)
    by (inl first) = two (one_violates a j.standing first)
    by (inr rest) = inr (inr rest)

conforming : (s : Standing) → verdict_of s ≡ lines.Conforms → s ≡ Conforms
conforming Conforms is = refl
conforming Violates is = absurd cc
conforming Open is = absurd cc
conforming Faulty is = absurd cc

violating : (s : Standing) → verdict_of s ≡ lines.Violates → s ≡ Violates
violating Conforms is = absurd cc
violating Violates is = refl
violating Open is = absurd cc
violating Faulty is = absurd cc

-- ---- by its own profiles

claims_mean : (q : QuestionValue) (line : Text) (profiles : List Text) (js : List JudgementValue) → AllZip (IsJudgementOf q line) profiles js → Each js
    → All (λ profile. Means q.schema q.texts profile line) profiles
claims_mean q line [] [] so each = All-nil (λ profile. Means q.schema q.texts profile line)
claims_mean q line [] (j ∷ js) so each = absurd so
claims_mean q line (profile ∷ profiles) [] so each = absurd so
claims_mean q line (profile ∷ profiles) (j ∷ js) so each =
    All-cons (λ p. Means q.schema q.texts p line) profile profiles
    (means_of q.schema q.texts profile line j.standing j.outcome so.0.1 each.0) (claims_mean q line profiles js so.1 each.1)

-- one of several profiles to which a resource doesn't conform
record Fails (q : QuestionValue) (line : Text) (profiles : List Text) : Type 0 where
  pub profile : Text
  pub among : Contains profiles profile
  pub never : NeverConforms q.schema profile line

fails_first : (q : QuestionValue) (line profile : Text) (profiles : List Text) → NeverConforms q.schema profile line → Fails q line (profile ∷ profiles)
fails_first q line profile profiles never = record { profile = profile; among = (0, omega arith, refl); never = never }

fails_later : (q : QuestionValue) (line profile : Text) (profiles : List Text) → Fails q line profiles → Fails q line (profile ∷ profiles)
fails_later q line profile profiles f =
    record { profile = f.profile; among = (suc f.among.0, omega (arith, f.among.1), f.among.2); never = f.never }

claims_fail : (q : QuestionValue) (line : Text) (profiles : List Text) (js : List JudgementValue) → AllZip (IsJudgementOf q line) profiles js → Some_ js
    → Fails q line profiles
claims_fail q line [] [] so some = absurd some
claims_fail q line [] (j ∷ js) so some = absurd so
claims_fail q line (profile ∷ profiles) [] so some = absurd so
claims_fail q line (profile ∷ profiles) (j ∷ js) so (inl first) =
    fails_first q line profile profiles (never_of q.schema q.texts profile line j.standing j.outcome so.0.1 first)
claims_fail q line (profile ∷ profiles) (j ∷ js) so (inr rest) = fails_later q line profile profiles (claims_fail q line profiles js so.1 rest)

type_means : (typed : Bool) (q : QuestionValue) (line own : Text) (standing : Standing) (outcome : Tree) → IsJudgedByType typed q line own standing outcome
    → standing ≡ Conforms → Means q.schema q.texts own line
type_means true q line own standing outcome judged is = means_of q.schema q.texts own line standing outcome judged is
type_means false q line own standing outcome judged is = absurd cc

type_fails : (typed : Bool) (q : QuestionValue) (line own : Text) (t : Tree) (standing : Standing) (outcome : Tree) → is_some (type_node q.schema t) ≡ typed
    → Reads line t → IsJudgedByType typed q line own standing outcome → standing ≡ Violates → NeverConforms q.schema own line
type_fails true q line own t standing outcome same reads judged is = never_of q.schema q.texts own line standing outcome judged is
type_fails false q line own t standing outcome same reads judged is = untyped_never q.schema own line t reads same

-- ---- of what is told of a line

abbrev profiles_by : Option Text → QuestionValue → Tree → List Text
profiles_by asked q t = option_map_or (λ profile. profile ∷ []) asked (profiles_of q.schema q.skips_unknown t)

-- it conforms to each profile that it is judged by
record Holds (q : QuestionValue) (line : Text) : Type 0 where
  pub t : Tree
  pub reads : Reads line t
  pub all : All (λ profile. Means q.schema q.texts profile line) (profiles_for q t)

-- it doesn't to one of them
record Breaks (q : QuestionValue) (line : Text) : Type 0 where
  pub t : Tree
  pub reads : Reads line t
  pub fails : Fails q line (profiles_for q t)

-- as it is asked for, and by its own
profiles_asked : (q : QuestionValue) (t : Tree) (profile : Text) → q.profile ≡ Some profile → profile ∷ [] ≡ profiles_for q t
profiles_asked q t profile is = ap (λ o. profiles_by o q t) (sym is)

own_profiles : (q : QuestionValue) (t : Tree) → q.profile ≡ None → profiles_of q.schema q.skips_unknown t ≡ profiles_for q t
own_profiles q t is = ap (λ o. profiles_by o q t) (sym is)

own_holds : (q : QuestionValue) (line : Text) (told : ToldValue) → q.profile ≡ None → IsToldByOwn q line told → told.verdict ≡ lines.Conforms → Holds q line
own_holds q line told own so is =
    let standings = so.are.first.standing ∷ map (λ j. j.standing) so.are.others in
    let worst_is : worst standings ≡ Conforms = conforming (worst standings) (sym (ap (λ x. x.verdict) so.are.is) ∙ is) in
    let each = all_conform Conforms (so.are.first ∷ so.are.others) worst_is in
    let of_type = so.are.of_type in
    let first = type_means (is_some (type_node q.schema so.t)) q line so.own so.are.first.standing of_type.outcome of_type.judged each.1.0 in
    let rest = claims_mean q line so.claims so.are.others so.are.of_claims each.1.1 in
    record {
      t = so.t;
      reads = so.reads;
      all = subst (All (λ profile. Means q.schema q.texts profile line)) (sym so.profiles ∙ own_profiles q so.t own)
          (All-cons (λ profile. Means q.schema q.texts profile line) so.own so.claims first rest);
    }

own_breaks : (q : QuestionValue) (line : Text) (told : ToldValue) → q.profile ≡ None → IsToldByOwn q line told → told.verdict ≡ lines.Violates → Breaks q line
own_breaks q line told own so is = record {
  t = so.t;
  reads = so.reads;
  fails = subst (Fails q line) (sym so.profiles ∙ own_profiles q so.t own) (by (some_violates Conforms (so.are.first ∷ so.are.others) worst_is));
}
  where
    worst_is : worst (so.are.first.standing ∷ map (λ j. j.standing) so.are.others) ≡ Violates
    worst_is = violating (worst (so.are.first.standing ∷ map (λ j. j.standing) so.are.others)) (sym (ap (λ x. x.verdict) so.are.is) ∙ is)

    by : (Conforms ≡ Violates) ⊎ Some_ (so.are.first ∷ so.are.others) → Fails q line (so.own ∷ so.claims)
    by (inl same) = absurd cc
    by (inr (inl first)) =
        fails_first q line so.own so.claims
        (type_fails (is_some (type_node q.schema so.t)) q line so.own so.t so.are.first.standing so.are.of_type.outcome refl so.reads so.are.of_type.judged first)
    by (inr (inr rest)) = fails_later q line so.own so.claims (claims_fail q line so.claims so.are.others so.are.of_claims rest)

asked_holds : (q : QuestionValue) (line profile : Text) (told : ToldValue) → q.profile ≡ Some profile → IsToldBy q line profile told
    → told.verdict ≡ lines.Conforms → Holds q line
asked_holds q line profile told asked (j, of, so) is =
    let conforms : j.standing ≡ Conforms = conforming j.standing (sym (ap (λ x. x.verdict) so) ∙ is) in
    let means = means_of q.schema q.texts profile line j.standing j.outcome of.1 conforms in
    let read = read_of q.schema q.texts profile line means in
    record {
      t = read.0;
      reads = read.1;
      all = subst (All (λ p. Means q.schema q.texts p line)) (profiles_asked q read.0 profile asked)
          (All-cons (λ p. Means q.schema q.texts p line) profile [] means (All-nil (λ p. Means q.schema q.texts p line)));
    }

asked_breaks : (q : QuestionValue) (line profile : Text) (told : ToldValue) → q.profile ≡ Some profile → IsToldBy q line profile told
    → told.verdict ≡ lines.Violates → Breaks q line
asked_breaks q line profile told asked (j, of, so) is =
    let violates : j.standing ≡ Violates = violating j.standing (sym (ap (λ x. x.verdict) so) ∙ is) in
    let never = never_of q.schema q.texts profile line j.standing j.outcome of.1 violates in
    record {
      t = never.0;
      reads = never.1;
      fails = subst (Fails q line) (profiles_asked q never.0 profile asked) (fails_first q line profile [] never);
    }

unread_is : (line : Text) (told : ToldValue) (verdict : LineVerdict) → IsToldUnread line told → told.verdict ≡ verdict → lines.Fault ≡ verdict
unread_is line told verdict so is = sym (ap (λ x. x.verdict) so.is) ∙ is

judged_holds : (asked : Option Text) (q : QuestionValue) (line : Text) (told : ToldValue) → q.profile ≡ asked → IsJudgedTold asked q line told
    → told.verdict ≡ lines.Conforms → Holds q line
judged_holds (Some profile) q line told same so is = asked_holds q line profile told same so is
judged_holds None q line told same (inl so) is = own_holds q line told same so is
judged_holds None q line told same (inr so) is =
    let no : lines.Fault ≡ lines.Conforms = unread_is line told lines.Conforms so is in
    absurd cc

judged_breaks : (asked : Option Text) (q : QuestionValue) (line : Text) (told : ToldValue) → q.profile ≡ asked → IsJudgedTold asked q line told
    → told.verdict ≡ lines.Violates → Breaks q line
judged_breaks (Some profile) q line told same so is = asked_breaks q line profile told same so is
judged_breaks None q line told same (inl so) is = own_breaks q line told same so is
judged_breaks None q line told same (inr so) is =
    let no : lines.Fault ≡ lines.Violates = unread_is line told lines.Violates so is in
    absurd cc

line_holds : (blank : Bool) (q : QuestionValue) (line : Text) (told : ToldValue) → IsLineTold blank q line told → told.verdict ≡ lines.Conforms → Holds q line
line_holds true q line told so is =
    let no : lines.Empty ≡ lines.Conforms = sym (ap (λ x. x.verdict) so) ∙ is in
    absurd cc
line_holds false q line told so is = judged_holds q.profile q line told refl so is

line_breaks : (blank : Bool) (q : QuestionValue) (line : Text) (told : ToldValue) → IsLineTold blank q line told → told.verdict ≡ lines.Violates → Breaks q line
line_breaks true q line told so is =
    let no : lines.Empty ≡ lines.Violates = sym (ap (λ x. x.verdict) so) ∙ is in
    absurd cc
line_breaks false q line told so is = judged_breaks q.profile q line told refl so is

holds : (q : QuestionValue) (kind : Kind) (line : List ℕ) (told : ToldValue) → IsTold q kind line told → told.verdict ≡ lines.Conforms → Holds q line
holds q kind line told (inl so) is =
    let no : lines.NoMemory ≡ lines.Conforms = sym (ap (λ x. x.verdict) so) ∙ is in
    absurd cc
holds q kind line told (inr so) is = line_holds (is_blank kind line) q line told so is

breaks : (q : QuestionValue) (kind : Kind) (line : List ℕ) (told : ToldValue) → IsTold q kind line told → told.verdict ≡ lines.Violates → Breaks q line
breaks q kind line told (inl so) is =
    let no : lines.NoMemory ≡ lines.Violates = sym (ap (λ x. x.verdict) so) ∙ is in
    absurd cc
breaks q kind line told (inr so) is = line_breaks (is_blank kind line) q line told so is

-- ---- the laws

pub always : (q : QuestionValue) (kind : Kind) (line : List ℕ) (told : ToldValue) → IsTold q kind line told → told.verdict ≡ lines.Conforms
    → q.texts ≡ None → (t : Tree) × Reads line t × All (λ profile. AlwaysConforms q.schema profile line) (profiles_for q t)
always q kind line told so is none =
    let h = holds q kind line told so is in
    (h.t, h.reads, subst (λ o. All (λ profile. Means q.schema o profile line) (profiles_for q h.t)) none h.all)

pub given : (q : QuestionValue) (kind : Kind) (line : List ℕ) (told : ToldValue) (texts : List Text) → IsTold q kind line told → told.verdict ≡ lines.Conforms
    → q.texts ≡ Some texts → (t : Tree) × Reads line t × All (λ profile. ConformsAsGiven q.schema texts profile line) (profiles_for q t)
given q kind line told texts so is some =
    let h = holds q kind line told so is in
    (h.t, h.reads, subst (λ o. All (λ profile. Means q.schema o profile line) (profiles_for q h.t)) some h.all)

pub never : (q : QuestionValue) (kind : Kind) (line : List ℕ) (told : ToldValue) → IsTold q kind line told → told.verdict ≡ lines.Violates
    → (t : Tree) × Reads line t × (profile : Text) × Contains (profiles_for q t) profile × NeverConforms q.schema profile line
never q kind line told so is =
    let b = breaks q kind line told so is in
    (b.t, b.reads, b.fails.profile, b.fails.among, b.fails.never)
