-- Laws of what is known of snapshots.
use Rattle.std.proofs.Common.{◌≡◌, ℕ, zero, suc, List, [], ◌∷◌, ◌++◌, Bool, cond, true, false, Option, Some, None, is_some, Result, Ok, Err, IfOk, refl, ap, sym, ◌∙◌, subst}
use Rattle.std.specs.Prelude.{IfErr, OnOk}
use Rattle.std.specs.declared.vec.Vec.{Vec}
use Rattle.std.specs.declared.alloc.Global.{Global}
use Rattle.std.specs.Map.{lookup}
use Rattle.std.specs.Option.{option_map_or}
use Rattle.std.specs.Str.{bytes_eq}
use Rattle.std.proofs.lemmas.Option.{none-some, same_Some}
use Rattle.std.proofs.lemmas.Slice.Eq.{bytes_eq-Decides}
use Rattle.fhir_json.specs.Tree.{Text}
use Rattle.fhir_elements.specs.Element.{Element}
use Rattle.fhir_package.specs.Definitions.{Definitions}
use Rattle.fhir_asking.specs.Asking.{given, Answer, wants, found, run, once, answer, is_wanting, NeedsItself}
use Rattle.fhir_inheritance.specs.Named.{Gets}
use Rattle.fhir_inheritance.specs.Sources.{Source}
use Rattle.fhir_snapshot.specs.declared.fault.SnapFault.{SnapFault}
use Rattle.fhir_snapshot.specs.declared.outcome.Outcome.{Outcome}
use Rattle.fhir_snapshot.specs.declared.outcome.Outcome.TheVariants.{Made, Faulty}
use Rattle.fhir_snapshot.specs.Faults.{number_of}
use Rattle.fhir_snapshot.specs.Snapshots.{IsSnapshot, is_no_memory}
use Rattle.fhir_snapshot.specs.Chains.{asks_base, chain_of, ending, Rests}
use Rattle.fhir_snapshot.specs.Refusing.{HasOwn}
use Rattle.fhir_snapshot.specs.Knowing.{IsOf, IsOutcome, AreKnown, Knows}
use Rattle.fhir_snapshot.proofs.Refused.{own_applies}

-- what holds where a result is Ok
pub on_ok : {A E P Q : Type 0} (r : Result A E) → (P → Q) → OnOk r P → OnOk r Q
on_ok (Ok x) f h = f h
on_ok (Err e) f h = tt

-- ---- what comes of what was made

pub outcome_is : (p : Definitions) (url : Text) (o : Outcome) (r : Result (Vec Element Global) SnapFault) → IsOf o r → IfOk r (λ v. IsSnapshot p url v.items)
    → IfErr r (λ f. is_no_memory f ≡ false → HasOwn p url (number_of f)) → IsOutcome p url o
outcome_is p url (Made v) r is ok err = subst (λ r. IfOk r (λ v. IsSnapshot p url v.items)) is ok
outcome_is p url (Faulty f) r is ok err =
    own_applies p url (number_of f) (subst (λ r. IfErr r (λ f. is_no_memory f ≡ false → HasOwn p url (number_of f))) is.0 err is.1)

-- ---- one more that is known

itself : (url : Text) → bytes_eq url url ≡ true
itself url = (bytes_eq-Decides url url).1 refl

module _ (old new : List (Text × Outcome)) (url : Text) (o : Outcome) (gets : Gets old new url (Some o)) where
  known_by : (p : Definitions) → AreKnown p old → IsOutcome p url o → (other : Text) (q : Outcome) (b : Bool) → bytes_eq other url ≡ b
      → cond b (Some o) (lookup (bytes_eq other) old) ≡ Some q → IsOutcome p other q
  known_by p known is other q true same e =
      subst (λ u. IsOutcome p u q) (sym ((bytes_eq-Decides other url).0 same)) (subst (IsOutcome p url) (same_Some o q e) is)
  known_by p known is other q false same e = known other q e

  pub known_put : (p : Definitions) → AreKnown p old → IsOutcome p url o → AreKnown p new
  known_put p known is other q e =
      known_by p known is other q (bytes_eq other url) refl (sym (gets other) ∙ e)

  pub knows_put : Knows new url
  knows_put = ap is_some (gets url ∙ ap (λ (b : Bool). cond b (Some o) (lookup (bytes_eq url) old)) (itself url))

  keeps_by : (other : Text) (b : Bool) → Knows old other → is_some (cond b (Some o) (lookup (bytes_eq other) old)) ≡ true
  keeps_by other true knows = refl
  keeps_by other false knows = knows

  pub keeps_put : (other : Text) → Knows old other → Knows new other
  keeps_put other knows = ap is_some (gets other) ∙ keeps_by other (bytes_eq other url) knows

-- ---- chains that come back

once_wants : (a : Answer Bool) → is_wanting (once a (λ o. found o)) ≡ is_wanting a
once_wants (wants name) = refl
once_wants (found thing) = refl

-- where a definition's chain comes back to itself, so does that of the one on which it rests
pub cycle_down : (p : Definitions) (url base : Text) → Rests p url base → NeedsItself (ending p) url → NeedsItself (ending p) base
cycle_down p url base rests needs n =
    let answers = answer (ending p) n in
    sym (once_wants (answers base))
    ∙ sym (ap (λ (o : Option Source). is_wanting (run answers (option_map_or chain_of o (given None)))) rests.1
    ∙ ap (λ (b : Bool). is_wanting (run answers (cond b (given (Some true)) (asks_base rests.0.base)))) rests.2
    ∙ ap (λ (o : Option Text). is_wanting (run answers (asks_base o))) rests.3)
    ∙ needs (suc n)
