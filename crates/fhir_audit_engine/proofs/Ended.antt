-- What the status of a run says.
use Rattle.std.proofs.Common.{◌≡◌, ℕ, List, Bool, true, false, ◌&&◌, Option, Some, None, [], if◌then◌else◌, IsTrue, refl, sym, subst}
use Rattle.std.specs.Prelude.{is_some, option_map}
use Rattle.fhir_json.specs.Tree.{Text}
use Rattle.fhir_words.specs.declared.request.Format.{Format}
use Rattle.fhir_package.specs.Folder.{Files}
use Rattle.fhir_answers.specs.declared.reply.Status.{Status}
use Rattle.fhir_answers.specs.declared.reply.Status.TheVariants.{Yes, No, Open, Fault, Unwritten, Usage, NoMemory}
use Rattle.fhir_audit.specs.Auditing.{are_narrowing}
use Rattle.fhir_audit.specs.Views.{all_audited}
use Rattle.fhir_engine.specs.declared.refusal.Refusal.{Refusal}
use Rattle.fhir_engine.specs.declared.refusal.Refusal.TheVariants as refusals
use Rattle.fhir_engine.specs.Refusing.{refusal_status}
use Rattle.fhir_audit_engine.specs.declared.asked.NamedBytes.{NamedBytes}
use Rattle.fhir_audit_engine.specs.Promising.{AuditPromise}
use Rattle.fhir_audit_engine.specs.Told.{are_held, IsAnswered, SaysOf, SaysOfRead}

-- of a status that is 0
pub narrow_if_yes : (b held : Bool) → Yes ≡ (if b && held then Yes else No) → IsTrue b
narrow_if_yes true held is = refl
narrow_if_yes false held is = absurd cc

never_open : (b : Bool) → Open ≡ (if b then Yes else No) → ⊥
never_open true is = absurd cc
never_open false is = absurd cc

never_usage : (b : Bool) → Usage ≡ (if b then Yes else No) → ⊥
never_usage true is = absurd cc
never_usage false is = absurd cc

module _ (prefixes : List Text) (format : Format) (files : Option (List NamedBytes)) (given : Option (Option Text)) (folder : Files) (old new : Option (List ℕ)) where
  pub says : (status : Status) → IsAnswered prefixes format files given folder status old new → SaysOf prefixes format files given folder status old new
  says Yes answered = answered
  says No answered = answered
  says Open answered =
      let audit = answered.5.3 in never_open (are_narrowing (all_audited audit.told) && are_held audit.held) audit.status_is
  says Fault answered = tt
  says Unwritten answered = tt
  says Usage answered =
      let audit = answered.5.3 in never_usage (are_narrowing (all_audited audit.told) && are_held audit.held) audit.status_is
  says NoMemory answered = tt

  pub refused : (refusal : Refusal) → SaysOf prefixes format files given folder (refusal_status refusal) old new
  refused (refusals.Fault text) = tt
  refused refusals.Unwritten = tt
  refused refusals.NoMemory = tt

-- ---- of what was read

pub still_some : {X Y : Type 0} (f : X → Y) (o : Option X) → is_some (option_map f o) ≡ is_some o
still_some f (Some x) = refl
still_some f None = refl

no_texts : (given : Bool) → (texts : Option (Option Text)) × (is_some texts ≡ given)
no_texts true = (Some None, refl)
no_texts false = (None, refl)

no_files : (against : Bool) → (files : Option (List NamedBytes)) × (is_some files ≡ against)
no_files true = (Some [], refl)
no_files false = (None, refl)

module _ (prefixes : List Text) (format : Format) (given against : Bool) (old new : Option (List ℕ)) where
  -- a refusal says nothing of files
  pub refused_read : (refusal : Refusal) → SaysOfRead prefixes format given against (refusal_status refusal) old new
  refused_read refusal = record {
    folder = [];
    texts = (no_texts given).0;
    files = (no_files against).0;
    texts_named = (no_texts given).1;
    files_named = (no_files against).1;
    says = refused prefixes format (no_files against).0 (no_texts given).0 [] old new refusal;
    promised = λ yes. absurd (not_yes refusal yes);
  }
    where
      not_yes : (refusal : Refusal) → refusal_status refusal ≡ Yes → ⊥
      not_yes (refusals.Fault text) h = cc
      not_yes refusals.Unwritten h = cc
      not_yes refusals.NoMemory h = cc

  pub ended_read : (refusal : Refusal) (status : Status) → status ≡ refusal_status refusal → SaysOfRead prefixes format given against status old new
  ended_read refusal status is = subst (λ s. SaysOfRead prefixes format given against s old new) (sym is) (refused_read refusal)

-- a run that was asked the same says of what was read what it says of its files
pub run_read : (prefixes asked : List Text) (format asked_format : Format) (given against : Bool) (folder : Files) (texts : Option (Option Text)) (files : Option (List NamedBytes))
    (status : Status) (old new : Option (List ℕ)) → asked ≡ prefixes → asked_format ≡ format → is_some texts ≡ given → is_some files ≡ against
    → SaysOf asked asked_format files texts folder status old new → (status ≡ Yes → AuditPromise asked folder) → SaysOfRead prefixes format given against status old new
run_read prefixes asked format asked_format given against folder texts files status old new same same_format named also says promised = record {
  folder = folder;
  texts = texts;
  files = files;
  texts_named = named;
  files_named = also;
  says = subst (λ ps. SaysOf ps format files texts folder status old new) same (subst (λ f. SaysOf asked f files texts folder status old new) same_format says);
  promised = λ yes. subst (λ ps. AuditPromise ps folder) same (promised yes);
}
