use Rattle.std.proofs.Common.{IsTrue}
use Rattle.std.proofs.lemmas.List.Elements.{All-from_recursion, All-weaker}
use Rattle.fhir_overlay.specs.Overlay.{bounds_fit}
use Rattle.fhir_overlay.specs.Writable.{is_writable, is_sound}
use Rattle.snapshot_laws.proofs.Good.{IsGood, Known}
use Rattle.snapshot_laws.proofs.Made.{snapshot_good, snapshot_fits}
use Rattle.snapshot_laws.proofs.Members.{elements}
use Rattle.snapshot_laws.proofs.Finished.{completed_sound, completed_once}
use Rattle.snapshot_laws.proofs.completed.completed_packages.Goals as goal

known : goal.After-written_back → Known
known c = record {
  read_sound = c.sound_elements.ensures.read;
  read_writable = c.of_elements.ensures.writable;
  read_bounds = c.of_elements.ensures.bounds;
  laid_sound = c.sound_elements.ensures.laid;
  laid_writable = c.laid_elements.ensures.laid;
  sliced_sound = c.sound_elements.ensures.sliced;
  sliced_writable = c.laid_elements.ensures.sliced;
}

pub returns-clause-elements : goal.returns-clause-elements
returns-clause-elements c = λ p url es sound right made.
    All-weaker IsGood (λ e. IsTrue (is_sound e) × IsTrue (is_writable e)) (λ e good. (good.sound, good.writable)) es
    (All-from_recursion IsGood es (snapshot_good (known c) p sound right url es made))

pub returns-clause-read : goal.returns-clause-read
returns-clause-read c = λ p url es t sound right made.
    elements c.written_back.ensures es t
    (All-weaker IsGood (λ e. IsTrue (is_writable e)) (λ e good. good.writable) es (All-from_recursion IsGood es (snapshot_good (known c) p sound right url es made)))
    (All-from_recursion (λ e. IsTrue (bounds_fit e)) es (snapshot_fits (known c) p url es made))

pub returns-clause-sound : goal.returns-clause-sound
returns-clause-sound c = λ old new faults sound right made.
    completed_sound c.sound_elements.ensures.tree (known c) old sound right new faults made

pub returns-clause-once : goal.returns-clause-once
returns-clause-once c = λ old new faults once made. completed_once old new faults once made
