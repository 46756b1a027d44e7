use Rattle.std.proofs.Common.{◌≡◌, false, sym, ap, ◌∙◌, subst}
use Rattle.fhir_facets.specs.Unread.{meaning_of}
use Rattle.fhir_conformance.specs.Conformance.{as_read, conforms, entry_holds}
use Rattle.fhir_validator.specs.Judgements.{same_judgement}
use Rattle.fhir_validator.specs.Layouts.{item_at}
use Rattle.fhir_validator.specs.Judging.{IsRightOn}
use Rattle.fhir_validator.specs.Listing.{upper, IsEntry}
use Rattle.fhir_validator.proofs.Judged.{standing, stands_there}
use Rattle.fhir_validator.proofs.Told.{same_is, hangs_above}
use Rattle.fhir_validator.proofs.Unsettled.{grows_none, settled_other, raised_entry, covered_by}
use Rattle.fhir_validator.proofs.judging.Judge.open_if_hanging.Goals as goal

pub open_entry-requires : goal.open_entry-requires
open_entry-requires c =
    let layout = c.args.self.now in
    let s = layout.schema in
    let number = c.args.pair.item in
    let x = item_at layout number in
    let e = c.args.entry.now in
    let w = c.args.listing.now.wanted in
    let here = standing layout number in
    let same : c.in_ok-judgement.judgement ≡ w =
    same_is c.in_ok-judgement.judgement w (ap (same_judgement c.in_ok-judgement.judgement) (sym c.wanted.ensures) ∙ sym c.is.ensures ∙ c.if-is.true) in
    let right = subst (IsRightOn layout number (λ m f. entry_holds s m f x e)) same c.in_ok-judgement.ensures.exact in
    let entry : IsEntry layout w c.args.pair e = record {
      hanging = c.requires.hanging;
      among = c.requires.among;
      covered = covered_by s (meaning_of layout.given (upper w)) (conforms s (as_read layout.given (upper w)) here x) x e
          (sym (hangs_above w c.requires.hanging.of_hanging) ∙ right (upper w) here (stands_there layout number));
    } in
    rw c.in_ok-judgement.ensures.same entry

pub returns-then-is-clause-settles : goal.returns-then-is-clause-settles
returns-then-is-clause-settles c = rw c.in_ok-judgement.ensures.same at c.open_entry.ensures.settles

pub returns-else-is-clause-settles : goal.returns-else-is-clause-settles
returns-else-is-clause-settles c =
    let layout = c.args.self.now in
    let p = c.args.pair in
    let x = item_at layout p.item in
    let e = c.args.entry.now in
    let old = c.args.listing.now in
    let roots = c.args.roots.now.items in
    let judgement = c.in_ok-judgement.judgement in
    let other : same_judgement judgement old.wanted ≡ false = ap (same_judgement judgement) (sym c.wanted.ensures) ∙ sym c.is.ensures ∙ c.if-is.false in
    record {
      grows = grows_none layout p old roots;
      settled = settled_other layout p (λ m f. entry_holds layout.schema m f x e) judgement old roots c.in_ok-judgement.ensures.exact other
          (raised_entry layout p old (c.hangs_on_carried.ensures.entries layout.schema) (c.positive.ensures.items layout.schema) e);
    }
