use Rattle.std.proofs.Common.{◌≡◌, ◌++◌, ◌∷◌, [], false, sym, ap, ◌∙◌, subst}
use Rattle.std.specs.List.{Contains}
use Rattle.std.proofs.lemmas.List.Elements.{Contains-push}
use Rattle.fhir_validator.specs.declared.pair.ItemPair.{ItemPair}
use Rattle.fhir_validator.specs.Judgements.{same_judgement}
use Rattle.fhir_validator.specs.Judging.{IsRight}
use Rattle.fhir_validator.proofs.Told.{same_is}
use Rattle.fhir_validator.proofs.Unsettled.{grows_none, grows_root, settled_root, settled_other, raised_root}
use Rattle.fhir_validator.proofs.judging.Judge.open_root.Goals as goal

pub returns-in_ok-push-clause-settles : goal.returns-in_ok-push-clause-settles
returns-in_ok-push-clause-settles c = λ listing wanted.
    let layout = c.args.self.now in
    let p = c.args.pair in
    let r = c.args.root in
    let q : ItemPair = record { item = p.item; node = r } in
    let roots = c.args.roots.now.items in
    let more = c.push.new.self.items in
    let e : more ≡ roots ++ r ∷ [] = c.in_ok-push.ensures.items in
    let same : c.in_ok-judgement.judgement ≡ listing.wanted = same_is c.in_ok-judgement.judgement c.args.wanted (sym c.is.ensures ∙ c.if-is.true) ∙ sym wanted in
    record {
      grows = grows_root layout p listing roots more r e (c.requires, subst (IsRight layout q) same c.in_ok-judgement.ensures.exact);
      settled = settled_root layout p r listing more (subst (λ rs. Contains rs r) (sym e) (Contains-push roots r));
    }

pub returns-else-is-clause-settles : goal.returns-else-is-clause-settles
returns-else-is-clause-settles c = λ listing wanted.
    let layout = c.args.self.now in
    let p = c.args.pair in
    let r = c.args.root in
    let roots = c.args.roots.now.items in
    let judgement = c.in_ok-judgement.judgement in
    let other : same_judgement judgement listing.wanted ≡ false = ap (same_judgement judgement) wanted ∙ sym c.is.ensures ∙ c.if-is.false in
    record {
      grows = grows_none layout p listing roots;
      settled = settled_other layout p (λ m f. f r) judgement listing roots c.in_ok-judgement.ensures.exact other (raised_root layout p listing (c.positive.ensures.items layout.schema) r);
    }
