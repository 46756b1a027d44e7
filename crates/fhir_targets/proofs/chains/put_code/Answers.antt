use Rattle.std.proofs.Common.{◌≡◌, Bool, true, false, cond, Option, Some, refl, ap, ◌∙◌}
use Rattle.std.specs.Borrow.{Bor}
use Rattle.std.specs.BTreeMap.{is_at, get_by}
use Rattle.std.specs.Ordering.{nat_cmp}
use Rattle.std.specs.Cmp.{unsigned_tied}
use Rattle.std.specs.Option.{option_map}
use Rattle.fhir_json.specs.Tree.{Text}
use Rattle.fhir_targets.specs.Chains.{code_at}
use Rattle.fhir_targets.proofs.chains.put_code.Goals as goal

either : (b : Bool) (code : Bor Text) (o : Option (Bor Text))
    → option_map (λ c. c.now) (cond b (Some code) o) ≡ cond b (Some code.now) (option_map (λ c. c.now) o)
either true code o = refl
either false code o = refl

pub returns : goal.returns
returns c = λ p.
    ap (option_map (λ (code : Bor Text). code.now)) (c.in_ok-insert.ensures.updates.0 p)
    ∙ either (is_at (nat_cmp c.args.place) p) c.args.code (get_by (nat_cmp p) c.args.places.now)
    ∙ ap (λ (b : Bool). cond b (Some c.args.code.now) (code_at c.args.places.now p)) (unsigned_tied c.args.place p)
