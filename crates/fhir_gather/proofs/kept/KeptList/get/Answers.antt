use Rattle.std.proofs.Common.{List, ap, ◌∙◌, sym}
use Rattle.std.specs.Prelude.{slice_get}
use Rattle.std.specs.Option.{option_and_then}
use Rattle.fhir_gather.specs.declared.kept.Kept.{Kept}
use Rattle.fhir_gather.specs.Views.{all_seen}
use Rattle.fhir_gather.proofs.Firsts.{found_first}
use Rattle.fhir_gather.proofs.kept.KeptList.get.Goals as goal

pub returns-in-Some : goal.returns-in-Some
returns-in-Some c =
    c.kept_at.ensures ∙ ap (λ (ks : List Kept). slice_get (all_seen ks) c.in-Some.place) c.deref.ensures.value
    ∙ sym (ap (option_and_then (slice_get (all_seen c.self.inside.all.items))) c.in-Some.is)
    ∙ found_first c.self.inside.places (all_seen c.self.inside.all.items) c.args.self.now c.args.kind c.args.url.now c.get.result c.self.invariant c.self.view_is
    c.get.ensures

pub returns-in-None : goal.returns-in-None
returns-in-None c =
    sym (ap (option_and_then (slice_get (all_seen c.self.inside.all.items))) c.in-None.is)
    ∙ found_first c.self.inside.places (all_seen c.self.inside.all.items) c.args.self.now c.args.kind c.args.url.now c.get.result c.self.invariant c.self.view_is
    c.get.ensures
