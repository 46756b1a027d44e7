use Rattle.std.proofs.Common.{◌≡◌, sym, ap, ◌∙◌, ◌||◌, Bool, take}
use Rattle.fhir_json.specs.declared.json.Member.{Member}
use Rattle.std.specs.Str.{bytes_eq}
use Rattle.fhir_json.specs.Views.{property_of}
use Rattle.fhir_matching.proofs.Sides.{naming, naming_before, name_is}
use Rattle.fhir_matching.proofs.places.is_named.Goals as goal

pub returns-clause-before : goal.returns-clause-before
returns-clause-before c =
    let m = c.index-members-place.result in
    let e : c.eq.result ≡ bytes_eq c.args.name.now (property_of m).0 =
    c.eq.ensures ∙ ap (bytes_eq c.args.name.now) (c.as_str.ensures.value ∙ name_is _
    ∙ ap (λ (x : Member). (property_of x).0) (sym c.index-members-place.is)) in
    naming_before c.args.name.now c.args.members.now c.args.place m c.requires (sym c.index-members-place.is)
    ∙ ap (λ (b : Bool). naming c.args.name.now (take c.args.place c.args.members.now) || b) (sym e)
