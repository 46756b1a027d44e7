-- What contracts see of carriers, and of what is told.
use Rattle.std.specs.Prelude.{List, ◌++◌, map, Option, Some, codes}
use Rattle.std.specs.Option.{option_map}
use Rattle.std.specs.Borrow.{Bor}
use Rattle.fhir_json.specs.Tree.{Text}
use Rattle.fhir_json.specs.Views.{text_seen}
use Rattle.fhir_facets.specs.Views.{unread_seen, printed}
use Rattle.fhir_findings.specs.declared.carrier.Carried.{Carried as CarriedOf}
use Rattle.fhir_findings.specs.declared.carrier.Carried.TheVariants.{Rule, Base}
use Rattle.fhir_findings.specs.declared.carrier.Carrier.{Carrier as CarrierOf}
use Rattle.fhir_findings.specs.declared.carrier.Spot.{Spot as SpotOf}
use Rattle.fhir_findings.specs.declared.once.Told.{Told as ToldOf}
use Rattle.fhir_findings.specs.declared.saying.Wording.{Wording as WordingOf}
use Rattle.fhir_findings.specs.Carrying.{Carried, rule, base, Carrier, Spot}
use Rattle.fhir_findings.specs.Once.{Told}
use Rattle.fhir_findings.specs.Sentences.{Wording}

abbrev pub carried_seen : CarriedOf → Carried
carried_seen (Rule u) = rule (unread_seen u)
carried_seen (Base canonical) = base canonical.now

-- as it is printed; how the value of a bound is printed, no contract says
abbrev pub carried_printed : CarriedOf → Option Text
carried_printed (Rule u) = option_map (λ text. codes "unread " ++ text) (printed u)
carried_printed (Base canonical) = Some (codes "base " ++ canonical.now)

abbrev pub carrier_seen : CarrierOf → Carrier
carrier_seen c = record {
  file = c.file.now;
  url = c.url.now;
  id = c.id.now;
  carried = carried_seen c.carried;
  key = text_seen c.key;
  lacks = c.lacks;
}

abbrev pub carriers_seen : List CarrierOf → List Carrier
carriers_seen cs = map carrier_seen cs

abbrev pub spot_seen : SpotOf → Spot
spot_seen at = record { definitions = at.package.now; file = at.file.now; url = at.url.now; id = at.id.now }

abbrev pub told_seen : ToldOf → Told Carrier
told_seen t = record { first = carrier_seen t.first; count = t.count }

abbrev pub all_told_seen : List ToldOf → List (Told Carrier)
all_told_seen ts = map told_seen ts

-- the first carriers of what is told
abbrev pub firsts_seen : List ToldOf → List Carrier
firsts_seen ts = map (λ t. carrier_seen t.first) ts

-- ---- constraints

abbrev pub named_seen : Option (Bor Text × Option (Bor Text)) → Option (Text × Option Text)
named_seen n = option_map (λ p. (p.0.now, text_seen p.1)) n

abbrev pub wording_seen : WordingOf → Wording
wording_seen w = record { key = w.key.now; expression = text_seen w.expression; human = text_seen w.human }

abbrev pub wordings_seen : List WordingOf → List Wording
wordings_seen ws = map wording_seen ws

abbrev pub texts_seen : List (Option (Bor Text)) → List (Option Text)
texts_seen ts = map text_seen ts
