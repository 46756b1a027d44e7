-- What contracts see of the parts of a text (used by private contracts alone).
use Rattle.std.specs.Prelude.{List, Option, None, Some, Vec, map}
use Rattle.std.specs.Borrow.{Bor}
use Rattle.std.specs.Option.{option_map}
use Rattle.fhir_json.specs.Tree.{Text}
use Rattle.fhir_names.specs.Places.{Places, Finds}
use Rattle.fhir_certificate.specs.declared.stated.StatedText.{StatedText}
use Rattle.fhir_certificate.specs.declared.format.NameText.{NameText}
use Rattle.fhir_certificate.specs.declared.format.PairLine.{PairLine}
use Rattle.fhir_certificate.specs.declared.format.PairLine.TheVariants.{Item, Kids}
use Rattle.fhir_certificate.specs.Numbers.{number_texts}
use Rattle.fhir_certificate.specs.Format.{Name, Line, item, kids, Stated}

abbrev pub parts_seen : Option (Bor Text × Bor Text) → Option (Text × Text)
parts_seen r = option_map (λ p. (p.0.now, p.1.now)) r

abbrev pub stated_seen : StatedText → Stated
stated_seen d = record { url = d.url.now; version = d.version.now }

abbrev pub name_seen : NameText → Name
name_seen n = record { url = n.url.now; id = n.id.now }

abbrev pub line_seen : PairLine → Line
line_seen (Item derived base) = item (name_seen derived) (name_seen base)
line_seen (Kids derived base) = kids (name_seen derived) (name_seen base)

-- the definitions that a text numbers, where it does
abbrev pub all_stated : {G : Type 0} → Option (Vec StatedText G) → Option (List Stated)
all_stated ds = option_map (λ v. map stated_seen v.items) ds

-- each is found under its number
abbrev pub AreNumbered : Option (List Stated) → Places → Type 0
AreNumbered None places = Unit {0}
AreNumbered (Some ds) places = Finds places (number_texts 0 ds)
