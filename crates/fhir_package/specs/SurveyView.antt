-- What contracts see of a survey's faults.
use Rattle.std.specs.Prelude.{List, map, string_bytes}
use Rattle.fhir_package.specs.declared.survey.FileFault.{FileFault}
use Rattle.fhir_package.specs.declared.survey.FileFault.TheVariants.{Unreadable as UnreadableFile, NotJson as NotJsonFile, Clash as ClashOf}
use Rattle.fhir_package.specs.Surveying.{FileFault as Fault, unreadable, not_json, clash}

abbrev pub fault_seen : FileFault → Fault
fault_seen (UnreadableFile file) = unreadable file.now
fault_seen (NotJsonFile f) = not_json f.file.now f.expected f.position
fault_seen (ClashOf c) = clash c.kind (string_bytes c.url) c.file.now c.first.now

abbrev pub faults_seen : List FileFault → List Fault
faults_seen fs = map fault_seen fs
