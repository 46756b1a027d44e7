-- What an audit tells in a few words.
use Rattle.std.specs.Prelude.{◌+◌, ◌==◌, ℕ, ◌++◌, [], length, codes, if◌then◌else◌}
use Rattle.std.specs.Fmt.{decimal}
use Rattle.std.specs.Option.{option_map_or}
use Rattle.fhir_json.specs.Tree.{Text}
use Rattle.fhir_certificate.specs.Certificate.{CertificateValue}
use Rattle.fhir_audit.specs.Auditing.{AuditedValue}

-- how many pairs a certificate has
abbrev pub pair_count : CertificateValue → ℕ
pair_count c = length c.items + length c.kids

abbrev pub pairs_text : ℕ → Text
pairs_text n = decimal n ++ (if n == 1 then codes " pair" else codes " pairs")

-- the url of the base; nothing, where it isn't there
abbrev pub base_shown : AuditedValue → Text
base_shown a = option_map_or (λ url. url) a.base []
