use Rattle.std.proofs.Common.{sym}
use Rattle.std.proofs.lemmas.Map.Lookups.{exact_bytes}
use Rattle.std.proofs.lemmas.Option.{IfSome_then}
use Rattle.std.specs.Rc.{rc_str_bytes}
use Rattle.fhir_codes.proofs.texts.Texts.find.Goals as goal

pub returns : goal.returns
returns c = IfSome_then c.get.result c.get.ensures.same_key (λ t same. sym (exact_bytes c.args.text.now (rc_str_bytes t.now) same))
