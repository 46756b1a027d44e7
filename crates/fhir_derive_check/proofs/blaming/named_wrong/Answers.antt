use Rattle.fhir_cert_check.specs.declared.rule.Rule.TheVariants.{Root}
use Rattle.fhir_derive_check.proofs.Same.{no_pair}
use Rattle.fhir_derive_check.proofs.Certified.{first-named}
use Rattle.fhir_derive_check.proofs.blaming.named_wrong.Goals as goal

pub returns-in-First : goal.returns-in-First
returns-in-First c =
    first-named c.args.named c.args.schema.now c.args.root c.args.found.now.order.items c.args.wrongs.now (no_pair, Root) c.in-First.is c.requires.some
    c.requires.all
