use Rattle.std.proofs.Common.{subst, sym}
use Rattle.fhir_nodes.specs.Tables.{FindsTypes, FindsUrls, ArePlaced}
use Rattle.fhir_nodes.proofs.Placing.{placed}
use Rattle.fhir_nodes.proofs.table.Table.of.Goals as goal

pub invariant_of-result : goal.invariant_of-result
invariant_of-result c = (
  subst (FindsTypes c.in_ok-types.types) c.deref.ensures.value c.in_ok-types.ensures,
  subst (FindsUrls c.in_ok-urls.urls) c.deref-2.ensures.value c.in_ok-urls.ensures,
  subst ArePlaced (sym c.in_ok-definitions.ensures) (placed c.args.from.now.structure_definitions),
)
