use Rattle.std.proofs.Common.{◌≡◌, Bool, List, refl}
use Rattle.fhir_nodes.specs.declared.node.NodeRef.{NodeRef}
use Rattle.fhir_schema.specs.Schemas.{SchemaValue}
use Rattle.fhir_instance.specs.Items.{Item}
use Rattle.fhir_facets.specs.Unread.{Meaning}
use Rattle.fhir_conformance.specs.Asks.{Ask, own, types, profile, root, child, root_asks}
use Rattle.fhir_conformance.specs.Conformance.{ask_holds}
use Rattle.fhir_conformance.proofs.Lists.{all_same, all_weaker}
use Rattle.fhir_conformance.proofs.Asked.{IsNoRoot, root_asks_no_root}
use Rattle.fhir_conformance.proofs.laws.roots_ask_no_root.Goals as goal

same : (s : SchemaValue) (m : Meaning) (resource x : Item) (kids : List (NodeRef → Bool)) (some others : NodeRef → Bool) (ask : Ask)
    → IsNoRoot ask → ask_holds s m resource x kids some ask ≡ ask_holds s m resource x kids others ask
same s m resource x kids some others (own rule n) is = refl
same s m resource x kids some others (types n) is = absurd is
same s m resource x kids some others (profile r) is = absurd is
same s m resource x kids some others (root r) is = absurd is
same s m resource x kids some others (child i n) is = refl

pub returns : goal.returns
returns c s m resource x kids some others r =
    all_same (ask_holds s m resource x kids some) (ask_holds s m resource x kids others) (root_asks s x r)
    (all_weaker IsNoRoot (λ ask. ask_holds s m resource x kids some ask ≡ ask_holds s m resource x kids others ask) (same s m resource x kids some others) (root_asks s x r) (root_asks_no_root s x r))
