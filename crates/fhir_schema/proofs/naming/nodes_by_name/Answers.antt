use Rattle.fhir_codes.specs.Expanding.{expansions_of}
use Rattle.fhir_definition.specs.Definition.{definitions_from}
use Rattle.fhir_nodes.proofs.Placing.{placed}
use Rattle.fhir_schema.proofs.Settles.{closed}
use Rattle.fhir_schema.proofs.ByName.{node_found, url_right, id_right, root_right}
use Rattle.fhir_schema.proofs.naming.nodes_by_name.Goals as goal

pub returns-clause-found : goal.returns-clause-found
returns-clause-found c p n distinct h =
    let es = p.structure_definitions in
    node_found es (expansions_of p) (placed es) (closed (definitions_from 0 es) (placed es)) n distinct h

pub returns-clause-url : goal.returns-clause-url
returns-clause-url c p n h =
    let es = p.structure_definitions in
    url_right es (expansions_of p) (placed es) (closed (definitions_from 0 es) (placed es)) n h

pub returns-clause-id : goal.returns-clause-id
returns-clause-id c p n h =
    let es = p.structure_definitions in
    id_right es (expansions_of p) (placed es) (closed (definitions_from 0 es) (placed es)) n h

pub returns-clause-root : goal.returns-clause-root
returns-clause-root c p url h =
    let es = p.structure_definitions in
    root_right es (expansions_of p) (placed es) (closed (definitions_from 0 es) (placed es)) url h
