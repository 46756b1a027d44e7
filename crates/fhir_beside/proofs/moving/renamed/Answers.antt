use Rattle.fhir_json.specs.Fields.{members_in}
use Rattle.fhir_json.specs.Views.{tree_of}
use Rattle.fhir_beside.proofs.Renamed.{renamed_is}
use Rattle.fhir_beside.proofs.moving.renamed.Goals as goal

pub returns : goal.returns
returns c =
    renamed_is c.args.url.now c.into_members.result c.in_ok-members.members (members_in (tree_of c.args.json)) c.into_members.ensures
    c.in_ok-members.ensures
