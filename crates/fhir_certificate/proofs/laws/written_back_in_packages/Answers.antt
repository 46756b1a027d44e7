use Rattle.fhir_package.specs.declared.kind.Kind.TheVariants.{StructureDefinition}
use Rattle.fhir_package.specs.Definitions.{Definitions}
use Rattle.fhir_package.specs.Changing.{AreSound, EachOnce}
use Rattle.fhir_schema.specs.Schemas.{schema_of}
use Rattle.fhir_certificate.proofs.WrittenBack.{stands_back, reads_back}
use Rattle.fhir_certificate.proofs.PackagesBack.{IsNaming, nodes_named, is_writable}
use Rattle.fhir_certificate.proofs.laws.written_back_in_packages.Goals as goal

pub returns : goal.returns
returns c =
    let naming : (p : Definitions) → AreSound p → EachOnce p → IsNaming (schema_of p) = λ p sound once. record {
      found = λ n is. c.nodes_by_name.ensures.found p n (once StructureDefinition) is;
      url = c.nodes_by_name.ensures.url p;
      id = c.nodes_by_name.ensures.id p;
      root_uri = c.nodes_by_name.ensures.root p;
      url_utf8 = λ place. c.names_are_utf8.ensures.url p place sound;
      id_utf8 = λ n. c.names_are_utf8.ensures.id p n sound;
      root_utf8 = λ url is. c.names_are_utf8.ensures.root p url sound is;
      version_utf8 = λ url text e. c.versions_are_utf8.ensures p url text sound e;
      json = record { sound = c.sound_trees.ensures; agrees = c.reading_agrees.ensures };
    } in
    record {
      stands = λ p certificate sound once fit few.
          let names = naming p sound once in
          stands_back (schema_of p) certificate fit (nodes_named (schema_of p) names certificate fit) (is_writable (schema_of p) names certificate fit) few;
      read = λ p certificate sound once fit few.
          let names = naming p sound once in
          reads_back (schema_of p) certificate fit (nodes_named (schema_of p) names certificate fit) (is_writable (schema_of p) names certificate fit) few;
    }
