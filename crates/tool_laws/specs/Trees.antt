-- Values that are written short.
use Rattle.std.specs.Prelude.{List}
use Rattle.fhir_json.specs.Tree.{Tree, Property, array, object, items_of, members_of}

abbrev pub list : List Tree → Tree
list ts = array (items_of ts)

abbrev pub fields : List Property → Tree
fields ms = object (members_of ms)
