-- A package with code systems and value sets: what these have, and which can't be read.
use Rattle.std.specs.Prelude.{List, [], ◌∷◌, codes}
use Rattle.fhir_json.specs.Tree.{Text, Tree, string, array, object, Items, no_items, Members, no_members, member}
use Rattle.fhir_json.specs.Tree.{item as one_more}
use Rattle.fhir_package.specs.Definitions.{Definitions}
use Rattle.fhir_codes.specs.Concepts.{Concepts, of_system}

-- ---- code systems

abbrev pub letters : Text
letters = codes "urn:letters"

abbrev pub coded : Text → Members → Tree
coded code more = object (member (codes "code") (string code) more)

abbrev pub these : Items → Members → Members
these cs more = member (codes "concept") (array cs) more

abbrev pub system_of : Text → Items → Members → Tree
system_of content cs more = object (member (codes "content") (string content) (these cs more))

abbrev pub only_a : Items
only_a = one_more (coded (codes "a") no_members) no_items

-- a, with b nested in it, and c
abbrev pub code_system : Tree
code_system = system_of (codes "complete")
    (one_more (coded (codes "a") (these (one_more (coded (codes "b") no_members) no_items) no_members))
    (one_more (coded (codes "c") no_members) no_items))
    no_members

-- some of its codes alone are there
abbrev pub fragment : Tree
fragment = system_of (codes "fragment") only_a no_members

-- a, and what has no code
abbrev pub codeless : Tree
codeless = system_of (codes "complete") (one_more (coded (codes "a") no_members) (one_more (object no_members) no_items)) no_members

abbrev pub version : Text → Members
version v = member (codes "version") (string v) no_members

abbrev pub second : Tree
second = system_of (codes "complete") only_a (version (codes "2"))

-- ---- value sets

abbrev pub of_url : Text → Members → Tree
of_url system more = object (member (codes "system") (string system) more)

abbrev pub of_letters : Members → Tree
of_letters more = of_url letters more

-- all of the system
abbrev pub all_letters : Tree
all_letters = of_letters no_members

abbrev pub only_b : Tree
only_b = of_letters (these (one_more (coded (codes "b") no_members) no_items) no_members)

abbrev pub only_c : Tree
only_c = of_letters (these (one_more (coded (codes "c") no_members) no_items) no_members)

abbrev pub a_and_b : Items
a_and_b = one_more (coded (codes "a") no_members) (one_more (coded (codes "b") no_members) no_items)

abbrev pub a_b_and_d : Items
a_b_and_d =
    one_more (coded (codes "a") no_members) (one_more (coded (codes "b") no_members) (one_more (coded (codes "d") no_members) no_items))

-- that is in the value set of that canonical too
abbrev pub in_set : Text → Members
in_set canonical = member (codes "valueSet") (array (one_more (string canonical) no_items)) no_members

abbrev pub composed_of : Items → Items → Tree
composed_of included excluded = object
    (member (codes "compose") (object (member (codes "include") (array included) (member (codes "exclude") (array excluded) no_members)))
    no_members)

abbrev pub value_set : Tree → Items → Tree
value_set included excluded = composed_of (one_more included no_items) excluded

abbrev pub filtered : Tree
filtered = of_letters (member (codes "filter") (array (one_more (object no_members) no_items)) no_members)

abbrev pub example : Definitions
example = record {
  structure_definitions = [];
  value_sets =
      (codes "urn:all", value_set all_letters no_items)
      ∷ (codes "urn:without", value_set all_letters (one_more only_b no_items))
      ∷ (codes "urn:other", value_set (of_letters (these a_b_and_d no_members)) no_items)
      ∷ (codes "urn:both", value_set (of_letters (these a_and_b (in_set (codes "urn:other")))) (one_more only_b no_items))
      ∷ (codes "urn:united", composed_of (one_more (of_letters (these only_a no_members)) (one_more only_c no_items)) no_items)
      ∷ (codes "urn:without-other", value_set all_letters (one_more (object (in_set (codes "urn:other"))) no_items))
      ∷ (codes "urn:same-version", value_set (of_url (codes "urn:second") (version (codes "2"))) no_items)
      ∷ (codes "urn:other-version", value_set (of_url (codes "urn:second") (version (codes "1"))) no_items)
      ∷ (codes "urn:fragment", value_set (of_url (codes "urn:part") no_members) no_items)
      ∷ (codes "urn:untold", value_set (of_url (codes "urn:untold") no_members) no_items)
      ∷ (codes "urn:codeless", value_set (of_url (codes "urn:uncoded") no_members) no_items)
      ∷ (codes "urn:absent", value_set (of_url (codes "urn:nothing") no_members) no_items)
      ∷ (codes "urn:systemless", value_set (object (these only_a no_members)) no_items)
      ∷ (codes "urn:empty", value_set (object no_members) no_items)
      ∷ (codes "urn:unlisted", value_set (of_letters (these (one_more (object no_members) no_items) no_members)) no_items)
      ∷ (codes "urn:excluded", value_set all_letters (one_more (object no_members) no_items))
      ∷ (codes "urn:uncomposed", object no_members)
      ∷ (codes "urn:filtered", value_set filtered no_items)
      ∷ (codes "urn:itself", value_set (object (in_set (codes "urn:itself"))) no_items)
      ∷ (codes "urn:missing", value_set (object (in_set (codes "urn:nothing"))) no_items)
      ∷ [];
  code_systems =
      (letters, code_system)
      ∷ (codes "urn:second", second)
      ∷ (codes "urn:part", fragment)
      ∷ (codes "urn:uncoded", codeless)
      ∷ (codes "urn:untold", object (these only_a no_members))
      ∷ (codes "urn:unlisted", object (member (codes "content") (string (codes "complete")) (member (codes "concept") (object no_members) no_members)))
      ∷ [];
}

-- the same with one more value set
abbrev pub example_with : Tree → Definitions
example_with t = record {
  structure_definitions = [];
  value_sets = (codes "urn:more", t) ∷ example.value_sets;
  code_systems = example.code_systems;
}

abbrev pub composed_by : Members → Tree
composed_by parts = object (member (codes "compose") (object parts) no_members)

-- value sets in which a part is of another kind: of an include its system, version, concept, valueSet and filter; of a code
-- system that is taken its concept; an exclude, an include, and the compose
abbrev pub misfits : List Tree
misfits =
    value_set (object (member (codes "system") (array no_items) (in_set (codes "urn:all")))) no_items
    ∷ value_set (of_url (codes "urn:second") (member (codes "version") (array no_items) no_members)) no_items
    ∷ value_set (of_letters (member (codes "concept") (object no_members) no_members)) no_items
    ∷ value_set (of_letters (member (codes "valueSet") (string (codes "urn:all")) no_members)) no_items
    ∷ value_set (of_letters (member (codes "filter") (object no_members) no_members)) no_items
    ∷ value_set (of_url (codes "urn:unlisted") no_members) no_items
    ∷ composed_by (member (codes "include") (array (one_more all_letters no_items)) (member (codes "exclude") (object no_members) no_members))
    ∷ composed_by (member (codes "include") (object no_members) no_members)
    ∷ object (member (codes "compose") (array no_items) no_members)
    ∷ []

-- the set of these letters
abbrev pub set_of : List Text → Concepts
set_of cs = of_system letters cs
