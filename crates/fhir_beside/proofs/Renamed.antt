-- The members of an object, of which one is changed.
use Rattle.std.proofs.Common.{◌≡◌, true, false, map, Vec, rules, refl, ap, sym, ◌∙◌}
use Rattle.std.specs.declared.alloc.Global.{Global}
use Rattle.fhir_json.specs.Tree.{Text, Tree, null, boolean, number, string, array, object, Members, members_of, properties_of}
use Rattle.fhir_json.specs.Fields.{is_object, members_in}
use Rattle.fhir_json.specs.Views.{tree_of, property_of, members_view}
use Rattle.fhir_json.specs.declared.json.Json.{fold-roll-Json}
use Rattle.fhir_json.specs.declared.json.Json.TheVariants as json
use Rattle.fhir_json.specs.declared.json.Member.{Member}
use Rattle.fhir_json.proofs.Trees.{pairs_again}
use Rattle.fhir_beside.specs.Made.{with_url_member, with_url_in, with_url}

tree-obj : (v : Vec Member Global) → tree_of (json.Obj v) ≡ object (members_of (map property_of v.items))
tree-obj v = ap tree_of (sym (json.rolls-Obj v)) ∙ search (rules, fold-roll-Json)

pub renamed_is : (url : Text) (old new : Vec Member Global) (ms : Members) → members_view old.items ≡ ms
    → map property_of new.items ≡ map (with_url_member url) (map property_of old.items) → tree_of (json.Obj new) ≡ with_url_in url ms
renamed_is url old new ms is h =
    let members : map property_of old.items ≡ properties_of ms = sym (pairs_again (map property_of old.items)) ∙ ap properties_of is in
    tree-obj new ∙ ap (λ ps. object (members_of ps)) (h ∙ ap (map (with_url_member url)) members)

pub of_object : (url : Text) (t : Tree) → is_object t ≡ true → with_url_in url (members_in t) ≡ with_url url t
of_object url (object ms) e = refl
of_object url null e = cc
of_object url (boolean b) e = cc
of_object url (number n) e = cc
of_object url (string s) e = cc
of_object url (array ts) e = cc

pub of_other : (url : Text) (t : Tree) → is_object t ≡ false → t ≡ with_url url t
of_other url (object ms) e = cc
of_other url null e = refl
of_other url (boolean b) e = refl
of_other url (number n) e = refl
of_other url (string s) e = refl
of_other url (array ts) e = refl
