-- What is known of an item without children, and of a node with one type.
use Rattle.std.proofs.Common.{◌≡◌, suc, ◌<◌, ◌≤◌, Bool, true, false, List, [], ◌∷◌, length, get_or, refl, sym, ap, ◌∙◌, eqb, ne_eqb, Option, Some, None, cond, arith}
use Rattle.std.specs.Option.{option_map_or, option_and_then}
use Rattle.std.proofs.lemmas.Bool.{false≢true}
use Rattle.fhir_json.specs.Tree.{Text}
use Rattle.fhir_elements.specs.TypeEntry.{TypeEntry}
use Rattle.fhir_elements.specs.Element.{Element}
use Rattle.fhir_nodes.specs.declared.node.NodeRef.{NodeRef}
use Rattle.fhir_nodes.specs.Types.{type_place}
use Rattle.fhir_schema.specs.Schemas.{SchemaValue, element_at, is_root_node, root_in, type_root, types}
use Rattle.fhir_schema.specs.Known.{only_type_root}
use Rattle.fhir_instance.specs.Items.{Kids, no_kids, kids_in}
use Rattle.fhir_instance.specs.View.{named_in}
use Rattle.fhir_instance.specs.declared.typed.Kid.{Kid}
use Rattle.fhir_summaries.specs.Summaries.{all_summaries, one_type, summary_at}

pub none_in : (ks : List Kid) (kids : Kids) → eqb (length ks) 0 ≡ true → kids_in (named_in ks) ≡ kids → kids ≡ no_kids
none_in [] kids is same = sym same
none_in (k ∷ ks) kids is same = absurd (false≢true (sym (ne_eqb (suc (length ks)) 0 (λ e. omega arith)) ∙ is))

pub one_alone : (ts : List TypeEntry) (t : TypeEntry) → 1 ≤ length ts → length ts < 2 → t ≡ get_or ts 0 t → ts ≡ t ∷ []
one_alone [] t least most is = absurd (omega arith)
one_alone (y ∷ []) t least most is = ap (λ (z : TypeEntry). z ∷ []) (sym is)
one_alone (y ∷ z ∷ ys) t least most is = absurd (omega arith)

module _ (s : SchemaValue) (n : NodeRef)
    (named : (e : Element) → element_at s n ≡ Some e → (summary_at (all_summaries s.definitions) n).type ≡ one_type s.definitions e.types) where
  -- the one type of a node that is no root
  pub only_root : (t : TypeEntry) (code : Text) → types s n ≡ t ∷ [] → t.code ≡ code → only_type_root s n ≡ type_root s code
  only_root t code alone same = by_root (is_root_node s n) (element_at s n) refl alone
    where
      by_root : (b : Bool) (o : Option Element) → element_at s n ≡ o → cond b [] (option_map_or (λ e. e.types) o []) ≡ t ∷ []
          → only_type_root s n ≡ type_root s code
      by_root true o is none = cc
      by_root false None is none = cc
      by_root false (Some e) is alone =
          ap (option_and_then (root_in s)) (named e is ∙ ap (one_type s.definitions) alone ∙ ap (type_place s.definitions) same)
