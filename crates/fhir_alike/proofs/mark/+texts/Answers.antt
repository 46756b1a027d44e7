use Rattle.std.proofs.Common.{map}
use Rattle.fhir_alike.proofs.Tails.{of_array, of_object}
use Rattle.fhir_alike.proofs.mark.+texts.Goals as goal

pub push_tree-returns-in-Arr : goal.push_tree-returns-in-Arr
push_tree-returns-in-Arr t c =
    of_array c.push_items.result c.args.stem.now (map (λ t. t.now) c.args.tails.now.items) (map (λ t. t.now) c.push_items.new.tails.items)
    c.args.json.now c.in-Arr.items c.in-Arr.is c.push_items.ensures

pub push_tree-returns-in-Obj : goal.push_tree-returns-in-Obj
push_tree-returns-in-Obj t c =
    of_object c.push_members.result c.args.stem.now (map (λ t. t.now) c.args.tails.now.items) (map (λ t. t.now) c.push_members.new.tails.items)
    c.args.json.now c.in-Obj.members c.in-Obj.is c.push_members.ensures
