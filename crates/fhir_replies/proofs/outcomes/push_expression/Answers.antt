use Rattle.std.proofs.Common.{string_bytes, option_map, ap}
use Rattle.fhir_json.specs.Views.{tree_of}
use Rattle.fhir_replies.proofs.Items.{placed}
use Rattle.fhir_replies.proofs.outcomes.push_expression.Goals as goal

pub returns-in_ok-push : goal.returns-in_ok-push
returns-in_ok-push c =
    placed c.args.members.now.items c.push.new.self.items c.member.result c.in_ok-places.places.items c.text.result (tree_of c.array.result)
    (string_bytes c.in-Some.place) (option_map string_bytes c.args.expression) (ap (option_map string_bytes) c.in-Some.is)
    c.in_ok-push.ensures.items c.member.ensures c.array.ensures c.in_ok-places.ensures.items c.text.ensures
