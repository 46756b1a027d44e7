use Rattle.std.proofs.Common.{rules, ◌≡◌, ◌++◌, ◌∷◌, [], length}
use Rattle.fhir_names.specs.Places.{Puts}
use Rattle.fhir_nodes.proofs.Right.{put}
use Rattle.fhir_nodes.proofs.readings.Readings.add.Goals as goal

pub invariant_of-self-2 : goal.invariant_of-self-2
invariant_of-self-2 c =
    let pushed : c.push.new.self.items ≡ c.self.inside.read.items ++ c.args.reading ∷ [] = search rules in
    let placed : Puts c.self.inside.places c.put.new.self c.args.text.now (length c.self.inside.read.items) = search rules in
    put c.self.inside.places c.put.new.self c.self.inside.read.items c.push.new.self.items c.args.reading c.args.text.now pushed
    c.requires c.self.invariant placed
