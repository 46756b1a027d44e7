use Rattle.std.proofs.Common.{◌<◌, length, arith}
use Rattle.fhir_instance.specs.Found.{frame_of, kids_found}
use Rattle.fhir_instance.proofs.Looking.{spelled_more, known_more}
use Rattle.fhir_instance.proofs.spelled.spelled_in.Goals as goal

pub loop-i-preserved : goal.loop-i-preserved
loop-i-preserved c =
    let s = c.args.schema.now in
    let fr = frame_of c.args.node c.args.role in
    let ms = c.args.members.now.items in
    let within : c.loop-i.i < length ms = omega arith in
    record {
      spelled =
          spelled_more s fr ms c.loop-i.i c.index.result.now c.loop-i.all.items c.put.new.all.items _ within c.index.ensures c.in_ok-put.ensures.all
          c.loop-i.invariant.spelled;
      found = known_more s fr ms c.loop-i.i c.index.result.now (kids_found c.loop-i.found)
          (kids_found c.put.new.found) _ within c.index.ensures c.in_ok-put.ensures.found c.loop-i.invariant.found;
    }
