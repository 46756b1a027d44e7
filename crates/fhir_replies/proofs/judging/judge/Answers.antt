use Rattle.fhir_replies.proofs.Standings.{IsValidated, is_listed, stands}
use Rattle.fhir_replies.proofs.judging.judge.Goals as goal

pub returns : goal.returns
returns c =
    let v = c.validate-validated.result in
    let said = c.validate-validated.ensures in
    let known : IsValidated c.args.schema.now c.args.profile.now c.args.bytes.now v =
    record {
      conforms = said.conforms;
      always = said.always;
      constraints = said.constraints;
      violates = said.violates;
      never = said.never;
      explained = said.explained;
      there = said.there;
      read = said.read;
      refused = said.refused;
    } in
    record {
      validated = v;
      stands = stands c.args.schema.now c.args.profile.now c.args.bytes.now v known c.in_ok-outcome.ensures.memory;
      stands_so = c.standing_of.ensures;
      is_outcome = c.in_ok-outcome.ensures.outcome (is_listed c.args.schema.now c.args.profile.now c.args.bytes.now v known);
    }
