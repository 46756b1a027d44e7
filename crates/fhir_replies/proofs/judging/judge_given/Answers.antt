use Rattle.fhir_replies.proofs.Standings.{IsValidatedAsGiven, is_listed_as_given, stands_as_given}
use Rattle.fhir_replies.proofs.judging.judge_given.Goals as goal

pub returns : goal.returns
returns c =
    let s = c.args.schema.now in
    let texts = c.args.given.now in
    let v = c.validate_given-validated.result in
    let said = c.validate_given-validated.ensures in
    let known : IsValidatedAsGiven s texts c.args.profile.now c.args.bytes.now v =
    record {
      conforms = said.conforms;
      always = said.always;
      rests = said.rests;
      anyway = said.anyway;
      constraints = said.constraints;
      violates = said.violates;
      never = said.never;
      explained = said.explained;
      there = said.there;
      read = said.read;
      refused = said.refused;
    } in
    record {
      validated = v;
      stands = stands_as_given s texts c.args.profile.now c.args.bytes.now v known c.in_ok-outcome.ensures.memory;
      stands_so = c.standing_given.ensures;
      is_outcome = c.in_ok-outcome.ensures.outcome (is_listed_as_given s texts c.args.profile.now c.args.bytes.now v known);
    }
