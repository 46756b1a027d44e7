use Rattle.fhir_reach.specs.Keys.{keys_seen}
use Rattle.fhir_reach.proofs.Reached.{found_reach, found_once, found_reached}
use Rattle.fhir_reach.proofs.reaching.reached_set.Goals as goal

pub returns-clause-least : goal.returns-clause-least
returns-clause-least c = found_reach c.args.«package».now (keys_seen c.args.start.now) c.in_ok-found.found c.in_ok-found.ensures

pub returns-clause-in_order : goal.returns-clause-in_order
returns-clause-in_order c = found_reached c.args.«package».now (keys_seen c.args.start.now) c.in_ok-found.found c.in_ok-found.ensures

pub returns-clause-once : goal.returns-clause-once
returns-clause-once c = found_once c.args.«package».now (keys_seen c.args.start.now) c.in_ok-found.found c.in_ok-found.ensures
