use Rattle.std.proofs.Common.{◌≡◌, length, take}
use Rattle.fhir_package.proofs.url_map.UrlMap.truncate.Given as goal

abbrev pub invariant-loop-self : goal.invariant-loop-self
invariant-loop-self l = take l.length l.self ≡ take l.length l.fn.self

abbrev pub decreases-loop-self : goal.decreases-loop-self
decreases-loop-self l = length l.self
