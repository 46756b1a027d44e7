use Rattle.std.proofs.Common.{◌≡◌, map, take}
use Rattle.fhir_findings.specs.Sentences.{sentence_for}
use Rattle.fhir_findings.specs.Views.{texts_seen, firsts_seen}
use Rattle.fhir_findings.proofs.saying.sentences.Given as goal

abbrev pub invariant-loop-place : goal.invariant-loop-place
invariant-loop-place l = texts_seen l.all.items ≡ map (sentence_for l.«package») (firsts_seen (take l.place l.told))
