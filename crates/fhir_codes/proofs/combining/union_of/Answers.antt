use Rattle.std.proofs.Common.{◌≡◌, ◌∙◌, [], ◌∷◌, ap, sym, arith}
use Rattle.std.proofs.lemmas.Grind.{common_steps}
use Rattle.fhir_codes.specs.Concepts.{union_of}
use Rattle.fhir_codes.proofs.Looping.{gives_as}
use Rattle.fhir_codes.proofs.Members.{united_one}
use Rattle.fhir_codes.proofs.combining.union_of.Goals as goal

pub returns-in-len1 : goal.returns-in-len1
returns-in-len1 c =
    let only : c.args.sets.now ≡ c.only-item.result ∷ [] = grind (arith, common_steps) in
    gives_as (λ s. s) c.share.result c.only-item.result (union_of c.args.sets.now) (united_one c.only-item.result ∙ ap union_of (sym only)) c.share.ensures
