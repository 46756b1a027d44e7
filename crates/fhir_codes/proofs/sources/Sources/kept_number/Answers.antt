use Rattle.std.proofs.Common.{◌≡◌, ◌∙◌, [], ◌∷◌, Some, map, ap, sym, subst, arith}
use Rattle.std.specs.List.{slice_get}
use Rattle.std.specs.Option.{IfSome}
use Rattle.std.proofs.lemmas.Grind.{common_steps}
use Rattle.fhir_codes.specs.Concepts.{Concepts, union_of}
use Rattle.fhir_codes.specs.Including.{included}
use Rattle.fhir_codes.proofs.Members.{united_one, difference_none}
use Rattle.fhir_codes.proofs.sources.Sources.kept_number.Goals as goal

pub returns-in-len1 : goal.returns-in-len1
returns-in-len1 c =
    let tables = c.args.self.now.tables in
    let one : c.args.more.now ≡ c.only-item.result ∷ [] = grind (arith, common_steps) in
    subst (λ (s : Concepts). IfSome c.only_number.result (λ n. slice_get tables n ≡ Some s))
    (united_one (included tables c.only-item.result)
    ∙ ap (λ xs. union_of (map (included tables) xs)) (sym one)
    ∙ difference_none (union_of (map (included tables) c.args.more.now)) c.args.less.now (c.is_empty.ensures c.if-not-is_empty.false))
    c.only_number.ensures
