use Rattle.std.proofs.Common.{◌≡◌, true, false, ◌++◌, ◌∷◌, [], map, is_some, rules, sym, ap, subst, ◌∙◌}
use Rattle.std.proofs.lemmas.List.{map-append}
use Rattle.fhir_names.specs.Places.{place_of}
use Rattle.fhir_claims.specs.Once.{OnceValue, HasOnce}
use Rattle.fhir_claims.proofs.EachOnce.{there, added}
use Rattle.fhir_claims.proofs.once.Once.add.Goals as goal

pub returns-then-is_some : goal.returns-then-is_some
returns-then-is_some c texts has =
    let found : is_some (place_of c.self.inside.places c.args.text.now) ≡ true = search rules in
    subst (λ o. HasOnce o (texts ++ c.args.text.now ∷ [])) c.self.view_is
    (there _ texts c.args.text.now (subst (λ o. HasOnce o texts) (sym c.self.view_is) has) found)

pub returns : goal.returns
returns c texts has =
    let none : is_some (place_of c.self.inside.places c.args.text.now) ≡ false = search rules in
    let old : OnceValue = record { texts = map (λ t. t.now) c.self.inside.texts.items; places = c.self.inside.places } in
    let new : OnceValue = record { texts = map (λ t. t.now) c.push.new.self.items; places = c.put.new.self } in
    let has : HasOnce old texts = subst (λ o. HasOnce o texts) (sym c.self.view_is) has in
    let listed : new.texts ≡ old.texts ++ c.args.text.now ∷ [] =
    ap (map (λ t. t.now)) c.in_ok-push.ensures.items ∙ map-append (λ t. t.now) c.self.inside.texts.items (c.args.text ∷ []) in
    added old new texts c.args.text.now _ has none c.in_ok-put.ensures.put listed
