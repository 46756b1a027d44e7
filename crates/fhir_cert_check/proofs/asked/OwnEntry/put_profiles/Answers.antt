use Rattle.std.proofs.Common.{◌≡◌, Bool, List, [], ◌∷◌, ◌++◌, map, ◌&&◌, OnOk, refl, ap, subst, ◌∙◌, arith, if◌then◌else◌}
use Rattle.std.specs.List.{flat_map}
use Rattle.std.specs.Option.{option_to_list}
use Rattle.std.proofs.lemmas.Grind.{common_steps, flat_map-append}
use Rattle.fhir_json.specs.Tree.{Text}
use Rattle.fhir_schema.specs.Covers.{covers}
use Rattle.fhir_facets.specs.Targets.{targets_narrower}
use Rattle.fhir_cert_check.specs.Asked.{roots_pair, roots_asked}
use Rattle.fhir_cert_check.proofs.asked.OwnEntry.put_profiles.Goals as goal

-- what is made of all that some of a list have, and what is made of each of these
of_all : {A B C : Type 0} (test : A → Bool) (had : A → List B) (f : B → List C) (xs : List A)
    → flat_map f (flat_map (λ x. if test x then had x else []) xs) ≡ flat_map (λ x. if test x then flat_map f (had x) else []) xs
of_all test had f [] = refl
of_all test had f (x ∷ xs) = grind (arith, common_steps, flat_map-append, of_all test had f xs)

pub returns : goal.returns
returns c =
    let s = c.args.self.now.schema.now in
    let e = c.args.self.now.entry.now in
    subst (λ ps. OnOk c.put_owns.result (c.put_owns.new.asked.items ≡ c.args.asked.now.items ++ ps))
    (ap (λ ps. flat_map (roots_asked s (map (λ p. p.now) ps)) e.profiles) c.deref.ensures.value
    ∙ ap (λ ps. flat_map (roots_asked s ps) e.profiles) c.in_ok-profiles.ensures
    ∙ ap (λ f. flat_map f e.profiles) (λ j own.
    of_all (λ f. covers s f.code e.code && targets_narrower s e f) (λ f. f.profiles) (λ (base : Text). option_to_list (roots_pair s own base)) c.args.bases.now j))
    c.put_owns.ensures
