use Rattle.std.proofs.Common.{◌≡◌, ◌++◌, ◌∷◌, [], List, ap, sym, ◌∙◌, map, string_bytes}
use Rattle.std.specs.Map.{lookup}
use Rattle.std.specs.Str.{bytes_eq}
use Rattle.std.specs.Option.{option_map_or}
use Rattle.fhir_json.specs.Tree.{Text}
use Rattle.fhir_inheritance.proofs.Grouped.{adds}
use Rattle.fhir_inheritance.proofs.Listed.{seen_snoc}
use Rattle.fhir_inheritance.proofs.groups.GroupTable.add.Goals as goal
use Rattle.fhir_inheritance.proofs.groups.GroupTable.add.Goals.{in-Some, in-None}

pub returns : goal.returns
returns c =
    let had : map string_bytes c.match-take.texts.items ≡ option_map_or (λ v. map string_bytes v.items) (lookup (bytes_eq c.args.name.now) c.self.inside.texts) [] =
    elim c.match-take.branch [
      | in-Some w ↦
          ap (λ v. map string_bytes v.items) w.texts-is
          ∙ ap (λ o. option_map_or (λ v. map string_bytes v.items) o []) (sym w.in-Some.is ∙ c.take.ensures.taken)
      | in-None w ↦
          ap (λ v. map string_bytes v.items) w.texts-is ∙ ap (map string_bytes) w.new-texts.ensures.items
          ∙ ap (λ o. option_map_or (λ v. map string_bytes v.items) o []) (sym w.in-None.is ∙ c.take.ensures.taken)
    ] in
    rw (← c.self.view_is)
    (adds (λ v. map string_bytes v.items) c.self.inside.texts c.take.new.self c.put.new.self c.args.name.now (string_bytes c.in_ok-name.name) c.args.text.now c.push.new.self
    c.in_ok-name.ensures.ok c.take.ensures.gone c.in_ok-put.ensures
    (seen_snoc c.match-take.texts.items c.in_ok-text.text c.push.new.self.items c.in_ok-push.ensures.items
    ∙ ap (λ (t : Text). map string_bytes c.match-take.texts.items ++ t ∷ []) c.in_ok-text.ensures.ok
    ∙ ap (λ (l : List Text). l ++ c.args.text.now ∷ []) had))
