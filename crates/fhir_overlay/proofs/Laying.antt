-- What laying one element over another keeps.
use Rattle.std.proofs.Common.{List, [], ◌∷◌, map, Bool, true, Option, None, Some, IsTrue, is_ok, refl}
use Rattle.std.specs.Prelude.{codes}
use Rattle.std.specs.Option.{option_map_or, option_or}
use Rattle.fhir_json.specs.Fields.{is_choice}
use Rattle.fhir_json.specs.Sound.{differ}
use Rattle.fhir_names.specs.Ids.{read_id}
use Rattle.fhir_elements.specs.Element.{Element}
use Rattle.fhir_overlay.specs.Overlay.{listed_over, laid_over, as_slice}
use Rattle.fhir_overlay.specs.Writable.{is_count, is_max, is_integer, is_named, has_writable_numbers, has_named_choices, is_writable}
use Rattle.fhir_overlay.proofs.Truths.{three, four, all_three, all_four}

pub or_holds : {A : Type 0} (p : A → Bool) (over under : Option A) → IsTrue (option_map_or p over true)
    → IsTrue (option_map_or p under true) → IsTrue (option_map_or p (option_or over under) true)
or_holds p None under h i = i
or_holds p (Some x) under h i = h

pub listed_holds : {A : Type 0} (p : List A → Bool) (over under : List A) → IsTrue (p over) → IsTrue (p under) → IsTrue (p (listed_over over under))
listed_holds p [] under h i = i
listed_holds p (x ∷ xs) under h i = h

numbers : (over under : Element) → IsTrue (has_writable_numbers over) → IsTrue (has_writable_numbers under)
    → IsTrue (has_writable_numbers (laid_over over under))
numbers over under h i =
    let o = three (option_map_or is_count over.min true) (option_map_or is_max over.max true) (option_map_or is_integer over.max_length true) h in
    let u = three (option_map_or is_count under.min true) (option_map_or is_max under.max true) (option_map_or is_integer under.max_length true) i in
    all_three _ _ _ (or_holds is_count over.min under.min o.0 u.0) (or_holds is_max over.max under.max o.1 u.1)
    (or_holds is_integer over.max_length under.max_length o.2 u.2)

choices : (over under : Element) → IsTrue (has_named_choices over) → IsTrue (has_named_choices under)
    → IsTrue (has_named_choices (laid_over over under))
choices over under h i =
    let parts = λ (e : Element).
    four (is_named (codes "fixed") e.fixed) (is_named (codes "pattern") e.pattern) (is_named (codes "minValue") e.min_value)
    (is_named (codes "maxValue") e.max_value) in
    let o = parts over h in
    let u = parts under i in
    all_four _ _ _ _ (or_holds (λ p. is_choice (codes "fixed") p.0) over.fixed under.fixed o.0 u.0)
    (or_holds (λ p. is_choice (codes "pattern") p.0) over.pattern under.pattern o.1 u.1)
    (or_holds (λ p. is_choice (codes "minValue") p.0) over.min_value under.min_value o.2 u.2)
    (or_holds (λ p. is_choice (codes "maxValue") p.0) over.max_value under.max_value o.3 u.3)

pub writable_parts : (e : Element) → IsTrue (is_writable e)
    → IsTrue (is_ok (read_id e.id)) × IsTrue (has_writable_numbers e) × IsTrue (differ (map (λ t. t.code) e.types)) × IsTrue (has_named_choices e)
writable_parts e h = four (is_ok (read_id e.id)) (has_writable_numbers e) (differ (map (λ t. t.code) e.types)) (has_named_choices e) h

pub laid_writable : (over under : Element) → IsTrue (is_writable over) → IsTrue (is_writable under) → IsTrue (is_writable (laid_over over under))
laid_writable over under h i =
    let o = writable_parts over h in
    let u = writable_parts under i in
    all_four _ _ _ _ o.0 (numbers over under o.1 u.1)
    (listed_holds (λ ts. differ (map (λ t. t.code) ts)) over.types under.types o.2 u.2) (choices over under o.3 u.3)

pub sliced_writable : (e : Element) → IsTrue (is_writable e) → IsTrue (is_writable (as_slice e))
sliced_writable e h =
    let p = writable_parts e h in
    let n = three (option_map_or is_count e.min true) (option_map_or is_max e.max true) (option_map_or is_integer e.max_length true) p.1 in
    all_four _ _ _ _ p.0 (all_three _ _ _ refl n.1 n.2) p.2 p.3
