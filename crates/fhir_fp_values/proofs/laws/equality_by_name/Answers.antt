use Rattle.std.proofs.Common.{◌≡◌, false, Some, None, map, refl, sym, ap, ◌∙◌}
use Rattle.std.specs.Prelude.{if◌then◌else◌}
use Rattle.std.proofs.lemmas.Slice.Eq.{bytes_eq-Decides}
use Rattle.fhir_json.specs.Tree.{Text}
use Rattle.fhir_instance.specs.Items.{item, Kids, type_of, kids_of}
use Rattle.fhir_fp_values.specs.Values.{item_value}
use Rattle.fhir_fp_values.specs.Equality.{Kleene, same_said, if_same, items_named, in_turn, by_name, sides_of, equal}
use Rattle.fhir_fp_values.proofs.Heights.{equal_out}
use Rattle.fhir_fp_values.proofs.ByName.{of_name, of_names, same_of_name, same_of_all, sides_are}
use Rattle.fhir_fp_values.proofs.laws.equality_by_name.Goals as goal

alike : (ks ks' ls ls' : Kids) → ((n : Text) → items_named n ks ≡ items_named n ks') → ((n : Text) → items_named n ls ≡ items_named n ls')
    → by_name (sides_of ks) ls ≡ by_name (sides_of ks') ls'
alike ks ks' ls ls' own others =
    same_of_all (by_name (sides_of ks) ls) (by_name (sides_of ks') ls') (of_name ks ls) (of_name ks' ls')
    (λ n. same_of_name ks ks' ls ls' n (own n) (others n)) (of_names ks ls) (of_names ks' ls')

pub returns-clause-left : goal.returns-clause-left
returns-clause-left c = λ type json ks ls y same.
    ap (λ (r : Kleene). same_said (item_value (item type json ks)) (item_value y) (if_same type (type_of y) r)) (alike ks ls (kids_of y) (kids_of y) same (λ n. refl))

pub returns-clause-right : goal.returns-clause-right
returns-clause-right c = λ x type json ks ls same.
    equal_out x (item type json ks)
    ∙ ap (λ (r : Kleene). same_said (item_value x) (item_value (item type json ks)) (if_same (type_of x) type r))
    (alike (kids_of x) (kids_of x) ks ls (λ n. refl) same)
    ∙ sym (equal_out x (item type json ls))

turned : (n : Text) (ks ls : Kids) → of_name ks ls n ≡ in_turn (map equal (items_named n ks)) (items_named n ls)
turned n ks ls = ap (λ es. in_turn es (items_named n ls)) (sides_are n ks)

pub returns-clause-by_name : goal.returns-clause-by_name
returns-clause-by_name c = λ type json other ks ls says_not nor_other.
    let by : equal (item type json ks) (item type other ls) ≡ by_name (sides_of ks) ls =
    ap (λ o. same_said o (item_value (item type other ls)) (if_same type type (by_name (sides_of ks) ls))) says_not
    ∙ ap (λ o. same_said None o (if_same type type (by_name (sides_of ks) ls))) nor_other
    ∙ ap (λ b. if b then by_name (sides_of ks) ls else Some false) ((bytes_eq-Decides type type).1 refl) in
    ((λ h n. sym (turned n ks ls) ∙ (of_names ks ls).each (sym by ∙ h) n), (λ h. by ∙ (of_names ks ls).all (λ n. turned n ks ls ∙ h n)))
