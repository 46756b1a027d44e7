-- What is to blame for a definition by itself has the reason that its tests give.
use Rattle.std.proofs.Common.{◌≡◌, not, ◌&&◌, List, Option, ap, ◌∙◌}
use Rattle.std.specs.List.{list_all, list_any}
use Rattle.std.specs.Option.{option_or}
use Rattle.fhir_json.specs.Tree.{Text, Tree}
use Rattle.fhir_elements.specs.declared.reason.Reason.{Reason}
use Rattle.fhir_elements.specs.declared.reason.Reason.TheVariants.{WrongField, MinOverMax, RepeatedType, WrongId}
use Rattle.fhir_elements.specs.declared.cause.Blame.{Blame}
use Rattle.fhir_elements.specs.Causes.{blamed_reason, reason_unless}
use Rattle.fhir_elements.specs.Element.{Element}
use Rattle.fhir_definition.specs.Head.{has_right_head}
use Rattle.fhir_definition.specs.Bounds.{has_lexical_bounds}
use Rattle.fhir_definition.specs.Snapshot.{ids_differ}
use Rattle.fhir_definition.specs.Definition.{is_whole, is_wrong_field, is_min_over_max, is_repeated_type, is_wrong_id, element_faults, own_fault}
use Rattle.fhir_definition.specs.Cases.{is_case_of}
use Rattle.fhir_definition.proofs.Blamed.{first_of_five}

pub own_found : (url : Text) (t : Tree) (es fs : List Element) (rs : List (Option Reason)) (v w x y z : Option Blame) → fs ≡ es → rs ≡ element_faults t
    → blamed_reason v ≡ reason_unless (has_right_head url t && list_all is_whole fs && list_all has_lexical_bounds fs && not (list_any is_wrong_field rs)) WrongField
    → blamed_reason w ≡ reason_unless (not (list_any (is_case_of MinOverMax) rs)) MinOverMax
    → blamed_reason x ≡ reason_unless (not (list_any (is_case_of RepeatedType) rs)) RepeatedType
    → blamed_reason y ≡ reason_unless (not (list_any (is_case_of WrongId) rs)) WrongId
    → blamed_reason z ≡ reason_unless (ids_differ es) WrongId
    → blamed_reason (option_or (option_or (option_or (option_or v w) x) y) z) ≡ own_fault url t es
own_found url t es fs rs v w x y z fs_are rs_are a b c d e =
    first_of_five
    (has_right_head url t && list_all is_whole es && list_all has_lexical_bounds es && not (list_any is_wrong_field (element_faults t)))
    (not (list_any is_min_over_max (element_faults t))) (not (list_any is_repeated_type (element_faults t)))
    (not (list_any is_wrong_id (element_faults t))) (ids_differ es) WrongField MinOverMax RepeatedType WrongId v w x y z
    (a
    ∙ ap (λ ks. reason_unless (has_right_head url t && list_all is_whole ks && list_all has_lexical_bounds ks && not (list_any is_wrong_field rs)) WrongField) fs_are
    ∙ ap (λ ks. reason_unless (has_right_head url t && list_all is_whole es && list_all has_lexical_bounds es && not (list_any is_wrong_field ks)) WrongField) rs_are)
    (b ∙ ap (λ ks. reason_unless (not (list_any is_min_over_max ks)) MinOverMax) rs_are)
    (c ∙ ap (λ ks. reason_unless (not (list_any is_repeated_type ks)) RepeatedType) rs_are)
    (d ∙ ap (λ ks. reason_unless (not (list_any is_wrong_id ks)) WrongId) rs_are) e
