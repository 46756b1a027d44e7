-- What is kept under keys and expressions, as it is seen.
use Rattle.std.proofs.Common.{◌≡◌, Bool, true, false, cond, List, [], ◌∷◌, Option, None, Some, Bor, refl, sym, ◌∙◌}
use Rattle.std.specs.Option.{option_map, option_and_then}
use Rattle.std.specs.Map.{lookup}
use Rattle.std.specs.BTreeMap.{BTreeMap, is_at}
use Rattle.std.specs.Cmp.Lexicographic.{slice_cmp}
use Rattle.std.specs.Ordering.{nat_cmp}
use Rattle.std.specs.Str.{bytes_eq}
use Rattle.std.proofs.lemmas.Map.Text.{is_eq-slice_cmp}
use Rattle.fhir_json.specs.Tree.{Text}
use Rattle.fhir_package.specs.Definitions.{Definitions}
use Rattle.fhir_plain.specs.Kept.{kept_for, texts_seen, groups_seen, maps_seen, text_under, found_in, Says, AreSayings}
use Rattle.fhir_plain.specs.Sayings.{all_constraints}
use Rattle.fhir_plain.specs.declared.sayings.Maps.{Maps}

text_named : (name : Text) (es : List (Bor Text × Bor Text))
    → option_map (λ t. t.now) (lookup (is_at (λ k. slice_cmp nat_cmp name k.now)) es) ≡ lookup (bytes_eq name) (texts_seen es)
text_named name [] = refl
text_named name (e ∷ es) = by_case (is_at (λ k. slice_cmp nat_cmp name k.now) e.0) (bytes_eq name e.0.now) (is_eq-slice_cmp name e.0.now) (text_named name es)
  where
    by_case : (a b : Bool) → a ≡ b
        → option_map (λ t. t.now) (lookup (is_at (λ k. slice_cmp nat_cmp name k.now)) es) ≡ lookup (bytes_eq name) (texts_seen es)
        → option_map (λ t. t.now) (cond a (Some e.1) (lookup (is_at (λ k. slice_cmp nat_cmp name k.now)) es))
        ≡ cond b (Some e.1.now) (lookup (bytes_eq name) (texts_seen es))
    by_case true true is more = refl
    by_case true false is more = cc
    by_case false true is more = cc
    by_case false false is more = more

group_named : (key expression : Text) (es : List (Bor Text × BTreeMap (Bor Text) (Bor Text)))
    → option_and_then (text_under expression) (lookup (is_at (λ k. slice_cmp nat_cmp key k.now)) es)
    ≡ option_and_then (lookup (bytes_eq expression)) (lookup (bytes_eq key) (groups_seen es))
group_named key expression [] = refl
group_named key expression (e ∷ es) =
    by_case (is_at (λ k. slice_cmp nat_cmp key k.now) e.0) (bytes_eq key e.0.now) (is_eq-slice_cmp key e.0.now) (group_named key expression es)
  where
    by_case : (a b : Bool) → a ≡ b
        → option_and_then (text_under expression) (lookup (is_at (λ k. slice_cmp nat_cmp key k.now)) es)
        ≡ option_and_then (lookup (bytes_eq expression)) (lookup (bytes_eq key) (groups_seen es))
        → option_and_then (text_under expression) (cond a (Some e.1) (lookup (is_at (λ k. slice_cmp nat_cmp key k.now)) es))
        ≡ option_and_then (lookup (bytes_eq expression)) (cond b (Some (texts_seen e.1.entries)) (lookup (bytes_eq key) (groups_seen es)))
    by_case true true is more = text_named expression e.1.entries
    by_case true false is more = cc
    by_case false true is more = cc
    by_case false false is more = more

pub found-kept : (maps : Maps) (key : Text) (expression : Option Text) → found_in maps key expression ≡ kept_for (maps_seen maps) key expression
found-kept maps key None = text_named key maps.bare.entries
found-kept maps key (Some expression) = group_named key expression maps.written.entries

pub all-kept : (maps : Maps) (p : Definitions) → Says maps (all_constraints p) → AreSayings p (maps_seen maps)
all-kept maps p says key expression = sym (found-kept maps key expression) ∙ says key expression
