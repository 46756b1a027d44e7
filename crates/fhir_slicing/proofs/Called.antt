-- Names of choices.
use Rattle.std.proofs.Common.{◌≡◌, Bool, true, false, ◌++◌, length, take, drop, refl, sym, ap, ◌∙◌}
use Rattle.std.specs.Str.{bytes_eq}
use Rattle.std.proofs.lemmas.Bool.{false≢true}
use Rattle.std.proofs.lemmas.List.{take-append-drop}
use Rattle.std.proofs.Math.Seq.{take-append_seam, drop-append_seam}
use Rattle.std.proofs.lemmas.Slice.Eq.{bytes_eq-Decides}
use Rattle.fhir_json.specs.Tree.{Text}

same_bool : (a b : Bool) → (a ≡ true → b ≡ true) → (b ≡ true → a ≡ true) → a ≡ b
same_bool true b f g = sym (f refl)
same_bool false true f g = g refl
same_bool false false f g = refl

-- what begins with a name is that name and an end where it ends so
pub begins_so : (name element rest end : Text) → bytes_eq (take (length name) element) name ≡ true → rest ≡ drop (length name) element
    → bytes_eq rest end ≡ bytes_eq (name ++ end) element
begins_so name element rest end begins is =
    same_bool (bytes_eq rest end) (bytes_eq (name ++ end) element)
    (λ ends.
    (bytes_eq-Decides (name ++ end) element).1
    (ap (λ (t : Text). name ++ t) (sym ((bytes_eq-Decides rest end).0 ends) ∙ is)
    ∙ ap (λ (t : Text). t ++ drop (length name) element) (sym ((bytes_eq-Decides (take (length name) element) name).0 begins))
    ∙ take-append-drop (length name) element))
    (λ whole.
    (bytes_eq-Decides rest end).1
    (is ∙ ap (drop (length name)) (sym ((bytes_eq-Decides (name ++ end) element).0 whole)) ∙ drop-append_seam name end))

pub begins_otherwise : (name element end : Text) → bytes_eq (take (length name) element) name ≡ false → false ≡ bytes_eq (name ++ end) element
begins_otherwise name element end begins =
    same_bool false (bytes_eq (name ++ end) element)
    (λ is. absurd (false≢true is))
    (λ whole.
    sym begins
    ∙ (bytes_eq-Decides (take (length name) element) name).1
    (ap (take (length name)) (sym ((bytes_eq-Decides (name ++ end) element).0 whole)) ∙ take-append_seam name end))
