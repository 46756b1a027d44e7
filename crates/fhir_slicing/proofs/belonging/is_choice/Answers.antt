use Rattle.std.proofs.Common.{codes, ◌∙◌, ap, ap₂, sym, length, take, drop, List, ℕ, ◌≡◌, true, false}
use Rattle.std.specs.Str.{bytes_eq}
use Rattle.fhir_slicing.proofs.Called.{begins_so, begins_otherwise}
use Rattle.fhir_slicing.proofs.belonging.is_choice.Goals as goal

pub returns-in-Some : goal.returns-in-Some
returns-in-Some c =
    let begins : bytes_eq (take (length c.args.name.now) c.args.element.now) c.args.name.now ≡ true =
    ap₂ (λ (e n : List ℕ). bytes_eq (take (length n) e) n) (sym c.as_bytes.ensures.value) (sym c.as_bytes-2.ensures.value) ∙ c.in-Some.ensures.cases.0
    in
    let behind : c.in-Some.rest.now ≡ drop (length c.args.name.now) c.args.element.now =
    c.in-Some.ensures.cases.1 ∙ ap₂ (λ (e n : List ℕ). drop (length n) e) c.as_bytes.ensures.value c.as_bytes-2.ensures.value
    in
    c.eq.ensures ∙ ap (bytes_eq c.in-Some.rest.now) c.as_slice.ensures ∙ begins_so c.args.name.now c.args.element.now c.in-Some.rest.now (codes "[x]") begins behind

pub returns-in-None : goal.returns-in-None
returns-in-None c =
    let begins : bytes_eq (take (length c.args.name.now) c.args.element.now) c.args.name.now ≡ false =
    ap₂ (λ (e n : List ℕ). bytes_eq (take (length n) e) n) (sym c.as_bytes.ensures.value) (sym c.as_bytes-2.ensures.value) ∙ c.in-None.ensures.cases
    in
    begins_otherwise c.args.name.now c.args.element.now (codes "[x]") begins
