-- What is taken of a code system that is found.
use Rattle.std.proofs.Common.{◌≡◌, List, [], Bool, true, false, cond, Option, None, Some, map, codes, refl, sym, ◌∙◌, ap, if◌then◌else◌}
use Rattle.std.specs.Option.{option_map_or, option_and_then}
use Rattle.fhir_json.specs.Tree.{Text, Tree}
use Rattle.fhir_json.specs.Fields.{text_at}
use Rattle.fhir_package.specs.declared.kind.Kind.TheVariants.{CodeSystem}
use Rattle.fhir_package.specs.Definitions.{Definitions, at_url}
use Rattle.fhir_codes.specs.Concepts.{of_system}
use Rattle.fhir_codes.specs.CodeSystems.{codes_defined}
use Rattle.fhir_codes.specs.ValueSets.{listed_concepts, lists_no_concept, is_version_of, code_system, codes_taken}
use Rattle.fhir_codes.specs.Placing.{whole_of}

guarded : (test : Tree → Bool) (b : Bool) (t s : Tree) → (if b then Some t else None) ≡ Some s → t ≡ s
guarded test true t s e = cc
guarded test false t s e = absurd (let bad : None ≡ Some s = e in cc)

-- what passes a test is what was there
same_codes : (test : Tree → Bool) (o : Option Tree) (s : Tree) → option_and_then (λ t. if test t then Some t else None) o ≡ Some s → option_map_or codes_defined o [] ≡ codes_defined s
same_codes test None s e = absurd (let bad : None ≡ Some s = e in cc)
same_codes test (Some t) s e = ap codes_defined (guarded test (test t) t s e)

taken_if : (b : Bool) (x y : List Text) → b ≡ true → x ≡ cond b x y
taken_if true x y is = refl
taken_if false x y is = absurd (let bad : false ≡ true = is in cc)

pub whole_taken : (p : Definitions) (t : Tree) (url : Text) (s : Tree) → lists_no_concept t ≡ true → code_system p t url ≡ Some s → whole_of p url ≡ of_system url (codes_taken p t url)
whole_taken p t url s none is =
    ap (of_system url)
    (same_codes (is_version_of p t) (at_url CodeSystem url p) s is
    ∙ ap (λ o. option_map_or codes_defined o []) (sym is)
    ∙ taken_if (lists_no_concept t) (option_map_or codes_defined (code_system p t url) []) (map (text_at (codes "code")) (listed_concepts t)) none)
