-- The issues of an outcome.
use Rattle.std.proofs.Common.{◌≡◌, ◌<◌, ℕ, arith, List, [], ◌∷◌, ◌++◌, map, codes, Option, Some, All, refl, sym, ap, subst, ◌∙◌}
use Rattle.std.proofs.lemmas.List.{map-append}
use Rattle.std.proofs.lemmas.List.Elements.{All-push}
use Rattle.fhir_json.specs.declared.json.Json.{Json}
use Rattle.fhir_json.specs.declared.json.Member.{Member}
use Rattle.fhir_json.specs.Tree.{Text, Tree, string, object, array, items_of, list_of, members_of}
use Rattle.fhir_json.specs.Views.{tree_of, trees_of, property_of}
use Rattle.fhir_json.specs.Fields.{items_in}
use Rattle.fhir_replies.specs.Outcomes.{HasSeverity, expression_members}

listed : (ts : List Tree) → list_of (items_of ts) ≡ ts
listed [] = refl
listed (t ∷ ts) = ap (λ us. t ∷ us) (listed ts)

-- those of an object of a kind and its issues
pub issues_in : (t : Tree) (members : List Member) (kind issues : Member) (name : Tree) (ts : List Tree)
    → t ≡ object (members_of (map property_of members)) → members ≡ kind ∷ issues ∷ []
    → property_of kind ≡ (codes "resourceType", name) → property_of issues ≡ (codes "issue", array (items_of ts))
    → items_in (codes "issue") t ≡ ts
issues_in t members kind issues name ts whole two first second =
    let parts : t ≡ object (members_of ((codes "resourceType", name) ∷ (codes "issue", array (items_of ts)) ∷ [])) =
    whole ∙ ap (λ ms. object (members_of (map property_of ms))) two
    ∙ ap (λ p. object (members_of (p ∷ property_of issues ∷ []))) first
    ∙ ap (λ p. object (members_of ((codes "resourceType", name) ∷ p ∷ []))) second in
    ap (items_in (codes "issue")) parts ∙ listed ts

-- where an issue is, behind its other members
pub placed : (old new : List Member) (one : Member) (places : List Json) (text : Json) (t : Tree) (place : Text) (expression : Option Text)
    → expression ≡ Some place → new ≡ old ++ one ∷ [] → property_of one ≡ (codes "expression", t) → t ≡ array (items_of (trees_of places))
    → places ≡ text ∷ [] → tree_of text ≡ string place → map property_of new ≡ map property_of old ++ expression_members expression
placed old new one places text t place expression some more named listed single written =
    let whole : t ≡ array (items_of (string place ∷ [])) =
    listed ∙ ap (λ js. array (items_of (trees_of js))) single ∙ ap (λ u. array (items_of (u ∷ []))) written in
    ap (map property_of) more ∙ map-append property_of old (one ∷ [])
    ∙ ap (λ p. map property_of old ++ p ∷ []) (named ∙ ap (λ u. (codes "expression", u)) whole)
    ∙ ap (λ e. map property_of old ++ expression_members e) (sym some)

-- the severity of an object whose first property is that
pub severity_in : (t : Tree) (members rest : List Member) (first : Member) (severity : Text) → t ≡ object (members_of (map property_of members))
    → members ≡ first ∷ rest → property_of first ≡ (codes "severity", string severity) → HasSeverity severity t
severity_in t members rest first severity whole some is =
    subst (HasSeverity severity)
    (sym (whole ∙ ap (λ ms. object (members_of (map property_of ms))) some ∙ ap (λ p. object (members_of (p ∷ map property_of rest))) is)) refl

no_place : (k : ℕ) → k < 0 → ⊥
no_place k lt = omega arith

-- none
pub none_issued : (severity : Text) (issues : List Json) → issues ≡ [] → All (HasSeverity severity) (trees_of issues)
none_issued severity issues none = subst (λ (js : List Json). All (HasSeverity severity) (trees_of js)) (sym none) (λ k d lt. absurd (no_place k lt))

-- one more
pub one_issue_more : (severity : Text) (old new : List Json) (issue : Json) → new ≡ old ++ issue ∷ [] → HasSeverity severity (tree_of issue)
    → All (HasSeverity severity) (trees_of old) → All (HasSeverity severity) (trees_of new)
one_issue_more severity old new issue is so all =
    subst (λ ts. All (HasSeverity severity) ts) (sym (ap trees_of is ∙ map-append tree_of old (issue ∷ [])))
    (All-push (HasSeverity severity) (trees_of old) (tree_of issue) all so)
