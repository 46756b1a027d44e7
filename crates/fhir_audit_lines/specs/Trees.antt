-- What an audit tells in JSON: an object on each profile, and one with the counts.
use Rattle.std.specs.Prelude.{◌≡◌, List, [], ◌∷◌, ◌++◌, codes}
use Rattle.fhir_json.specs.Tree.{Text, Tree, string, object, members_of, Property}
use Rattle.fhir_json.specs.Compact.{compact}
use Rattle.fhir_lines.specs.Lines.{text_member, count_property}
use Rattle.fhir_audit.specs.Auditing.{AuditedValue}
use Rattle.fhir_audit_words.specs.declared.counting.Counts.{Counts}
use Rattle.fhir_audit_words.specs.Words.{verdict_word}

-- the first members: the url, the verdict, and the url of the base, where it is there
abbrev pub first_members : AuditedValue → List Property
first_members a =
    (codes "url", string a.url) ∷ (codes "verdict", string (verdict_word a.verdict)) ∷ text_member (codes "base") a.base

-- one line, that spells an object with these members and others behind them
abbrev pub IsToldTree : AuditedValue → List Text → Type 0
IsToldTree a ls = (more : List Property) × (ls ≡ compact (object (members_of (first_members a ++ more))) ∷ [])

abbrev pub counts_tree : Counts → Tree
counts_tree c =
    object
    (members_of
    (count_property (codes "profiles") c.profiles ∷ count_property (codes "narrow") c.narrow ∷ count_property (codes "do-not") c.do_not
    ∷ count_property (codes "not-shown") c.not_shown ∷ count_property (codes "unusable") c.unusable
    ∷ count_property (codes "without-base") c.without_base ∷ []))
