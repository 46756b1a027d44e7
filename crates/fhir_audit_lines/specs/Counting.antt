-- How the counts of an audit are told in text.
use Rattle.std.specs.Prelude.{◌++◌, codes}
use Rattle.fhir_json.specs.Tree.{Text}
use Rattle.fhir_lines.specs.Lines.{counted}
use Rattle.fhir_audit_words.specs.declared.counting.Counts.{Counts}

abbrev pub counts_text : Counts → Text
counts_text c =
    counted (codes "profiles: ") c.profiles ++ counted (codes ", narrow: ") c.narrow ++ counted (codes ", do not: ") c.do_not
    ++ counted (codes ", not shown: ") c.not_shown ++ counted (codes ", can't be used: ") c.unusable
    ++ counted (codes ", without a base: ") c.without_base
