-- Which values a text, a number, a flag and null are equal to.
use Rattle.std.proofs.Common.{◌≡◌, Bool, true, refl, sym, ap, ◌∙◌}
use Rattle.std.proofs.lemmas.Bool.{false≢true}
use Rattle.fhir_json.specs.Tree.{Text, Tree, null, boolean, number, string}
use Rattle.fhir_matching.specs.Equality.{is_null, is_flag, is_number_text, is_text}
use Rattle.fhir_matching.proofs.Members.{text_is, same_text}
use Rattle.fhir_matching.proofs.Laws.{flag_is, equal-refl}

pub only_text : (s : Text) (t : Tree) → is_text s t ≡ true → t ≡ string s
only_text s (string r) h = ap string (sym (text_is s r h))
only_text s _ h = absurd (false≢true h)

pub that_text : (s : Text) (t : Tree) → t ≡ string s → is_text s t ≡ true
that_text s t e = ap (is_text s) e ∙ same_text s

pub only_number : (n : Text) (t : Tree) → is_number_text n t ≡ true → t ≡ number n
only_number n (number m) h = ap number (sym (text_is n m h))
only_number n _ h = absurd (false≢true h)

pub that_number : (n : Text) (t : Tree) → t ≡ number n → is_number_text n t ≡ true
that_number n t e = ap (is_number_text n) e ∙ same_text n

pub only_flag : (b : Bool) (t : Tree) → is_flag b t ≡ true → t ≡ boolean b
only_flag b (boolean d) h = ap boolean (sym (flag_is b d h))
only_flag b _ h = absurd (false≢true h)

pub that_flag : (b : Bool) (t : Tree) → t ≡ boolean b → is_flag b t ≡ true
that_flag b t e = ap (is_flag b) e ∙ equal-refl (boolean b)

pub only_null : (t : Tree) → is_null t ≡ true → t ≡ null
only_null null h = refl
only_null _ h = absurd (false≢true h)

pub that_null : (t : Tree) → t ≡ null → is_null t ≡ true
that_null t e = ap is_null e
