-- What is read is what is written.
use Rattle.std.proofs.Common.{◌≡◌, ◌∙◌, ap, sym, ◌↔◌, subst, List, ℕ, true, Some}
use Rattle.std.specs.Prelude.{is_some, IsSome}
use Rattle.fhir_prims.specs.Order.{Fields}
use Rattle.fhir_prims.specs.Reading.{fields_of}
use Rattle.fhir_prims.specs.Written.{Written, text_of, is_possible, Says, IsSaid}
use Rattle.fhir_prims.proofs.Said.{all_read}
use Rattle.fhir_prims.proofs.Found.{all_written}
use Rattle.fhir_prims.proofs.Once.{says_once}

said : (s : List ℕ) (f : Fields) → fields_of s ≡ Some f → IsSaid s f
said s f read =
    let found = all_written s f read in
    let there = all_read found.written found.possible in
    let same : Some there.fields ≡ Some f = sym there.read ∙ ap fields_of found.text ∙ read in
    let one : there.fields ≡ f = cc in
    record { written = found.written; possible = found.possible; text = found.text; says = subst (Says found.written) one there.says }

heard : (s : List ℕ) (f : Fields) → IsSaid s f → fields_of s ≡ Some f
heard s f is =
    let there = all_read is.written is.possible in
    ap fields_of (sym is.text) ∙ there.read ∙ ap Some (says_once is.written there.fields f there.says is.says)

pub as_written : (s : List ℕ) (f : Fields) → (fields_of s ≡ Some f) ↔ IsSaid s f
as_written s f = (said s f, heard s f)

pub every : (w : Written) → is_possible w ≡ true → IsSome (fields_of (text_of w))
every w is = ap is_some (all_read w is).read
