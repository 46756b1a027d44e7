-- What `counter` prints is judged as it says.
use Rattle.std.proofs.Common.{◌≡◌, ℕ, ◌++◌, inl, inr, true, false, List, [], ◌∷◌, Option, None, is_some, Result, Ok, Err, codes, eqb, ap, sym, ◌∙◌, refl, subst, append_assoc, arith}
use Rattle.std.specs.Prelude.{IsSome}
use Rattle.std.proofs.lemmas.Bool.{false≢true}
use Rattle.std.proofs.lemmas.Str.{IsUtf8-append, IsUtf8-from_ascii}
use Rattle.std.proofs.lemmas.Str.Ascii.{IsAscii-nil, IsAscii-cons}
use Rattle.fhir_json.specs.Bytes.{line_feed}
use Rattle.fhir_json.specs.Tree.{Text, Tree}
use Rattle.fhir_json.specs.Grammar.{AreBlanks, Padded, Spells, mark, IsTextOf, Reads}
use Rattle.fhir_schema.specs.Schemas.{SchemaValue, root}
use Rattle.fhir_conformance.specs.Conformance.{Interpretation, Conforms, constant}
use Rattle.fhir_validator.specs.declared.fault.Fault.{Fault}
use Rattle.fhir_validator.specs.declared.verdict.Verdict.{Verdict}
use Rattle.fhir_validator.specs.declared.verdict.Verdict.TheVariants as verdicts
use Rattle.fhir_counter.specs.Shows.{Shows}
use Rattle.fhir_replies.specs.Deriving.{Derivation, derives, fails, missing, unusable, IsDerivationOf}
use Rattle.fhir_replies.specs.Standing.{Stands}
use Rattle.fhir_answers.specs.Answering.{IsAnswered}
use Rattle.fhir_answers.specs.Replying.{ReplyValue, status_of, out_of, counter_reply}
use Rattle.fhir_answers.specs.Showing.{IsCounterReply}
use Rattle.answer_laws.proofs.Certificates.{no_at}
use Rattle.fhir_derive_check.proofs.Rooted.{both-roots}
use Rattle.answer_laws.proofs.Standings.{no_fault, number, its_status}

-- ---- a text with a line feed behind it

blanks_more : (bs : List ℕ) → AreBlanks bs → AreBlanks (bs ++ codes "\n")
blanks_more [] all = (refl, tt)
blanks_more (b ∷ bs) all = (all.0, blanks_more bs all.1)

padded_more : (t : Tree) (bs : List ℕ) → Padded (Spells t) bs → Padded (Spells t) (bs ++ codes "\n")
padded_more t bs p = (
  p.0,
  p.1,
  p.2 ++ codes "\n",
  ap (λ (l : List ℕ). l ++ codes "\n") p.3 ∙ append_assoc p.0 (p.1 ++ p.2) (codes "\n")
      ∙ ap (λ (l : List ℕ). p.0 ++ l) (append_assoc p.1 p.2 (codes "\n")),
  p.4,
  p.5,
  blanks_more p.2 p.6,
)

text_more : (t : Tree) (bs : List ℕ) → IsTextOf t bs → IsTextOf t (bs ++ codes "\n")
text_more t bs (inl p) = inl (padded_more t bs p)
text_more t bs (inr m) =
    inr (m.0 ++ codes "\n", ap (λ (l : List ℕ). l ++ codes "\n") m.1 ∙ append_assoc mark m.0 (codes "\n"), padded_more t m.0 m.2)

reads_more : (t : Tree) (bs : List ℕ) → Reads bs t → Reads (bs ++ codes "\n") t
reads_more t bs r =
    record {
      utf8 = IsUtf8-append bs (codes "\n") r.utf8 (IsUtf8-from_ascii (codes "\n") (IsAscii-cons line_feed [] (omega arith) IsAscii-nil));
      text = text_more t bs r.text;
      sound = r.sound;
      shallow = r.shallow;
    }

-- ---- the two profiles

record HaveRoots (s : SchemaValue) (derived base : Text) : Type 0 where
  of_derived : IsSome (root s derived)
  of_base : IsSome (root s base)

roots_by : (s : SchemaValue) (derived base : Text) (found : Option Text) (d : Derivation) → IsDerivationOf s derived base d
    → status_of (counter_reply s [] derived base found d) ≡ 1 → HaveRoots s derived base
roots_by s derived base found (derives c) h e = absurd (false≢true (ap (eqb 1) e))
roots_by s derived base found (fails pair rule) h e =
    let both = both-roots (root s derived) (root s base) h.0.roots h.0.are_roots in
    record { of_derived = ap is_some both.0; of_base = ap is_some both.1 }
roots_by s derived base found (missing side) h e = absurd (false≢true (ap (eqb 1) e))
roots_by s derived base found (unusable side) h e = absurd (false≢true (ap (eqb 1) e))

-- ---- how it is judged

module _ (one : (bytes : Text) (t u : Tree) → Reads bytes t → Reads bytes u → t ≡ u) (s : SchemaValue) (profile bytes : Text) (t : Tree) (reads : Reads bytes t)
    (rooted : IsSome (root s profile)) where
  conforming : ((meaning : Interpretation) → Conforms s meaning profile t) → (v : Result Verdict Fault) → Stands s profile bytes v → number s profile bytes v ≡ 0
  conforming always (Ok verdicts.Conforms) h = refl
  conforming always (Ok (verdicts.Violates issues)) h =
      absurd (h.2 (constant false) (subst (Conforms s (constant false) profile) (one bytes t h.0 reads h.1) (always (constant false))))
  conforming always (Ok (verdicts.Open sites)) h =
      absurd (h.2.0 (subst (Conforms s (constant false) profile) (one bytes t h.0 reads h.1) (always (constant false))))
  conforming always (Err fault) h = absurd (no_fault s profile bytes fault h t reads rooted)

  violating : ((meaning : Interpretation) → ¬ Conforms s meaning profile t) → (v : Result Verdict Fault) → Stands s profile bytes v → number s profile bytes v ≡ 1
  violating never (Ok verdicts.Conforms) h =
      absurd (never (constant false) (subst (Conforms s (constant false) profile) (one bytes h.0 t h.1 reads) (h.2.0 (constant false))))
  violating never (Ok (verdicts.Violates issues)) h = refl
  violating never (Ok (verdicts.Open sites)) h =
      absurd (h.2.1 (λ holds. never (constant true) (subst (Conforms s (constant true) profile) (one bytes h.0 t h.1 reads) holds)))
  violating never (Err fault) h = absurd (no_fault s profile bytes fault h t reads rooted)

module _ (one : (bytes : Text) (t u : Tree) → Reads bytes t → Reads bytes u → t ≡ u) (s : SchemaValue) (derived base : Text) (shown : ReplyValue)
    (is : IsCounterReply None s [] derived base shown) (status : status_of shown ≡ 1) where
  roots : HaveRoots s derived base
  roots = roots_by s derived base is.found is.derivation is.is_derivation (sym (ap status_of is.is_reply) ∙ status)

  reads : (it : (bytes : Text) × (out_of shown ≡ bytes ++ codes "\n") × Shows s derived base bytes) → Reads (out_of shown) it.2.0
  reads it = subst (λ (bytes : List ℕ). Reads bytes it.2.0) (sym it.1) (reads_more it.2.0 it.0 it.2.1)

  pub conforms_shown : (reply : ReplyValue) → IsAnswered s derived (out_of shown) reply → status_of reply ≡ 0
  conforms_shown reply answered =
      let it = no_at s derived base shown is status in
      its_status s derived (out_of shown) reply answered
      ∙ conforming one s derived (out_of shown) it.2.0 (reads it) roots.of_derived it.2.2.0 answered.is_judged.validated answered.is_judged.stands

  pub violates_shown : (reply : ReplyValue) → IsAnswered s base (out_of shown) reply → status_of reply ≡ 1
  violates_shown reply answered =
      let it = no_at s derived base shown is status in
      its_status s base (out_of shown) reply answered
      ∙ violating one s base (out_of shown) it.2.0 (reads it) roots.of_base it.2.3 answered.is_judged.validated answered.is_judged.stands
