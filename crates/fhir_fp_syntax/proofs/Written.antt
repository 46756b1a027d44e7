-- Reading a text, in words of the grammar.
use Rattle.std.proofs.Common.{◌≡◌, ◌≤◌, ltb, List, [], ◌∷◌, length, Some, refl, sym, ap, subst, ◌∙◌, inl, inr}
use Rattle.std.proofs.lemmas.Bool.{ltb-false, le-ltb}
use Rattle.fhir_json.specs.Tree.{Text}
use Rattle.fhir_fp_syntax.specs.Expression.{Expression}
use Rattle.fhir_fp_syntax.specs.Words.{Word}
use Rattle.fhir_fp_syntax.specs.Grammar.{Is, max_words, max_nesting}
use Rattle.fhir_fp_syntax.specs.Tokens.{IsSpelled, IsWritten}
use Rattle.fhir_fp_syntax.specs.Parsing.{ended, at_level, expression_at}
use Rattle.fhir_fp_syntax.specs.Lexing.{words_in, unless_many, few_words_in}
use Rattle.fhir_fp_syntax.specs.Reading.{expression_in}
use Rattle.fhir_fp_syntax.proofs.Options.{bind_some, chosen, no_some, some_is}
use Rattle.fhir_fp_syntax.proofs.Stands.{read_stands}
use Rattle.fhir_fp_syntax.proofs.Again.{read_again}
use Rattle.fhir_fp_syntax.proofs.Spelled.{spelled_in}
use Rattle.fhir_fp_syntax.proofs.Lexed.{spelled_again}

-- ---- words

parses : (ts : List Word) (e : Expression) → expression_at ts ≡ Some e → Is max_nesting 9 e ts
unfolding expression_at
parses ts e h = let s = bind_some (at_level max_nesting 9 ts) _ e h in whole s.0 s.1 s.2
  where
    whole : (x : Expression × List Word) → at_level max_nesting 9 ts ≡ Some x → ended x.0 x.1 ≡ Some e → Is max_nesting 9 e ts
    whole (f, []) read k = read_stands max_nesting ts e (read ∙ ap (λ (g : Expression). Some (g, [])) (some_is f e k))
    whole (f, (t ∷ us)) read k = absurd (no_some e k)

parses_again : (ts : List Word) (e : Expression) → Is max_nesting 9 e ts → expression_at ts ≡ Some e
unfolding expression_at
parses_again ts e h = rw (read_again max_nesting e ts h) refl

few : (ts us : List Word) → unless_many ts ≡ Some us → (length us ≤ max_words) × (ts ≡ us)
few ts us h =
    elim (chosen (ltb max_words (length ts)) _ _ _ h) [
      | inl many ↦ absurd (no_some us many.1)
      | inr less ↦
          let same = some_is ts us less.1 in
          (subst (λ (w : List Word). length w ≤ max_words) same (ltb-false max_words (length ts) less.0), same)
    ]

few_again : (ts : List Word) → length ts ≤ max_words → unless_many ts ≡ Some ts
few_again ts h = rw (le-ltb max_words (length ts) h) refl

-- ---- texts

pub written : (s : Text) (e : Expression) → expression_in s ≡ Some e → IsWritten e s
unfolding expression_in
written s e h =
    let o = bind_some (few_words_in s) expression_at e h in
    let w = bind_some (words_in s) unless_many o.0 o.1 in
    let k = few w.0 o.0 w.2 in
    record {
      words = o.0;
      spelled = spelled_in s o.0 (w.1 ∙ ap (λ (v : List Word). Some v) k.1);
      expression = record { few = k.0; spelled = parses o.0 e o.2 };
    }

pub written_again : (s : Text) (e : Expression) → IsWritten e s → expression_in s ≡ Some e
unfolding expression_in
written_again s e h =
    rw (spelled_again s h.words h.spelled, few_again h.words h.expression.few) (parses_again h.words e h.expression.spelled)

pub one_word_list : (s : Text) (ts us : List Word) → IsSpelled ts s → IsSpelled us s → ts ≡ us
one_word_list s ts us h k = some_is ts us (sym (spelled_again s ts h) ∙ spelled_again s us k)

pub one_expression : (s : Text) (e f : Expression) → IsWritten e s → IsWritten f s → e ≡ f
one_expression s e f h k = some_is e f (sym (written_again s e h) ∙ written_again s f k)
