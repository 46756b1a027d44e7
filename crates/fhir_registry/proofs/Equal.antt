-- Keys and questions that are equal by their own test.
use Rattle.std.proofs.Common.{◌≡◌, Bool, true, List, [], ◌∷◌, refl, sym, ap, ap₂, ◌∙◌, IsTrue, Vec, rules}
use Rattle.std.proofs.lemmas.Bool.{and_parts, false≢true}
use Rattle.std.proofs.lemmas.Slice.Eq.{bytes_eq-Decides}
use lib.Pointwise.{pointwise}
use Rattle.fhir_commands.specs.contracts.question.QuestionPartialEq.TheImpl as questions
use Rattle.fhir_commands.specs.declared.question.Question.{Question}
use Rattle.fhir_reach.specs.contracts.key.KeyPartialEq.TheImpl.{eq-value}
use Rattle.fhir_reach.specs.declared.key.Key.{Key}
use Rattle.fhir_reach.specs.declared.key.Key.TheVariants.{Url, Code}
use Rattle.fhir_reach.specs.Keys.{KeyValue, of_url, of_code, key_eq, key_seen, keys_seen}
use Rattle.fhir_commands.specs.Commands.{CommandValue, put, remove, validate, derive, asks_same, question_seen}

pub key_eq-true : (p q : KeyValue) → IsTrue (key_eq p q) → p ≡ q
key_eq-true (of_url a) (of_url b) h = ap of_url ((bytes_eq-Decides a b).0 h)
key_eq-true (of_url a) (of_code b) h = absurd (false≢true h)
key_eq-true (of_code a) (of_url b) h = absurd (false≢true h)
key_eq-true (of_code a) (of_code b) h = ap of_code ((bytes_eq-Decides a b).0 h)

pub key_eq-refl : (p : KeyValue) → IsTrue (key_eq p p)
key_eq-refl (of_url a) = (bytes_eq-Decides a a).1 refl
key_eq-refl (of_code a) = (bytes_eq-Decides a a).1 refl

derived_eq : (p q : Key) → eq-value.it p q ≡ key_eq (key_seen p) (key_seen q)
derived_eq (Url a) (Url b) = search rules
derived_eq (Url a) (Code b) = search rules
derived_eq (Code a) (Url b) = search rules
derived_eq (Code a) (Code b) = search rules

same_seen : (ps qs : List Key) → IsTrue (pointwise eq-value.it ps qs) → keys_seen ps ≡ keys_seen qs
same_seen [] [] h = refl
same_seen [] (q ∷ qs) h = absurd (false≢true h)
same_seen (p ∷ ps) [] h = absurd (false≢true h)
same_seen (p ∷ ps) (q ∷ qs) h =
    let parts = and_parts (eq-value.it p q) (pointwise eq-value.it ps qs) h in
    let first : key_seen p ≡ key_seen q = key_eq-true (key_seen p) (key_seen q) (sym (derived_eq p q) ∙ parts.0) in
    ap (λ (k : KeyValue). k ∷ keys_seen ps) first ∙ ap (λ (l : List KeyValue). key_seen q ∷ l) (same_seen ps qs parts.1)

-- the test of keys that a cache makes
abbrev pub starts_eq : {Y : Type 0} → Vec Key Y → Vec Key Y → Bool
starts_eq p q = pointwise eq-value.it p.items q.items

pub same_start : {Y : Type 0} (p q : Vec Key Y) → IsTrue (starts_eq p q) → keys_seen p.items ≡ keys_seen q.items
same_start p q h = same_seen p.items q.items h

-- commands that ask the same are one
pub asks_one : (c d : CommandValue) → asks_same c d ≡ true → c ≡ d
asks_one (put ts) d h = absurd (false≢true h)
asks_one (remove url) d h = absurd (false≢true h)
asks_one (validate profile bytes) (put ts) h = absurd (false≢true h)
asks_one (validate profile bytes) (remove url) h = absurd (false≢true h)
asks_one (validate profile bytes) (derive derived base) h = absurd (false≢true h)
asks_one (validate profile bytes) (validate other others) h =
    let parts = and_parts _ _ h in ap₂ validate ((bytes_eq-Decides profile other).0 parts.0) ((bytes_eq-Decides bytes others).0 parts.1)
asks_one (derive derived base) (put ts) h = absurd (false≢true h)
asks_one (derive derived base) (remove url) h = absurd (false≢true h)
asks_one (derive derived base) (validate profile bytes) h = absurd (false≢true h)
asks_one (derive derived base) (derive other others) h =
    let parts = and_parts _ _ h in ap₂ derive ((bytes_eq-Decides derived other).0 parts.0) ((bytes_eq-Decides base others).0 parts.1)

-- ---- questions

abbrev pub IsQuestionTest : Type 0
IsQuestionTest = (p q : Question) → questions.eq-value.it p q ≡ asks_same (question_seen p) (question_seen q)

pub one_test : IsQuestionTest → (p : Question) → ◌≡◌ {A = Question → Bool} (λ q. questions.eq-value.it p q) (λ q. asks_same (question_seen p) (question_seen q))
one_test is p = λ i q. is p q i

pub one_equality : IsQuestionTest → ◌≡◌ {A = Question → Question → Bool} (λ p q. questions.eq-value.it p q) (λ p q. asks_same (question_seen p) (question_seen q))
one_equality is = λ i p q. is p q i
