-- The string that the reader reads from a line between quotes.
use Rattle.std.proofs.Common.{◌≡◌, [], ◌∷◌, ◌++◌, Some, None, Result, Ok, Err, length, refl, sym, ap, subst, ◌∙◌, arith}
use Rattle.std.specs.Prelude.{IsUtf8, ◌↔◌}
use Rattle.std.proofs.lemmas.Bool.{false≢true}
use Rattle.std.proofs.lemmas.List.{append-nil, length-append}
use Rattle.fhir_json.specs.declared.fault.JsonFault.{JsonFault}
use Rattle.fhir_json.specs.declared.fault.JsonFault.TheVariants.{NotUtf8, Syntax, RepeatedName, LoneSurrogate, TooDeep, Trailing, NoMemory}
use Rattle.fhir_json.specs.declared.refusal.Refusal.{Refusal}
use Rattle.fhir_json.specs.Tree.{Text, Tree, string}
use Rattle.fhir_json.specs.Fields.{as_text}
use Rattle.fhir_json.specs.Strings.{IsText}
use Rattle.fhir_json.specs.Grammar.{AreBlanks}
use Rattle.fhir_json.specs.Memory.{IsFault}
use Rattle.fhir_json.specs.Reading.{◌>>=◌, under, after_blanks, is_no_memory, reading, text_at, string_at, value_at, tree_at, tree_at_end, without_place}
use Rattle.fhir_json.proofs.Marks.{placed_text}
use Rattle.fhir_json.proofs.Takes.{blanks_stand, text_stands}
use Rattle.fhir_json.proofs.Again.{text_again}
use Rattle.fhir_vouching.specs.Given.{string_read, line_text}

-- the line between quotes
abbrev quoted : Text → Text
quoted line = 34 ∷ (line ++ 34 ∷ [])

-- what is read of it: it begins with no mark
read_between : (line : Text) → IsUtf8 (quoted line) → reading (quoted line) ≡ without_place (tree_at (quoted line))
unfolding reading
read_between line u = ap without_place (placed_text (quoted line) u)

-- where a tree is read, the string is that in it
found : (r : Result Tree Refusal) (t : Tree) → without_place r ≡ Ok t → as_text t ≡ string_read r
found (Ok u) t e = let same : u ≡ t = cc in ap as_text (sym same)
found (Err d) t e = absurd cc

-- where none is, there is no string
missing : (r : Result Tree Refusal) (fault : JsonFault) → without_place r ≡ Err fault → None ≡ string_read r
missing (Ok u) fault e = absurd cc
missing (Err d) fault e = refl

-- the text of a line, where a tree is read of the line between quotes
pub string_found : (line bs : Text) (t : Tree) → bs ≡ quoted line → IsUtf8 bs → reading bs ≡ Ok t → as_text t ≡ line_text line
string_found line bs t is u e =
    found (tree_at (quoted line)) t (sym (read_between line (subst IsUtf8 is u)) ∙ sym (ap reading is) ∙ e)

-- a fault that isn't want of memory is the reader's
is_answer : (fault : JsonFault) (answer : Result Tree JsonFault) → (fault ≡ NoMemory → ⊥) → IsFault (is_no_memory fault) fault answer
    → answer ≡ Err fault
is_answer NotUtf8 answer other e = e
is_answer Syntax answer other e = e
is_answer RepeatedName answer other e = e
is_answer LoneSurrogate answer other e = e
is_answer TooDeep answer other e = e
is_answer Trailing answer other e = e
is_answer NoMemory answer other e = absurd (other refl)

-- the same, where none is
pub string_missing : (line bs : Text) (fault : JsonFault) → bs ≡ quoted line → IsUtf8 bs → (fault ≡ NoMemory → ⊥)
    → IsFault (is_no_memory fault) fault (reading bs) → None ≡ line_text line
string_missing line bs fault is u other e =
    missing (tree_at (quoted line)) fault
    (sym (read_between line (subst IsUtf8 is u)) ∙ sym (ap reading is) ∙ is_answer fault (reading bs) other e)

-- ---- what the string is

-- a string, and then the end
abbrev to_end : Result (Text × Text) Refusal → Result Tree Refusal
to_end r = under string r >>= λ t. tree_at_end t.0 (after_blanks t.1)

-- that is what is read of a line between quotes
at_string : (line : Text) → tree_at (quoted line) ≡ to_end (text_at (length (line ++ 34 ∷ [])) (line ++ 34 ∷ []))
unfolding tree_at value_at string_at
at_string line = refl

-- no blanks end in a quote
no_quote : (line : Text) → AreBlanks (line ++ 34 ∷ []) → ⊥
no_quote [] h = false≢true h.0
no_quote (x ∷ line) h = no_quote line h.1

-- where nothing but blanks stands behind a quote, it is the last of a text that ends in a quote
last_quote : (line v after : Text) → line ++ 34 ∷ [] ≡ v ++ 34 ∷ after → AreBlanks after → line ≡ v
last_quote [] [] after e h = refl
last_quote [] (w ∷ v) after e h = absurd (omega (arith, ap length e, length-append v (34 ∷ after)))
last_quote (x ∷ line) [] after e h = let rest : after ≡ line ++ 34 ∷ [] = cc in absurd (no_quote line (subst AreBlanks rest h))
last_quote (x ∷ line) (w ∷ v) after e h =
    let first : x ≡ w = cc in
    let rest : line ++ 34 ∷ [] ≡ v ++ 34 ∷ after = cc in
    λ i. first i ∷ last_quote line v after rest h i

-- the string that is read is that whose inside the line is
string_is : (line text : Text) → line_text line ≡ Some text → IsText line text
string_is line text e = go (text_at (length body) body) refl (sym (ap string_read (at_string line)) ∙ e)
  where
    body : Text
    body = line ++ 34 ∷ []

    at_end : (s after b : Text) → text_at (length body) body ≡ Ok (s, after) → after_blanks after ≡ b
        → string_read (tree_at_end (string s) b) ≡ Some text → IsText line text
    at_end s after [] is none e =
        let same : s ≡ text = cc in
        let stands = text_stands (length body) body s after is in
        let blanks = blanks_stand after in
        let are : AreBlanks after = subst AreBlanks (sym (blanks.1 ∙ ap (λ w. blanks.0 ++ w) none ∙ append-nil blanks.0)) blanks.2 in
        subst (IsText line) same (subst (λ v. IsText v s) (sym (last_quote line stands.0 after stands.1 are)) stands.2)
    at_end s after (b ∷ bs) is some e = absurd cc

    go : (r : Result (Text × Text) Refusal) → text_at (length body) body ≡ r → string_read (to_end r) ≡ Some text → IsText line text
    go (Ok p) is e = at_end p.0 p.1 (after_blanks p.1) is refl e
    go (Err d) is e = absurd cc

-- and the other way round
string_of : (line text : Text) → IsText line text → line_text line ≡ Some text
string_of line text h =
    ap string_read (at_string line) ∙ ap (λ r. string_read (to_end r)) (text_again h (length (line ++ 34 ∷ [])) [] (omega arith))

-- the text of a line is the string whose inside it is
pub strings : (line text : Text) → (line_text line ≡ Some text) ↔ IsText line text
strings line text = (string_is line text, string_of line text)
