-- What is kept of known expressions answers as they do.
use Rattle.std.proofs.Common.{◌≡◌, ℕ, Bool, true, false, cond, ◌&&◌, ◌||◌, List, [], ◌∷◌, ◌++◌, Option, None, Some, IsTrue, refl, sym, ap, subst, ◌∙◌, inl, inr, ◌⊎◌}
use Rattle.std.specs.Prelude.{Result, Ok, Err, OnOk}
use Rattle.std.specs.BTreeMap.{is_at}
use Rattle.std.specs.Option.{option_and_then, option_map}
use Rattle.std.specs.Ordering.{nat_cmp}
use Rattle.std.specs.Cmp.{unsigned_tied}
use Rattle.std.proofs.lemmas.Bool.{or_cases, or_left, or_right, false≢true, eqb-true, eq-eqb}
use Rattle.std.proofs.lemmas.List.Folds.{list_any-append}
use Rattle.fhir_fp_syntax.specs.declared.expr.Operator.{Operator}
use Rattle.fhir_fp_syntax.specs.declared.expr.Operator.TheVariants.{And, Or, Xor, Implies}
use Rattle.fhir_fp_syntax.specs.Expression.{Expression, binary}
use Rattle.fhir_entail.specs.Same.{same_expression}
use Rattle.fhir_entail.specs.Total.{joins_truths, is_total_truth}
use Rattle.fhir_entail.specs.Entailment.{is_part, is_listed, entails}
use Rattle.fhir_entail.specs.Numbers.{Shapes, number_by, number_in, Extends, AreApart}
use Rattle.fhir_entail.specs.Known.{is_conjunction, is_and, is_kept, is_found, Knows, is_joined, Weighs, joined_entailed}
use Rattle.fhir_entail.specs.declared.known.Known.{Known}
use Rattle.fhir_entail.specs.declared.known.Weighed.{Weighed}
use Rattle.fhir_entail.proofs.Alike.{one_or_other}
use Rattle.fhir_entail.proofs.Listed.{and_alone, itself_part}
use Rattle.fhir_entail.proofs.Numbered.{keeps, one_expression}

-- two tests are one where each follows from the other
one_test : (a b : Bool) → (IsTrue a → IsTrue b) → (IsTrue b → IsTrue a) → a ≡ b
one_test true b f g = sym (f refl)
one_test false true f g = g refl
one_test false false f g = refl

-- ---- what is found

module _ (k : Known) (known : List Expression) (knows : Knows k known) where
  found_listed : (e : Expression) (o : Option ℕ) → number_in k.numbers.shapes e ≡ o → IsTrue (is_found k o) → IsTrue (is_listed known e)
  found_listed e None is h = absurd (false≢true h)
  found_listed e (Some n) is h =
      let other = knows.only n h in
      subst (λ f. IsTrue (is_listed known f)) (one_expression k.numbers.shapes knows.apart other.0 e n other.1 is) other.2

  pub found : (e : Expression) → is_and e ≡ false → is_found k (number_in k.numbers.shapes e) ≡ is_listed known e
  found e whole =
      one_test (is_found k (number_in k.numbers.shapes e)) (is_listed known e)
      (found_listed e (number_in k.numbers.shapes e) refl) (knows.each e whole)

-- ---- what is put behind the others

-- an expression that is no `and` has one part
one_part : (e f : Expression) → is_and f ≡ false → is_part e f ≡ same_expression f e
one_part e (binary And a b) h = absurd (false≢true (sym h))
one_part e f h = refl

behind : (known : List Expression) (e f : Expression) → is_listed (known ++ f ∷ []) e ≡ (is_listed known e || (is_part e f || false))
behind known e f = list_any-append (is_part e) known (f ∷ [])

more_listed : (known : List Expression) (e f : Expression) → IsTrue (is_listed known e) → IsTrue (is_listed (known ++ f ∷ []) e)
more_listed known e f h = behind known e f ∙ or_left (is_listed known e) _ h

last_listed : (known : List Expression) (e : Expression) → IsTrue (is_listed (known ++ e ∷ []) e)
last_listed known e = behind known e e ∙ or_right (is_listed known e) _ (or_left (is_part e e) false (itself_part e))

kept_found : (k : Known) (o : Option ℕ) (n : ℕ) → o ≡ Some n → IsTrue (is_kept k n) → IsTrue (is_found k o)
kept_found k o n is h = ap (is_found k) is ∙ h

found_kept : (k : Known) (o : Option ℕ) → IsTrue (is_found k o) → (n : ℕ) × (o ≡ Some n) × IsTrue (is_kept k n)
found_kept k None h = absurd (false≢true h)
found_kept k (Some n) h = (n, refl, h)

module _ (old new : Known) (e : Expression) (n : ℕ) (extends : Extends old.numbers.shapes new.numbers.shapes)
    (numbered : number_in new.numbers.shapes e ≡ Some n)
    (kept : (q : ℕ) → is_kept new q ≡ cond (is_at (nat_cmp n) q) true (is_kept old q)) where
  here : IsTrue (is_kept new n)
  here = kept n ∙ ap (λ b. cond b true (is_kept old n)) (unsigned_tied n n ∙ eq-eqb n n refl)

  there : (q : ℕ) → IsTrue (is_kept old q) → IsTrue (is_kept new q)
  there q h = kept q ∙ go (is_at (nat_cmp n) q)
    where
      go : (b : Bool) → IsTrue (cond b true (is_kept old q))
      go true = refl
      go false = h

  either : (q : ℕ) → IsTrue (is_kept new q) → (n ≡ q) ⊎ IsTrue (is_kept old q)
  either q h = go (is_at (nat_cmp n) q) refl
    where
      go : (b : Bool) → is_at (nat_cmp n) q ≡ b → (n ≡ q) ⊎ IsTrue (is_kept old q)
      go true is = inl (eqb-true n q (sym (unsigned_tied n q) ∙ is))
      go false is = inr (ap (λ b. cond b true (is_kept old q)) (sym is) ∙ sym (kept q) ∙ h)

  module _ (whole : is_and e ≡ false) (apart : AreApart old.numbers.shapes → AreApart new.numbers.shapes) (known : List Expression) (knows : Knows old known) where
    each : (f : Expression) → is_and f ≡ false → IsTrue (is_listed (known ++ e ∷ []) f) → IsTrue (is_found new (number_in new.numbers.shapes f))
    each f alone h =
        elim (or_cases (is_listed known f) (is_part f e || false) (sym (behind known f e) ∙ h)) [
          | inl before ↦
              let p = found_kept old (number_in old.numbers.shapes f) (knows.each f alone before) in
              kept_found new (number_in new.numbers.shapes f) p.0 (keeps old.numbers.shapes new.numbers.shapes extends f p.0 p.1) (there p.0 p.2)
          | inr last ↦
              elim (or_cases (is_part f e) false last) [
                | inl same ↦
                    let is : e ≡ f = (one_or_other e f).0 (sym (one_part f e whole) ∙ same) in
                    kept_found new (number_in new.numbers.shapes f) n (ap (number_in new.numbers.shapes) (sym is) ∙ numbered) here
                | inr none ↦ absurd (false≢true none)
              ]
        ]

    only : (q : ℕ) → IsTrue (is_kept new q) → (f : Expression) × (number_in new.numbers.shapes f ≡ Some q) × IsTrue (is_listed (known ++ e ∷ []) f)
    only q h =
        elim (either q h) [
          | inl is ↦ (e, numbered ∙ ap Some is, last_listed known e)
          | inr before ↦
              let p = knows.only q before in
              (p.0, keeps old.numbers.shapes new.numbers.shapes extends p.0 q p.1, more_listed known p.0 e p.2)
        ]

    pub put_knows : Knows new (known ++ e ∷ [])
    put_knows = record { apart = apart knows.apart; each = each; only = only }

-- the sides of an `and` are as good as it
to_sides : (x p q : Bool) → IsTrue (x || ((p || q) || false)) → IsTrue ((x || (p || false)) || (q || false))
to_sides true p q h = refl
to_sides false true q h = refl
to_sides false false true h = refl
to_sides false false false h = absurd (false≢true h)

to_whole : (x p q s : Bool) → IsTrue ((x || (p || false)) || (q || false)) → IsTrue (x || ((s || (p || q)) || false))
to_whole true p q s h = refl
to_whole false p q true h = refl
to_whole false true q false h = refl
to_whole false false true false h = refl
to_whole false false false false h = absurd (false≢true h)

module _ (a b : Expression) where
  no_whole : (e : Expression) → is_and e ≡ false → same_expression (binary And a b) e ≡ false
  no_whole (binary And c d) h = absurd (false≢true (sym h))
  no_whole e h = refl

  in_sides : (known : List Expression) (e : Expression)
      → is_listed (known ++ a ∷ [] ++ b ∷ []) e ≡ ((is_listed known e || (is_part e a || false)) || (is_part e b || false))
  in_sides known e = behind (known ++ a ∷ []) e b ∙ ap (λ l. l || (is_part e b || false)) (behind known e a)

  in_whole : (known : List Expression) (e : Expression)
      → is_listed (known ++ binary And a b ∷ []) e ≡ (is_listed known e || ((same_expression (binary And a b) e || (is_part e a || is_part e b)) || false))
  in_whole known e = behind known e (binary And a b)

  listed_sides : (known : List Expression) (e : Expression) → is_and e ≡ false → IsTrue (is_listed (known ++ binary And a b ∷ []) e)
      → IsTrue (is_listed (known ++ a ∷ [] ++ b ∷ []) e)
  listed_sides known e alone h =
      in_sides known e
      ∙ to_sides (is_listed known e) (is_part e a) (is_part e b)
      (ap (λ s. is_listed known e || ((s || (is_part e a || is_part e b)) || false)) (sym (no_whole e alone)) ∙ sym (in_whole known e) ∙ h)

  listed_whole : (known : List Expression) (e : Expression) → IsTrue (is_listed (known ++ a ∷ [] ++ b ∷ []) e) → IsTrue (is_listed (known ++ binary And a b ∷ []) e)
  listed_whole known e h =
      in_whole known e
      ∙ to_whole (is_listed known e) (is_part e a) (is_part e b) (same_expression (binary And a b) e) (sym (in_sides known e) ∙ h)

  pub sides_know : (k : Known) (known : List Expression) → Knows k (known ++ a ∷ [] ++ b ∷ []) → Knows k (known ++ binary And a b ∷ [])
  sides_know k known knows = record {
    apart = knows.apart;
    each = λ e alone h. knows.each e alone (listed_sides known e alone h);
    only = λ n h. let p = knows.only n h in (p.0, p.1, listed_whole known p.0 p.2);
  }

-- what is put by its sides
pub one_conjunction : (op : Operator) → is_conjunction op ≡ true → op ≡ And
one_conjunction And h = refl
one_conjunction op h = absurd (false≢true h)

pub both_put : {T E : Type 0} (r : Result T E) (old mid new : Known) (e a b : Expression) → e ≡ binary And a b
    → ((known : List Expression) → Knows old known → Knows mid (known ++ a ∷ []))
    → OnOk r ((known : List Expression) → Knows mid known → Knows new (known ++ b ∷ []))
    → OnOk r ((known : List Expression) → Knows old known → Knows new (known ++ e ∷ []))
both_put (Ok u) old mid new e a b is first second = λ known knows.
    subst (λ (f : Expression). Knows new (known ++ f ∷ [])) (sym is)
    (sides_know a b new known (second (known ++ a ∷ []) (first known knows)))
both_put (Err f) old mid new e a b is first second = tt

-- ---- what is weighed

pub whole_entailed : (k : Known) (e : Expression) → is_joined e ≡ false → (known : List Expression) → Knows k known
    → is_found k (number_in k.numbers.shapes e) ≡ entails known e
whole_entailed k (binary And a b) h known knows = absurd (false≢true (sym h))
whole_entailed k (binary Or a b) h known knows = absurd (false≢true (sym h))
whole_entailed k (binary Implies a b) h known knows = absurd (false≢true (sym h))
whole_entailed k e h known knows = found k known knows e refl

total_joined : (op : Operator) → joins_truths op ≡ true → (a b : Expression) → (is_total_truth a && is_total_truth b) ≡ is_total_truth (binary op a b)
total_joined And h a b = refl
total_joined Or h a b = refl
total_joined Xor h a b = refl
total_joined Implies h a b = refl
total_joined op h a b = absurd (false≢true h)

module _ (k : Known) (l r : Expression) (left right : Weighed) (first : Weighs k l left) (second : Weighs k r right)
    (known : List Expression) (knows : Knows k known) where
  joined : (op : Operator) → joins_truths op ≡ true
      → joined_entailed op (is_found k (number_in k.numbers.shapes (binary op l r))) left right ≡ entails known (binary op l r)
  joined And h = (λ i. first.entailed known knows i && second.entailed known knows i) ∙ and_alone l r known
  joined Or h = λ i.
      found k known knows (binary Or l r) refl i
      || ((first.entailed known knows i && second.total i) || (second.entailed known knows i && first.total i))
  joined Xor h = found k known knows (binary Xor l r) refl
  joined Implies h = λ i. found k known knows (binary Implies l r) refl i || (second.entailed known knows i && first.total i)
  joined op h = absurd (false≢true h)

-- the number of what joins two, by those of the two
pub number_joined : (m : Shapes) (e l r : Expression) (op : Operator) (n first second : Option ℕ)
    → n ≡ number_by m e (option_and_then {U = ℕ × ℕ} (λ i. option_map (λ j. (i, j)) second) first) → e ≡ binary op l r
    → first ≡ number_in m l → second ≡ number_in m r → n ≡ number_in m (binary op l r)
number_joined m e l r op n first second by is left right =
    by ∙ (λ i. number_by m (is i) (option_and_then {U = ℕ × ℕ} (λ x. option_map (λ y. (x, y)) (right i)) (left i)))

pub weighs_joined : (k : Known) (op : Operator) (l r : Expression) (n : Option ℕ) (left right : Weighed) (total entailed : Bool)
    → joins_truths op ≡ true → n ≡ number_in k.numbers.shapes (binary op l r) → Weighs k l left → Weighs k r right
    → (left.is_total && right.is_total) ≡ total → entailed ≡ joined_entailed op (is_found k n) left right
    → Weighs k (binary op l r) (record { number = n; is_entailed = entailed; is_total = total })
weighs_joined k op l r n left right total entailed joins is first second all by = record {
  number = is;
  total = sym all ∙ (λ i. first.total i && second.total i) ∙ total_joined op joins l r;
  entailed = λ known knows.
      by ∙ ap (λ o. joined_entailed op (is_found k o) left right) is ∙ joined k l r left right first second known knows op joins;
}
