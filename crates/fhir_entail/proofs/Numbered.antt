-- Expressions that have one number are equal, and what has a number keeps it.
use Rattle.std.proofs.Common.{◌≡◌, ◌<◌, ℕ, ◌+◌, Bool, true, false, cond, ◌&&◌, Option, None, Some, option_map, IsTrue, refl, sym, ap, subst, ◌∙◌, inl, inr, ◌⊎◌, arith, nat_eq, eq-eqb}
use Rattle.std.specs.BTreeMap.{is_at, btree_map_len}
use Rattle.std.specs.Option.{option_and_then}
use Rattle.std.specs.Ordering.{is_eq}
use Rattle.std.specs.Str.{bytes_eq}
use Rattle.std.specs.Cmp.{both_tied, unsigned_tied}
use Rattle.std.specs.Cmp.Lexicographic.{texts_ties}
use Rattle.std.proofs.lemmas.Bool.{and_parts, eqb-true}
use Rattle.std.proofs.lemmas.Option.{none-some, same_Some}
use Rattle.std.proofs.lemmas.Slice.Eq.{bytes_eq-Decides}
use Rattle.fhir_fp_syntax.specs.Expression.{Expression, nothing, boolean, number, text, this, resource, context, name, child, call, typed, filtered, binary}
use Rattle.fhir_entail.specs.Same.{operator_number, function_number, filter_number, test_number}
use Rattle.fhir_entail.specs.declared.numbers.Form.{Form}
use Rattle.fhir_entail.specs.declared.numbers.Form.TheVariants as forms
use Rattle.fhir_entail.specs.declared.numbers.Shape.{Shape}
use Rattle.fhir_entail.specs.contracts.numbers.FormOrd.TheImpl as order
use Rattle.fhir_entail.specs.contracts.numbers.ShapeOrd.TheImpl.{cmp-value}
use Rattle.fhir_entail.specs.Numbers.{form_of, word_of, text_of, boolean_number, shape_of, seen, Shapes, number_at, number_by, parts_in, number_in, Extends, AreApart}
use Rattle.fhir_entail.proofs.Alike.{one_operator, one_function, one_filter, one_test}

-- ---- shapes that compare as equal are one

abbrev same_form : Form → Form → Bool
same_form f g = is_eq (order.cmp-value.it f g)

one_form : (f g : Form) → IsTrue (same_form f g) → f ≡ g
one_form forms.Empty forms.Empty h = refl
one_form forms.Boolean forms.Boolean h = refl
one_form forms.Number forms.Number h = refl
one_form forms.Text forms.Text h = refl
one_form forms.This forms.This h = refl
one_form forms.Resource forms.Resource h = refl
one_form forms.Context forms.Context h = refl
one_form forms.Name forms.Name h = refl
one_form forms.Child forms.Child h = refl
one_form forms.Call forms.Call h = refl
one_form forms.Typed forms.Typed h = refl
one_form forms.Filtered forms.Filtered h = refl
one_form forms.Binary forms.Binary h = refl
one_form f g h = absurd cc

itself_form : (f : Form) → IsTrue (same_form f f)
itself_form forms.Empty = refl
itself_form forms.Boolean = refl
itself_form forms.Number = refl
itself_form forms.Text = refl
itself_form forms.This = refl
itself_form forms.Resource = refl
itself_form forms.Context = refl
itself_form forms.Name = refl
itself_form forms.Child = refl
itself_form forms.Call = refl
itself_form forms.Typed = refl
itself_form forms.Filtered = refl
itself_form forms.Binary = refl

abbrev same_shape : Shape → Shape → Bool
same_shape s t =
    same_form s.form t.form
    && (nat_eq s.word t.word && (bytes_eq s.text.now t.text.now && (nat_eq s.first t.first && nat_eq s.second t.second)))

compared : (s t : Shape) → same_shape s t ≡ is_at (cmp-value.it s) t
compared s t =
    both_tied _ _ _ _ refl
    (both_tied _ _ _ _ (sym (unsigned_tied s.word t.word))
    (both_tied _ _ _ _ (texts_ties s.text.now t.text.now)
    (both_tied _ _ _ _ (sym (unsigned_tied s.first t.first)) (sym (unsigned_tied s.second t.second)))))

one_shape : (s t : Shape) → is_at (cmp-value.it s) t ≡ true → seen s ≡ seen t
one_shape s t h =
    let p = and_parts (same_form s.form t.form) _ (compared s t ∙ h) in
    let q = and_parts (nat_eq s.word t.word) _ p.1 in
    let r = and_parts (bytes_eq s.text.now t.text.now) _ q.1 in
    let u = and_parts (nat_eq s.first t.first) _ r.1 in
    let form = one_form s.form t.form p.0 in
    let word = eqb-true s.word t.word q.0 in
    let same = (bytes_eq-Decides s.text.now t.text.now).0 r.0 in
    let first = eqb-true s.first t.first u.0 in
    let second = eqb-true s.second t.second u.1 in
    λ i. record { form = form i; word = word i; text = record { ref_ptr = (0, 0); now = same i }; first = first i; second = second i }

number_seen : (m : Shapes) (s t : Shape) → seen s ≡ seen t → number_at m s ≡ number_at m t
number_seen m s t h = ap (number_at m) h

-- ---- one shape more

module _ (old new : Shapes) (k : Shape) (absent : number_at old (seen k) ≡ None)
    (updates : (q : Shape) → number_at new q ≡ cond (is_at (cmp-value.it k) q) (Some (btree_map_len old)) (number_at old q)) where
  other : (q : Shape) (j : ℕ) → number_at old q ≡ Some j → is_at (cmp-value.it k) q ≡ false
  other q j h = go (is_at (cmp-value.it k) q) refl
    where
      go : (b : Bool) → is_at (cmp-value.it k) q ≡ b → is_at (cmp-value.it k) q ≡ false
      go false is = is
      go true is = absurd (none-some _ (sym absent ∙ number_seen old k q (one_shape k q is) ∙ h))

  pub put_extends : Extends old new
  put_extends q j h = updates q ∙ ap (λ b. cond b (Some (btree_map_len old)) (number_at old q)) (other q j h) ∙ h

  -- the shape has its number, or another that it had
  either : (q : Shape) (j : ℕ) → number_at new q ≡ Some j
      → ((is_at (cmp-value.it k) q ≡ true) × (j ≡ btree_map_len old)) ⊎ (number_at old q ≡ Some j)
  either q j h = go (is_at (cmp-value.it k) q) refl
    where
      go : (b : Bool) → is_at (cmp-value.it k) q ≡ b
          → ((is_at (cmp-value.it k) q ≡ true) × (j ≡ btree_map_len old)) ⊎ (number_at old q ≡ Some j)
      go true is = inl (is, sym (same_Some (btree_map_len old) j (ap (λ b. cond b (Some (btree_map_len old)) (number_at old q)) (sym is) ∙ sym (updates q) ∙ h)))
      go false is = inr (ap (λ b. cond b (Some (btree_map_len old)) (number_at old q)) (sym is) ∙ sym (updates q) ∙ h)

  module _ (longer : btree_map_len new ≡ btree_map_len old + 1) (before : AreApart old) where
    below : (q : Shape) (j : ℕ) → number_at new q ≡ Some j → j < btree_map_len new
    below q j h =
        elim (either q j h) [
          | inl here ↦ let e : j ≡ btree_map_len old = here.1 in omega arith
          | inr there ↦ let lt = before.below q j there in omega arith
        ]

    one : (s t : Shape) (j : ℕ) → number_at new s ≡ Some j → number_at new t ≡ Some j → seen s ≡ seen t
    one s t j p q =
        elim (either s j p) [
          | inl here ↦
              elim (either t j q) [
                | inl also ↦ sym (one_shape k s here.0) ∙ one_shape k t also.0
                | inr there ↦ let lt = before.below t j there in let e : j ≡ btree_map_len old = here.1 in absurd (omega arith)
              ]
          | inr there ↦
              elim (either t j q) [
                | inl also ↦ let lt = before.below s j there in let e : j ≡ btree_map_len old = also.1 in absurd (omega arith)
                | inr too ↦ before.one s t j there too
              ]
        ]

    pub put_apart : AreApart new
    put_apart = record { below = below; one = one }

-- ---- what has a number keeps it

and_then_some : {A B : Type 0} (g : A → Option B) (o : Option A) (k : B) → option_and_then g o ≡ Some k → (a : A) × (o ≡ Some a) × (g a ≡ Some k)
and_then_some g (Some a) k h = (a, refl, h)
and_then_some g None k h = absurd (none-some k h)

pub and_then_is : {A B : Type 0} (g : A → Option B) (o : Option A) (a : A) → o ≡ Some a → option_and_then g o ≡ g a
and_then_is g o a h = ap (option_and_then g) h

map_some : {A B : Type 0} (g : A → B) (o : Option A) (k : B) → option_map g o ≡ Some k → (a : A) × (o ≡ Some a) × (g a ≡ k)
map_some g (Some a) k h = (a, refl, same_Some (g a) k h)
map_some g None k h = absurd (none-some k h)

module _ (m n : Shapes) (more : Extends m n) where
  pub keeps_by : (e : Expression) (p : ℕ × ℕ) (o : Option (ℕ × ℕ)) → o ≡ Some p → (k : ℕ) → number_at m (shape_of e p) ≡ Some k → number_by n e o ≡ Some k
  keeps_by e p o is k h = and_then_is (λ q. number_at n (shape_of e q)) o p is ∙ more (shape_of e p) k h

  -- what is so of a part
  abbrev pub Keeps : Expression → Type 0
  Keeps a = (p : ℕ × ℕ) → parts_in m a ≡ Some p → parts_in n a ≡ Some p

  number_kept : (e : Expression) → Keeps e → (k : ℕ) → number_in m e ≡ Some k → number_in n e ≡ Some k
  number_kept e parts k h =
      let q = and_then_some (λ p. number_at m (shape_of e p)) (parts_in m e) k h in
      keeps_by e q.0 (parts_in n e) (parts q.0 q.1) k q.2

  one_kept : (a : Expression) → Keeps a → (p : ℕ × ℕ) → option_map (λ i. (i, 0)) (number_in m a) ≡ Some p → option_map (λ i. (i, 0)) (number_in n a) ≡ Some p
  one_kept a parts p h =
      let q = map_some (λ i. (i, 0)) (number_in m a) p h in
      ap (option_map (λ i. (i, 0))) (number_kept a parts q.0 q.1) ∙ ap Some q.2

  two_kept : (a b : Expression) → Keeps a → Keeps b → (p : ℕ × ℕ) → option_and_then (λ i. option_map (λ j. (i, j)) (number_in m b)) (number_in m a) ≡ Some p
      → option_and_then (λ i. option_map (λ j. (i, j)) (number_in n b)) (number_in n a) ≡ Some p
  two_kept a b first second p h =
      let q = and_then_some (λ i. option_map (λ j. (i, j)) (number_in m b)) (number_in m a) p h in
      let r = map_some (λ j. (q.0, j)) (number_in m b) p q.2 in
      ap (option_and_then (λ i. option_map (λ j. (i, j)) (number_in n b))) (number_kept a first q.0 q.1)
      ∙ ap (option_map (λ j. (q.0, j))) (number_kept b second r.0 r.1)
      ∙ ap Some r.2

  pub keeps_parts : (e : Expression) → Keeps e
  keeps_parts (child a s) p h = one_kept a (keeps_parts a) p h
  keeps_parts (call f a) p h = one_kept a (keeps_parts a) p h
  keeps_parts (typed f a s) p h = one_kept a (keeps_parts a) p h
  keeps_parts (filtered f a b) p h = two_kept a b (keeps_parts a) (keeps_parts b) p h
  keeps_parts (binary f a b) p h = two_kept a b (keeps_parts a) (keeps_parts b) p h
  keeps_parts nothing p h = h
  keeps_parts (boolean b) p h = h
  keeps_parts (number s) p h = h
  keeps_parts (text s) p h = h
  keeps_parts this p h = h
  keeps_parts resource p h = h
  keeps_parts context p h = h
  keeps_parts (name s) p h = h

  pub keeps : (e : Expression) (k : ℕ) → number_in m e ≡ Some k → number_in n e ≡ Some k
  keeps e = number_kept e (keeps_parts e)

  -- two parts of which one got its number first
  pub two_put : (a b : Expression) (i j : ℕ) → number_in m a ≡ Some i → number_in n b ≡ Some j
      → option_and_then {U = ℕ × ℕ} (λ i. option_map (λ j. (i, j)) (number_in n b)) (number_in n a) ≡ Some (i, j)
  two_put a b i j h k = ap (option_and_then {U = ℕ × ℕ} (λ i. option_map (λ j. (i, j)) (number_in n b))) (keeps a i h) ∙ ap (option_map (λ j. (i, j))) k

-- ---- those of one number are equal

same_boolean_number : (a b : Bool) → boolean_number a ≡ boolean_number b → a ≡ b
same_boolean_number true true h = refl
same_boolean_number false false h = refl
same_boolean_number true false h = absurd (omega (arith, h))
same_boolean_number false true h = absurd (omega (arith, h))

module _ (m : Shapes) (apart : AreApart m) where
  -- what two expressions of one number have in common
  same : (e f : Expression) (k : ℕ) → number_in m e ≡ Some k → number_in m f ≡ Some k
      → (p : ℕ × ℕ) × (parts_in m e ≡ Some p) × (parts_in m f ≡ Some p) × (form_of e ≡ form_of f) × (word_of e ≡ word_of f) × (text_of e ≡ text_of f)
  same e f k g h =
      let q = and_then_some (λ p. number_at m (shape_of e p)) (parts_in m e) k g in
      let r = and_then_some (λ p. number_at m (shape_of f p)) (parts_in m f) k h in
      let shapes = apart.one (shape_of e q.0) (shape_of f r.0) k q.2 r.2 in
      let parts : r.0 ≡ q.0 = λ i. ((sym shapes i).first, (sym shapes i).second) in
      (q.0, q.1, r.1 ∙ ap Some parts, ap (λ s. s.form) shapes, ap (λ s. s.word) shapes, ap (λ s. s.text.now) shapes)

  same_forms : (e f : Expression) (k : ℕ) → number_in m e ≡ Some k → number_in m f ≡ Some k → IsTrue (same_form (form_of e) (form_of f))
  same_forms e f k g h = subst (λ x. IsTrue (same_form (form_of e) x)) (same e f k g h).3 (itself_form (form_of e))

  -- one part of each, and the same number for both
  one_part : (a b : Expression) (p : ℕ × ℕ) → option_map (λ i. (i, 0)) (number_in m a) ≡ Some p → option_map (λ i. (i, 0)) (number_in m b) ≡ Some p
      → (i : ℕ) × (number_in m a ≡ Some i) × (number_in m b ≡ Some i)
  one_part a b p g h =
      let q = map_some (λ i. (i, 0)) (number_in m a) p g in
      let r = map_some (λ i. (i, 0)) (number_in m b) p h in
      (q.0, q.1, r.1 ∙ ap Some (ap (λ x. x.0) (r.2 ∙ sym q.2)))

  two_parts : (a c b d : Expression) (p : ℕ × ℕ)
      → option_and_then (λ i. option_map (λ j. (i, j)) (number_in m c)) (number_in m a) ≡ Some p
      → option_and_then (λ i. option_map (λ j. (i, j)) (number_in m d)) (number_in m b) ≡ Some p
      → (i : ℕ) × (number_in m a ≡ Some i) × (number_in m b ≡ Some i) × ((j : ℕ) × (number_in m c ≡ Some j) × (number_in m d ≡ Some j))
  two_parts a c b d p g h =
      let q = and_then_some (λ i. option_map (λ j. (i, j)) (number_in m c)) (number_in m a) p g in
      let r = and_then_some (λ i. option_map (λ j. (i, j)) (number_in m d)) (number_in m b) p h in
      let v = map_some (λ j. (q.0, j)) (number_in m c) p q.2 in
      let w = map_some (λ j. (r.0, j)) (number_in m d) p r.2 in
      let both = w.2 ∙ sym v.2 in
      (q.0, q.1, r.1 ∙ ap Some (ap (λ x. x.0) both), (v.0, v.1, w.1 ∙ ap Some (ap (λ x. x.1) both)))

  equal : (e f : Expression) (k : ℕ) → IsTrue (same_form (form_of e) (form_of f)) → number_in m e ≡ Some k → number_in m f ≡ Some k → e ≡ f
  equal nothing nothing k t g h = refl
  equal (boolean a) (boolean b) k t g h = ap boolean (same_boolean_number a b (same (boolean a) (boolean b) k g h).4)
  equal (number s) (number u) k t g h = ap number (same (number s) (number u) k g h).5
  equal (text s) (text u) k t g h = ap text (same (text s) (text u) k g h).5
  equal this this k t g h = refl
  equal resource resource k t g h = refl
  equal context context k t g h = refl
  equal (name s) (name u) k t g h = ap name (same (name s) (name u) k g h).5
  equal (child a s) (child b u) k t g h =
      let it = same (child a s) (child b u) k g h in
      let p = one_part a b it.0 it.1 it.2 in
      let parts : a ≡ b = equal a b p.0 (same_forms a b p.0 p.1 p.2) p.1 p.2 in
      λ i. child (parts i) (it.5 i)
  equal (call f a) (call o b) k t g h =
      let it = same (call f a) (call o b) k g h in
      let p = one_part a b it.0 it.1 it.2 in
      let parts : a ≡ b = equal a b p.0 (same_forms a b p.0 p.1 p.2) p.1 p.2 in
      let words : f ≡ o = one_function f o (eq-eqb (function_number f) (function_number o) it.4) in
      λ i. call (words i) (parts i)
  equal (typed f a s) (typed o b u) k t g h =
      let it = same (typed f a s) (typed o b u) k g h in
      let p = one_part a b it.0 it.1 it.2 in
      let parts : a ≡ b = equal a b p.0 (same_forms a b p.0 p.1 p.2) p.1 p.2 in
      let words : f ≡ o = one_test f o (eq-eqb (test_number f) (test_number o) it.4) in
      λ i. typed (words i) (parts i) (it.5 i)
  equal (filtered f a c) (filtered o b d) k t g h =
      let it = same (filtered f a c) (filtered o b d) k g h in
      let p = two_parts a c b d it.0 it.1 it.2 in
      let q = p.3 in
      let parts : a ≡ b = equal a b p.0 (same_forms a b p.0 p.1 p.2) p.1 p.2 in
      let more : c ≡ d = equal c d q.0 (same_forms c d q.0 q.1 q.2) q.1 q.2 in
      let words : f ≡ o = one_filter f o (eq-eqb (filter_number f) (filter_number o) it.4) in
      λ i. filtered (words i) (parts i) (more i)
  equal (binary f a c) (binary o b d) k t g h =
      let it = same (binary f a c) (binary o b d) k g h in
      let p = two_parts a c b d it.0 it.1 it.2 in
      let q = p.3 in
      let parts : a ≡ b = equal a b p.0 (same_forms a b p.0 p.1 p.2) p.1 p.2 in
      let more : c ≡ d = equal c d q.0 (same_forms c d q.0 q.1 q.2) q.1 q.2 in
      let words : f ≡ o = one_operator f o (eq-eqb (operator_number f) (operator_number o) it.4) in
      λ i. binary (words i) (parts i) (more i)
  equal e f k t g h = absurd cc

  pub one_expression : (e f : Expression) (k : ℕ) → number_in m e ≡ Some k → number_in m f ≡ Some k → e ≡ f
  one_expression e f k g h = equal e f k (same_forms e f k g h) g h
