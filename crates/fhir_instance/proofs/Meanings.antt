-- What the name of a property means, where no two forms spell one.
use Rattle.std.proofs.Common.{◌≡◌, ℕ, zero, suc, ◌+◌, Bool, true, false, not, ◌||◌, List, [], ◌∷◌, map, refl, sym, ap, ◌∙◌, subst, Option, None, Some, is_some, IsTrue, arith}
use Rattle.std.proofs.lemmas.Bool.{and_parts}
use Rattle.std.proofs.lemmas.Slice.Eq.{bytes_eq-Decides}
use Rattle.std.specs.Option.{option_and_then}
use Rattle.std.specs.List.{list_any, filter, slice_get}
use Rattle.std.specs.Map.{lookup}
use Rattle.std.specs.Str.{bytes_eq}
use Rattle.fhir_json.specs.Tree.{Text}
use Rattle.fhir_json.specs.Sound.{is_among, differ}
use Rattle.fhir_forms.specs.declared.form.Property.{Property}
use Rattle.fhir_forms.specs.Forms.{Form, is_primitive, companion_name, spells, spellings_from, property_of, are_apart}
use Rattle.fhir_instance.specs.Typing.{is_of_role}
use Rattle.fhir_instance.specs.Spelled.{where_of_role}
use Rattle.fhir_instance.specs.declared.role.ObjectRole.{ObjectRole}

-- ---- texts

pub same_text : (a b : Text) → bytes_eq a b ≡ true → a ≡ b
same_text a b e = (bytes_eq-Decides a b).0 e

turned_true : (a b : Text) → bytes_eq a b ≡ true → bytes_eq b a ≡ true
turned_true a b e = (bytes_eq-Decides b a).1 (sym (same_text a b e))

turned_false : (a b : Text) → (v : Bool) → bytes_eq b a ≡ v → bytes_eq a b ≡ false → v ≡ false
turned_false a b false at e = refl
turned_false a b true at e = sym (turned_true b a at) ∙ e

pub turned : (a b : Text) → (v : Bool) → bytes_eq a b ≡ v → bytes_eq b a ≡ v
turned a b true e = turned_true a b e
turned a b false e = turned_false a b (bytes_eq b a) refl e

or_none : (a b : Bool) → (a || b) ≡ false → (a ≡ false) × (b ≡ false)
or_none true b e = absurd cc
or_none false b e = (refl, e)

not_none : (a : Bool) → IsTrue (not a) → a ≡ false
not_none true h = absurd cc
not_none false h = refl

-- ---- the names that forms spell

-- where some form spells the name, it is among their names
pub among_spelled : (n : ℕ) (fs : List Form) (x : Text) → is_among x (map (λ e. e.0) (spellings_from n fs)) ≡ list_any (λ f. spells f x) fs
among_spelled n [] x = refl
among_spelled n (f ∷ fs) x = go (is_primitive f.content) refl (among_spelled (suc n) fs x)
  where
    third : (a b c d : Bool) → c ≡ d → (a || (b || c)) ≡ ((a || b) || d)
    third true b c d e = refl
    third false b c d e = ap (λ v. b || v) e

    second : (a c d : Bool) → c ≡ d → (a || c) ≡ ((a || false) || d)
    second true c d e = refl
    second false c d e = e

    go : (p : Bool) → is_primitive f.content ≡ p → is_among x (map (λ e. e.0) (spellings_from (suc n) fs)) ≡ list_any (λ f. spells f x) fs
        → is_among x (map (λ e. e.0) (spellings_from n (f ∷ fs))) ≡ list_any (λ f. spells f x) (f ∷ fs)
    go true is ih = rw is (third (bytes_eq x f.property) (bytes_eq x (companion_name f)) _ _ ih)
    go false is ih = rw is (second (bytes_eq x f.property) _ _ ih)

abbrev pub IsApart : ℕ → List Form → Type 0
IsApart n fs = IsTrue (differ (map (λ e. e.0) (spellings_from n fs)))

-- ---- one form in front of the others

-- the first form spells no name of the others, and they are apart
apart_parts : (n : ℕ) (f : Form) (fs : List Form) → IsApart n (f ∷ fs)
    → ((x : Text) → spells f x ≡ true → list_any (λ g. spells g x) fs ≡ false) × IsApart (suc n) fs
apart_parts n f fs h = go (is_primitive f.content) refl
  where
    none : (x y : Text) (b : Bool) → is_among y (map (λ e. e.0) (spellings_from (suc n) fs)) ≡ false → bytes_eq x y ≡ true
        → list_any (λ g. spells g x) fs ≡ false
    none x y b e is =
        sym (among_spelled (suc n) fs x) ∙ subst (λ (z : Text). is_among z (map (λ e. e.0) (spellings_from (suc n) fs)) ≡ false) (sym (same_text x y is)) e

    either : (x : Text) (a b : Bool) → bytes_eq x f.property ≡ a → bytes_eq x (companion_name f) ≡ b → (a || b) ≡ true
        → is_among f.property (map (λ e. e.0) (spellings_from (suc n) fs)) ≡ false
        → is_among (companion_name f) (map (λ e. e.0) (spellings_from (suc n) fs)) ≡ false → list_any (λ g. spells g x) fs ≡ false
    either x true b a_is b_is s p c = none x f.property true p a_is
    either x false true a_is b_is s p c = none x (companion_name f) true c b_is
    either x false false a_is b_is s p c = absurd cc

    only : (x : Text) (a : Bool) → bytes_eq x f.property ≡ a → (a || false) ≡ true → is_among f.property (map (λ e. e.0) (spellings_from (suc n) fs)) ≡ false
        → list_any (λ g. spells g x) fs ≡ false
    only x true a_is s p = none x f.property true p a_is
    only x false a_is s p = absurd cc

    go : (p : Bool) → is_primitive f.content ≡ p → ((x : Text) → spells f x ≡ true → list_any (λ g. spells g x) fs ≡ false) × IsApart (suc n) fs
    go true is =
        let parts = and_parts (not (is_among f.property (companion_name f ∷ map (λ e. e.0) (spellings_from (suc n) fs)))) _ (rw is at h) in
        let more = and_parts (not (is_among (companion_name f) (map (λ e. e.0) (spellings_from (suc n) fs)))) _ parts.1 in
        let own = or_none (bytes_eq f.property (companion_name f)) _ (not_none _ parts.0) in
        (λ x s. either x (bytes_eq x f.property) (bytes_eq x (companion_name f)) refl refl (rw is at s) own.1 (not_none _ more.0), more.1)
    go false is =
        let parts = and_parts (not (is_among f.property (map (λ e. e.0) (spellings_from (suc n) fs)))) _ (rw is at h) in
        (λ x s. only x (bytes_eq x f.property) refl (rw is at s) (not_none _ parts.0), parts.1)

-- what a form means by a name that it spells
abbrev pub meant : ℕ → Form → Text → Property
meant n f x = record { form = n; is_companion = not (bytes_eq x f.property) }

-- a name that the first form spells, and one that it doesn't
spelled_here : (n : ℕ) (f : Form) (fs : List Form) (x : Text) → spells f x ≡ true → lookup (bytes_eq x) (spellings_from n (f ∷ fs)) ≡ Some (meant n f x)
spelled_here n f fs x s = go (is_primitive f.content) refl (bytes_eq x f.property) refl (bytes_eq x (companion_name f)) refl
  where
    go : (p : Bool) → is_primitive f.content ≡ p → (a : Bool) → bytes_eq x f.property ≡ a → (b : Bool) → bytes_eq x (companion_name f) ≡ b
        → lookup (bytes_eq x) (spellings_from n (f ∷ fs)) ≡ Some (meant n f x)
    go true p_is true a_is b b_is = rw (p_is, a_is) refl
    go true p_is false a_is true b_is = rw (p_is, a_is, b_is) refl
    go true p_is false a_is false b_is = absurd (let e = rw (p_is, a_is, b_is) at s in cc)
    go false p_is true a_is b b_is = rw (p_is, a_is) refl
    go false p_is false a_is b b_is = absurd (let e = rw (p_is, a_is) at s in cc)

spelled_later : (n : ℕ) (f : Form) (fs : List Form) (x : Text) → spells f x ≡ false
    → lookup (bytes_eq x) (spellings_from n (f ∷ fs)) ≡ lookup (bytes_eq x) (spellings_from (suc n) fs)
spelled_later n f fs x s = go (is_primitive f.content) refl (bytes_eq x f.property) refl (bytes_eq x (companion_name f)) refl
  where
    go : (p : Bool) → is_primitive f.content ≡ p → (a : Bool) → bytes_eq x f.property ≡ a → (b : Bool) → bytes_eq x (companion_name f) ≡ b
        → lookup (bytes_eq x) (spellings_from n (f ∷ fs)) ≡ lookup (bytes_eq x) (spellings_from (suc n) fs)
    go p p_is true a_is b b_is = absurd (let e = rw a_is at s in cc)
    go true p_is false a_is true b_is = absurd (let e = rw (p_is, a_is, b_is) at s in cc)
    go true p_is false a_is false b_is = rw (p_is, a_is, b_is) refl
    go false p_is false a_is b b_is = rw (p_is, a_is) refl

-- ---- the forms of a list

-- a form of the list that spells the name
pub any_at : (test : Form → Bool) (fs : List Form) (d : ℕ) (f : Form) → slice_get fs d ≡ Some f → test f ≡ true → list_any test fs ≡ true
any_at test [] d f e s = absurd cc
any_at test (g ∷ fs) zero f e s = let same : g ≡ f = cc in rw (ap test same ∙ s) refl
any_at test (g ∷ fs) (suc d) f e s = go (test g) (any_at test fs d f e s)
  where
    go : (b : Bool) → list_any test fs ≡ true → (b || list_any test fs) ≡ true
    go true h = refl
    go false h = h

pub find_form : (test : Form → Bool) (fs : List Form) → list_any test fs ≡ true → (d : ℕ) × (f : Form) × (slice_get fs d ≡ Some f) × (test f ≡ true)
find_form test [] h = absurd cc
find_form test (g ∷ fs) h = go (test g) refl (λ e. find_form test fs e)
  where
    go : (b : Bool) → test g ≡ b → (list_any test fs ≡ true → (d : ℕ) × (f : Form) × (slice_get fs d ≡ Some f) × (test f ≡ true))
        → (d : ℕ) × (f : Form) × (slice_get (g ∷ fs) d ≡ Some f) × (test f ≡ true)
    go true is later = (0, g, refl, is)
    go false is later = let r = later (rw is at h) in (suc r.0, r.1, r.2, r.3)

-- the first form that spells a name is the one, where they are apart
pub means_form : (n : ℕ) (fs : List Form) (x : Text) (d : ℕ) (f : Form) → IsApart n fs → slice_get fs d ≡ Some f → spells f x ≡ true
    → lookup (bytes_eq x) (spellings_from n fs) ≡ Some (meant (n + d) f x)
means_form n [] x d f h e s = absurd cc
means_form n (g ∷ fs) x zero f h e s =
    let same : g ≡ f = cc in
    let sum : n + 0 ≡ n = omega arith in
    rw (sum, ← same) (spelled_here n g fs x (ap (λ (k : Form). spells k x) same ∙ s))
means_form n (g ∷ fs) x (suc d) f h e s = go (spells g x) refl (means_form (suc n) fs x d f (apart_parts n g fs h).1 e s)
  where
    go : (b : Bool) → spells g x ≡ b → lookup (bytes_eq x) (spellings_from (suc n) fs) ≡ Some (meant (suc n + d) f x)
        → lookup (bytes_eq x) (spellings_from n (g ∷ fs)) ≡ Some (meant (n + suc d) f x)
    go true is later =
        let none = (apart_parts n g fs h).0 x is in
        let some = any_at (λ k. spells k x) fs d f e s in absurd cc
    go false is later =
        let sum : n + suc d ≡ suc n + d = omega arith in
        spelled_later n g fs x is ∙ later ∙ ap (λ (k : ℕ). Some (meant k f x)) (sym sum)

-- what is found is some form's
pub form_meant : (n : ℕ) (fs : List Form) (x : Text) (p : Property) → lookup (bytes_eq x) (spellings_from n fs) ≡ Some p
    → (d : ℕ) × (f : Form) × (slice_get fs d ≡ Some f) × (spells f x ≡ true) × (p ≡ meant (n + d) f x)
form_meant n [] x p e = absurd cc
form_meant n (g ∷ fs) x p e = go (spells g x) refl (λ k. form_meant (suc n) fs x p k)
  where
    go : (b : Bool) → spells g x ≡ b → (lookup (bytes_eq x) (spellings_from (suc n) fs) ≡ Some p
        → (d : ℕ) × (f : Form) × (slice_get fs d ≡ Some f) × (spells f x ≡ true) × (p ≡ meant (suc n + d) f x))
        → (d : ℕ) × (f : Form) × (slice_get (g ∷ fs) d ≡ Some f) × (spells f x ≡ true) × (p ≡ meant (n + d) f x)
    go true is later =
        let sum : n + 0 ≡ n = omega arith in
        let here = spelled_here n g fs x is in
        (0, g, refl, is, (let same : p ≡ meant n g x = cc in same ∙ ap (λ (k : ℕ). meant k g x) (sym sum)))
    go false is later =
        let r = later (sym (spelled_later n g fs x is) ∙ e) in
        let sum : suc n + r.0 ≡ n + suc r.0 = omega arith in
        (suc r.0, r.1, r.2, r.3, r.4 ∙ ap (λ (k : ℕ). meant k r.1 x) sum)

-- ---- those of one role

of_role_at : (role : ObjectRole) (x : Text) (fs : List Form) (d : ℕ) (f : Form) → slice_get fs d ≡ Some f → is_of_role role f ≡ true → spells f x ≡ true
    → list_any (λ g. spells g x) (filter (is_of_role role) fs) ≡ true
of_role_at role x [] d f e q s = absurd cc
of_role_at role x (g ∷ fs) zero f e q s =
    let same : g ≡ f = cc in rw (ap (is_of_role role) same ∙ q, ap (λ (k : Form). spells k x) same ∙ s) refl
of_role_at role x (g ∷ fs) (suc d) f e q s = go (is_of_role role g) refl (spells g x) refl (of_role_at role x fs d f e q s)
  where
    go : (a : Bool) → is_of_role role g ≡ a → (b : Bool) → spells g x ≡ b → list_any (λ g. spells g x) (filter (is_of_role role) fs) ≡ true
        → list_any (λ g. spells g x) (filter (is_of_role role) (g ∷ fs)) ≡ true
    go true a_is true b_is h = rw (a_is, b_is) refl
    go true a_is false b_is h = rw (a_is, b_is) h
    go false a_is b b_is h = rw a_is h

find_of_role : (role : ObjectRole) (x : Text) (fs : List Form) → list_any (λ g. spells g x) (filter (is_of_role role) fs) ≡ true
    → (d : ℕ) × (f : Form) × (slice_get fs d ≡ Some f) × (is_of_role role f ≡ true) × (spells f x ≡ true)
find_of_role role x [] h = absurd cc
find_of_role role x (g ∷ fs) h = go (λ e. let r = find_of_role role x fs e in (suc r.0, r.1, r.2, r.3, r.4)) (is_of_role role g) refl (spells g x) refl
  where
    go : (list_any (λ g. spells g x) (filter (is_of_role role) fs) ≡ true
        → (d : ℕ) × (f : Form) × (slice_get (g ∷ fs) d ≡ Some f) × (is_of_role role f ≡ true) × (spells f x ≡ true)) → (a : Bool) → is_of_role role g ≡ a
        → (b : Bool) → spells g x ≡ b → (d : ℕ) × (f : Form) × (slice_get (g ∷ fs) d ≡ Some f) × (is_of_role role f ≡ true) × (spells f x ≡ true)
    go later true a_is true b_is = (0, g, refl, a_is, b_is)
    go later true a_is false b_is = later (rw (a_is, b_is) at h)
    go later false a_is b b_is = later (rw a_is at h)

-- a form of the role means the names that it spells
pub role_means : (role : ObjectRole) (fs : List Form) (x : Text) (d : ℕ) (f : Form) → IsTrue (are_apart fs) → slice_get fs d ≡ Some f → is_of_role role f ≡ true
    → spells f x ≡ true → option_and_then (where_of_role role fs) (property_of fs x) ≡ Some (meant d f x)
role_means role fs x d f h e q s =
    let sum : 0 + d ≡ d = omega arith in
    let found = means_form 0 fs x d f h e s ∙ ap (λ (k : ℕ). Some (meant k f x)) sum in
    rw (found, e, q) refl

-- what a name means is a form of the role
pub meant_of_role : (role : ObjectRole) (fs : List Form) (x : Text) (p : Property) → option_and_then (where_of_role role fs) (property_of fs x) ≡ Some p
    → (f : Form) × (slice_get fs p.form ≡ Some f) × (is_of_role role f ≡ true) × (spells f x ≡ true) × (p ≡ meant p.form f x)
meant_of_role role fs x p e = go (property_of fs x) refl e
  where
    role_of : (b : Bool) (q : Property) (f : Form) → is_of_role role f ≡ b → slice_get fs q.form ≡ Some f → spells f x ≡ true → q ≡ meant q.form f x
        → where_of_role role fs q ≡ Some p → (f : Form) × (slice_get fs p.form ≡ Some f) × (is_of_role role f ≡ true) × (spells f x ≡ true) ×
        (p ≡ meant p.form f x)
    role_of true q f is at s q_is e =
        let e2 : Some q ≡ Some p = sym (rw (at, is) refl) ∙ e in
        let same : q ≡ p = cc in
        (f, ap (λ (k : Property). slice_get fs k.form) (sym same) ∙ at, is, s, sym same ∙ q_is ∙ ap (λ (k : Property). meant k.form f x) same)
    role_of false q f is at s q_is e =
        let e2 : None ≡ Some p = sym (rw (at, is) refl) ∙ e in absurd cc

    go : (o : Option Property) → property_of fs x ≡ o → option_and_then (where_of_role role fs) o ≡ Some p
        → (f : Form) × (slice_get fs p.form ≡ Some f) × (is_of_role role f ≡ true) × (spells f x ≡ true) × (p ≡ meant p.form f x)
    go None is e = absurd cc
    go (Some q) is e =
        let r = form_meant 0 fs x q is in
        let sum : 0 + r.0 ≡ r.0 = omega arith in
        let q_is : q ≡ meant r.0 r.1 x = r.4 ∙ ap (λ (k : ℕ). meant k r.1 x) sum in
        let at : slice_get fs q.form ≡ Some r.1 = ap (λ (k : Property). slice_get fs k.form) q_is ∙ r.2 in
        role_of (is_of_role role r.1) q r.1 refl at r.3 (q_is ∙ ap (λ (k : Property). meant k.form r.1 x) (sym q_is)) e

-- a name means something where some form of the role spells it
pub property_meant_found : (role : ObjectRole) (fs : List Form) (x : Text) → IsTrue (are_apart fs)
    → is_some (option_and_then (where_of_role role fs) (property_of fs x)) ≡ list_any (λ f. spells f x) (filter (is_of_role role) fs)
property_meant_found role fs x h = go (list_any (λ f. spells f x) (filter (is_of_role role) fs)) refl (option_and_then (where_of_role role fs) (property_of fs x)) refl
  where
    go : (b : Bool) → list_any (λ f. spells f x) (filter (is_of_role role) fs) ≡ b → (o : Option Property)
        → option_and_then (where_of_role role fs) (property_of fs x) ≡ o → is_some o ≡ b
    go true is (Some p) o_is = refl
    go true is None o_is =
        let r = find_of_role role x fs is in
        let e = role_means role fs x r.0 r.1 h r.2 r.3 r.4 in absurd cc
    go false is None o_is = refl
    go false is (Some p) o_is =
        let r = meant_of_role role fs x p o_is in
        let e = of_role_at role x fs p.form r.0 r.1 r.2 r.3 in absurd cc
