-- How sections are put in, one behind the other.
use Rattle.std.proofs.Common.{◌≡◌, ◌<◌, ◌+◌, ◌∙◌, ℕ, suc, List, [], ◌∷◌, ◌++◌, length, drop, get_or, codes, refl, sym, ap, subst, append_assoc, append-nil, arith}
use Rattle.std.proofs.lemmas.List.{length-append, drop_more}
use Rattle.fhir_audit.specs.declared.verdict.Audited.{Audited}
use Rattle.fhir_audit.specs.Auditing.{AuditedValue}
use Rattle.fhir_audit.specs.Views.{audited_seen, all_audited}
use Rattle.fhir_markup.specs.Markup.{Node, Nodes, element, none, also, and_last, with_child}
use Rattle.fhir_markup.specs.declared.names.Tag.TheVariants.{Div}
use Rattle.fhir_page_frame.specs.Frame.{classed}
use Rattle.fhir_page.specs.Page.{IsSection, AreSections, AreTold}

one_more : (k : ℕ) (done : List AuditedValue) (told : AuditedValue) (ns : Nodes) (s : Node) → AreSections k done ns
    → IsSection (k + length done) told s → AreSections k (done ++ told ∷ []) (and_last ns s)
one_more k [] told none s are is = let on : k + 0 ≡ k = omega arith in (subst (λ (n : ℕ). IsSection n told s) on is, tt)
one_more k [] told (also n ns) s are is = absurd are
one_more k (d ∷ done) told none s are is = absurd are
one_more k (d ∷ done) told (also n ns) s are is =
    let on : k + suc (length done) ≡ suc k + length done = omega arith in
    (are.0, one_more (suc k) done told ns s are.1 (subst (λ (m : ℕ). IsSection m told s) on is))

-- the sections that are there, with those that are still to come
pub record SoFar (number : ℕ) (coming all : List AuditedValue) (n : Node) : Type 0 where
  pub done : List AuditedValue
  pub count : length done ≡ number
  pub are_all : done ++ coming ≡ all
  pub are_told : AreTold done n

pub started : (all : List AuditedValue) (n : Node) → n ≡ element Div (classed (codes "profiles")) none → SoFar 0 all all n
started all n is = record { done = []; count = refl; are_all = refl; are_told = record { sections = none; is = is; are = tt } }

continued : (number : ℕ) (told : AuditedValue) (coming all : List AuditedValue) (n s m : Node) → SoFar number (told ∷ coming) all n
    → IsSection number told s → m ≡ with_child n s → SoFar (number + 1) coming all m
continued number told coming all n s m far is grown =
    let so_many : length (far.done ++ told ∷ []) ≡ length far.done + 1 = length-append far.done (told ∷ []) in
    let here : number ≡ 0 + length far.done = omega (arith, far.count) in
    record {
      done = far.done ++ told ∷ [];
      count = omega (arith, far.count, so_many);
      are_all = append_assoc far.done (told ∷ []) coming ∙ far.are_all;
      are_told = record {
        sections = and_last far.are_told.sections s;
        is = grown ∙ ap (λ (x : Node). with_child x s) far.are_told.is;
        are = one_more 0 far.done told far.are_told.sections s far.are_told.are (subst (λ (k : ℕ). IsSection k told s) here is);
      };
    }

-- what is still to come begins with the one at the place
next_told : (xs : List Audited) (i : ℕ) (x : Audited) → i < length xs → x ≡ get_or xs i x
    → all_audited (drop i xs) ≡ audited_seen x ∷ all_audited (drop (i + 1) xs)
next_told xs i x h is =
    ap all_audited (drop_more xs i x h) ∙ ap (λ (y : Audited). audited_seen y ∷ all_audited (drop (i + 1) xs)) (sym is)

pub onward : (xs : List Audited) (i : ℕ) (x : Audited) (n s m : Node) → i < length xs → x ≡ get_or xs i x
    → SoFar i (all_audited (drop i xs)) (all_audited xs) n → IsSection i (audited_seen x) s → m ≡ with_child n s
    → SoFar (i + 1) (all_audited (drop (i + 1) xs)) (all_audited xs) m
onward xs i x n s m h is far section grown =
    continued i (audited_seen x) (all_audited (drop (i + 1) xs)) (all_audited xs) n s m
    (subst (λ (l : List AuditedValue). SoFar i l (all_audited xs) n) (next_told xs i x h is) far) section grown

pub ended : (number : ℕ) (all : List AuditedValue) (n : Node) → SoFar number [] all n → AreTold all n
ended number all n far = subst (λ (ds : List AuditedValue). AreTold ds n) (sym (append-nil far.done) ∙ far.are_all) far.are_told
