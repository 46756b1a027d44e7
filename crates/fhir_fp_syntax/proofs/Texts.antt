-- The text of a string: a plain run, and what may stand behind it.
use Rattle.std.proofs.Common.{inl, inr, ◌≡◌, ℕ, zero, suc, ◌<◌, ◌≤◌, true, List, [], ◌∷◌, ◌++◌, length, get_or, take}
use Rattle.std.proofs.Common.{drop, Option, Some, refl, ap, ◌∙◌, arith}
use Rattle.std.proofs.Math.Numerals.{one-add}
use Rattle.std.specs.List.{prefix_len}
use Rattle.std.proofs.lemmas.Bool.{not-true, not-false, eqb-true, cases_Bool}
use Rattle.std.proofs.lemmas.List.{append-nil}
use Rattle.fhir_fp_syntax.specs.Answers.{◌>>=◌}
use Rattle.fhir_fp_syntax.specs.Strings.{is_plain, text_at, escape_at}
use Rattle.fhir_fp_syntax.proofs.Options.{behind_front, front_nil, front_front, front_bind}

pub text_plain : (n b : ℕ) (bs : List ℕ) → is_plain b ≡ true → text_at (suc n) (b ∷ bs) ≡ behind_front (b ∷ []) (text_at n bs)
unfolding text_at
text_plain n b bs h = rw (not-true _ h) refl

pub text_run : (n : ℕ) (bs : List ℕ) → length bs < n
    → (m : ℕ) × (length (drop (prefix_len is_plain bs) bs) < m)
    × (text_at n bs ≡ behind_front (take (prefix_len is_plain bs) bs) (text_at m (drop (prefix_len is_plain bs) bs)))
text_run n [] h = (n, h, front_nil (text_at n []))
text_run zero (b ∷ bs) h = absurd (omega arith)
text_run (suc n) (b ∷ bs) h =
    elim (cases_Bool (is_plain b)) [
      | inl is ↦
          let later = text_run n bs (omega arith) in (
            later.0,
            rw (is, one-add) later.1,
            rw (is, one-add) (text_plain n b bs is ∙ ap (behind_front (b ∷ [])) later.2 ∙ front_front (b ∷ []) (take (prefix_len is_plain bs) bs) _),
          )
      | inr isnt ↦ (suc n, rw isnt h, rw isnt (front_nil (text_at (suc n) (b ∷ bs))))
    ]

pub text_end : (n : ℕ) (bs : List ℕ) → length bs < n → length bs ≡ 0 → text_at n bs ≡ Some []
unfolding text_at
text_end zero bs h k = absurd (omega arith)
text_end (suc n) [] h k = refl
text_end (suc n) (b ∷ bs) h k = absurd (omega arith)

pub text_escape : (n : ℕ) (bs : List ℕ) → length bs < n → 0 < length bs → get_or bs 0 0 ≡ 92
    → (m : ℕ) × (n ≡ suc m) × (text_at n bs ≡ (escape_at (drop 1 bs) >>= (λ c. behind_front c.0 (text_at m c.1))))
unfolding text_at
text_escape n [] h some e = absurd (omega arith)
text_escape zero (b ∷ bs) h some e = absurd (omega arith)
text_escape (suc n) (b ∷ bs) h some e = (n, refl, rw e refl)

-- a run ends where it ends
pub stops : (bs : List ℕ) → 0 < length (drop (prefix_len is_plain bs) bs) → get_or (drop (prefix_len is_plain bs) bs) 0 0 ≡ 92
stops [] h = absurd (omega arith)
stops (b ∷ bs) h =
    elim (cases_Bool (is_plain b)) [
      | inl is ↦ rw (is, one-add) (stops bs (rw (is, one-add) at h))
      | inr isnt ↦ rw isnt (eqb-true b 92 (not-false _ isnt))
    ]

-- ---- a turn of the loop: the text so far, the run of what is left, and what stands at its end

module _ (whole : Option (List ℕ)) (n : ℕ) (rest at out more : List ℕ) (enough : length rest < n)
    (so_far : whole ≡ behind_front out (text_at n rest))
    (at-is : at ≡ drop (prefix_len is_plain rest) rest) (more-is : more ≡ out ++ take (prefix_len is_plain rest) rest) where
  ran : (m : ℕ) × (length at < m) × (whole ≡ behind_front more (text_at m at))
  ran =
      let run = text_run n rest enough in (
        run.0,
        rw at-is run.1,
        so_far ∙ ap (behind_front out) run.2 ∙ front_front out (take (prefix_len is_plain rest) rest) _ ∙ rw (more-is, at-is) refl,
      )

  pub part_end : length at ≡ 0 → whole ≡ Some more
  part_end none = ran.2 ∙ ap (behind_front more) (text_end ran.0 at ran.1 none) ∙ ap (λ (s : List ℕ). Some s) (append-nil more)

  pub part_begins : 0 < length at → get_or at 0 0 ≡ 92
  part_begins some = rw at-is (stops rest (rw at-is at some))

  pub part_escape : 0 < length at → (m : ℕ) × (length at ≤ m) × (whole ≡ (escape_at (drop 1 at) >>= (λ c. behind_front (more ++ c.0) (text_at m c.1))))
  part_escape some =
      let one = text_escape ran.0 at ran.1 some (part_begins some) in (
        one.0,
        omega (arith, one.1, ran.1),
        ran.2 ∙ ap (behind_front more) one.2 ∙ front_bind more (escape_at (drop 1 at)) (text_at one.0),
      )
