-- Replies to a list of commands, one more at a time.
use Rattle.std.proofs.Common.{◌≡◌, Option, Result, Ok, Err, OnErr, List, [], ◌∷◌, ◌++◌, refl, sym, subst, ap, ◌∙◌, append_assoc, append-nil}
use Rattle.fhir_json.specs.Tree.{Text}
use Rattle.fhir_package.specs.Definitions.{Definitions}
use Rattle.fhir_commands.specs.Commands.{CommandValue}
use Rattle.fhir_commands.specs.Replies.{ReplyValue}
use Rattle.fhir_registry.specs.Session.{after, after_all, IsReplyBy, AreRepliesBy}

module _ (texts : Option (List Text)) where
  -- The first of the commands were carried out and are replied to, and these others are left.
  pub record Runs (p : Definitions) (cs : List CommandValue) (rs : List ReplyValue) (q : Definitions) (others : List CommandValue) : Type 0 where
    -- behind these replies, any that are replies to the others are replies to all
    pub replied : (more : List ReplyValue) → AreRepliesBy texts q others more → AreRepliesBy texts p cs (rs ++ more)
    pub first : List CommandValue
    pub split : cs ≡ first ++ others
    pub left : q ≡ after_all first p

  pub begins : (p : Definitions) (cs others : List CommandValue) (rs : List ReplyValue) → rs ≡ [] → others ≡ cs → Runs p cs rs p others
  begins p cs others rs none all =
      subst (λ (l : List ReplyValue). Runs p cs l p others) (sym none) (subst (λ (l : List CommandValue). Runs p cs [] p l) (sym all) start)
    where
      start : Runs p cs [] p cs
      start = record { replied = λ more those. those; first = []; split = refl; left = refl }

  after_snoc : (cs : List CommandValue) (c : CommandValue) (p : Definitions) → after_all (cs ++ c ∷ []) p ≡ after c (after_all cs p)
  after_snoc [] c p = refl
  after_snoc (x ∷ cs) c p = after_snoc cs c (after x p)

  one_more : (p q : Definitions) (cs others : List CommandValue) (rs : List ReplyValue) (c : CommandValue) (r : ReplyValue)
      → Runs p cs rs q (c ∷ others) → IsReplyBy texts q c r → Runs p cs (rs ++ r ∷ []) (after c q) others
  one_more p q cs others rs c r run is = record {
    replied = λ more those. subst (AreRepliesBy texts p cs) (sym (append_assoc rs (r ∷ []) more)) (run.replied (r ∷ more) (r, more, refl, is, those));
    first = run.first ++ c ∷ [];
    split = run.split ∙ sym (append_assoc run.first (c ∷ []) others);
    left = ap (after c) run.left ∙ sym (after_snoc run.first c p);
  }

  pub goes_on : (p q next : Definitions) (cs others rest : List CommandValue) (rs more : List ReplyValue) (c : CommandValue) (r : ReplyValue)
      → Runs p cs rs q others → others ≡ c ∷ rest → more ≡ rs ++ r ∷ [] → next ≡ after c q → IsReplyBy texts q c r → Runs p cs more next rest
  goes_on p q next cs others rest rs more c r run begun grown carried is =
      subst (λ (l : List ReplyValue). Runs p cs l next rest) (sym grown)
      (subst (λ (d : Definitions). Runs p cs (rs ++ r ∷ []) d rest) (sym carried)
      (one_more p q cs rest rs c r (subst (Runs p cs rs q) begun run) is))

  pub all_replied : (p q : Definitions) (cs others : List CommandValue) (rs : List ReplyValue) → Runs p cs rs q others → others ≡ []
      → AreRepliesBy texts p cs rs
  all_replied p q cs others rs run none =
      subst (AreRepliesBy texts p cs) (append-nil rs) (run.replied [] (subst (λ (l : List CommandValue). AreRepliesBy texts q l []) (sym none) refl))

  pub all_carried : (p q : Definitions) (cs others : List CommandValue) (rs : List ReplyValue) → Runs p cs rs q others → others ≡ []
      → q ≡ after_all cs p
  all_carried p q cs others rs run none =
      run.left
      ∙ ap (λ (l : List CommandValue). after_all l p) (sym (run.split ∙ ap (λ (l : List CommandValue). run.first ++ l) none ∙ append-nil run.first))

  pub some_carried : (p q last : Definitions) (cs others : List CommandValue) (rs : List ReplyValue) → Runs p cs rs q others → last ≡ q
      → (first : List CommandValue) × (rest : List CommandValue) × (cs ≡ first ++ rest) × (last ≡ after_all first p)
  some_carried p q last cs others rs run same = (run.first, others, run.split, same ∙ run.left)

pub on_err : {A E P : Type 0} (r : Result A E) → P → OnErr r P
on_err (Ok x) h = tt
on_err (Err e) h = h
