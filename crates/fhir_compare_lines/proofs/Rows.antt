-- Members put in one after the other.
use Rattle.std.proofs.Common.{◌≡◌, List, [], ◌∷◌, ◌++◌, ap, ◌∙◌, append_assoc}

pub two : {A : Type 0} (a b c : List A) (x y : A) → b ≡ a ++ x ∷ [] → c ≡ b ++ y ∷ [] → c ≡ a ++ x ∷ y ∷ []
two a b c x y h k = k ∙ ap (λ l. l ++ y ∷ []) h ∙ append_assoc a (x ∷ []) (y ∷ [])

pub two_and_more : {A : Type 0} (a b c d : List A) (x y : A) (more : List A) → b ≡ a ++ x ∷ [] → c ≡ b ++ y ∷ [] → d ≡ c ++ more
    → d ≡ a ++ x ∷ y ∷ more
two_and_more a b c d x y more h k l = l ∙ ap (λ m. m ++ more) (two a b c x y h k) ∙ append_assoc a (x ∷ y ∷ []) more
