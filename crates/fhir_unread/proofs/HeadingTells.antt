-- What a heading tells of a rule.
use Rattle.std.proofs.Common.{◌≡◌, ℕ, Bool, true, List, [], ◌∷◌, ◌++◌, Option, Some, None, ap, ◌∙◌, append_assoc}
use Rattle.std.specs.Prelude.{codes}
use Rattle.std.specs.List.{flat_map}
use Rattle.std.proofs.lemmas.List.Concat.{flat_map-append}
use Rattle.fhir_json.specs.Tree.{Text}
use Rattle.fhir_findings.specs.Carrying.{Carrier}
use Rattle.fhir_lines.specs.Lines.{parts_of, constraint_text, lacks_text, count_text}
use Rattle.fhir_unread.specs.Listing.{heading}

abbrev shown : List Text → Text
shown parts = flat_map (λ part. part ++ codes "; ") parts

keyed : (key : Text) (sentence : Option Text) (more : List Text) (end : Text)
    → (rest : Text) × (shown (parts_of (constraint_text (Some key) sentence) ++ more) ++ end ≡ key ++ rest)
keyed key None more end =
    (codes "; " ++ (shown more ++ end), append_assoc (key ++ codes "; ") (shown more) end ∙ append_assoc key (codes "; ") (shown more ++ end))
keyed key (Some sentence) more end =
    let tail : Text = sentence ++ codes "; " in (
      codes ": " ++ (sentence ++ (codes "; " ++ (shown more ++ end))),
      append_assoc ((key ++ codes ": " ++ sentence) ++ codes "; ") (shown more) end
          ∙ append_assoc (key ++ codes ": " ++ sentence) (codes "; ") (shown more ++ end)
          ∙ append_assoc (key ++ codes ": ") sentence (codes "; " ++ (shown more ++ end))
          ∙ append_assoc key (codes ": ") (sentence ++ (codes "; " ++ (shown more ++ end))),
    )

pub key_first : (c : Carrier) (sentence : Option Text) (key : Text) (n : ℕ) → c.key ≡ Some key → (rest : Text) × (heading c sentence n ≡ key ++ rest)
key_first c sentence key n is =
    let w = keyed key sentence (parts_of (lacks_text c.lacks)) (count_text n) in
    (w.0, ap (λ (k : Option Text). shown (parts_of (constraint_text k sentence) ++ parts_of (lacks_text c.lacks)) ++ count_text n) is ∙ w.1)

worded : (key : Option Text) (sentence : Text) (more : List Text) (end : Text)
    → (before rest : Text) × (shown (parts_of (constraint_text key (Some sentence)) ++ more) ++ end ≡ before ++ (sentence ++ rest))
worded None sentence more end =
    ([], codes "; " ++ (shown more ++ end), append_assoc (sentence ++ codes "; ") (shown more) end ∙ append_assoc sentence (codes "; ") (shown more ++ end))
worded (Some key) sentence more end = (
  key ++ codes ": ",
  codes "; " ++ (shown more ++ end),
  append_assoc ((key ++ codes ": " ++ sentence) ++ codes "; ") (shown more) end
      ∙ append_assoc (key ++ codes ": " ++ sentence) (codes "; ") (shown more ++ end)
      ∙ append_assoc (key ++ codes ": ") sentence (codes "; " ++ (shown more ++ end)),
)

pub sentence_within : (c : Carrier) (sentence : Text) (n : ℕ) → (before rest : Text) × (heading c (Some sentence) n ≡ before ++ (sentence ++ rest))
sentence_within c sentence n = worded c.key sentence (parts_of (lacks_text c.lacks)) (count_text n)

pub lacks_within : (c : Carrier) (sentence : Option Text) (n : ℕ) → c.lacks ≡ true
    → (before rest : Text) × (heading c sentence n ≡ before ++ (codes "the package lacks it" ++ rest))
lacks_within c sentence n is =
    let front : List Text = parts_of (constraint_text c.key sentence) in (
      shown front,
      codes "; " ++ count_text n,
      ap (λ (b : Bool). shown (front ++ parts_of (lacks_text b)) ++ count_text n) is
          ∙ ap (λ (w : Text). w ++ count_text n) (flat_map-append (λ (part : Text). part ++ codes "; ") front (codes "the package lacks it" ∷ []))
          ∙ append_assoc (shown front) (shown (codes "the package lacks it" ∷ [])) (count_text n),
    )
