-- A text that comes in pieces, and how it stands to another.
use Rattle.std.specs.Prelude.{◌≡◌, ◌++◌}
use Rattle.std.specs.Ordering.{nat_cmp}
use Rattle.std.specs.Cmp.Lexicographic.{slice_cmp}
use Rattle.fhir_json.specs.Tree.{Text}
use Rattle.fhir_vouching.specs.declared.progress.Progress.{Progress}
use Rattle.fhir_vouching.specs.declared.progress.Progress.TheVariants.{Left, Decided}

-- what the pieces that have come, `fed` in all, are to a text: its front, behind which this is left; or no front of it,
-- and this is their order
abbrev pub Compares : Progress → Text → Text → Type 0
Compares (Left rest) fed text = text ≡ fed ++ rest.now
Compares (Decided order) fed text = ((rest : Text) → ¬ (text ≡ fed ++ rest)) × (order ≡ slice_cmp nat_cmp fed text)

-- a piece leads from one to the other, whatever had come before it and whatever the text is
abbrev pub Adds : Progress → Text → Progress → Type 0
Adds before piece behind = (fed text : Text) → Compares before fed text → Compares behind (fed ++ piece) text
