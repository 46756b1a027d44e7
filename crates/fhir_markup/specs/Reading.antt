-- How the text of a page is read: with each reference as the character that it stands for (HTML, character references).
use Rattle.std.specs.Prelude.{if◌then◌else◌, ◌==◌, ◌&&◌, ◌∷◌, [], ℕ, zero, suc, Bool, true, false, not, codes}
use Rattle.fhir_json.specs.Tree.{Text}

-- whether a text begins with another
abbrev pub begins : Text → Text → Bool
begins bs [] = true
begins [] (c ∷ cs) = false
begins (b ∷ bs) (c ∷ cs) = b == c && begins bs cs

-- what is read behind so many bytes
abbrev pub read_behind : ℕ → Text → Text
read_behind n [] = []
read_behind (suc n) (b ∷ bs) = read_behind n bs
read_behind zero (b ∷ bs) =
    if not (b == 38) then b ∷ read_behind 0 bs else
    if begins bs (codes "amp;") then 38 ∷ read_behind 4 bs else
    if begins bs (codes "lt;") then 60 ∷ read_behind 3 bs else
    if begins bs (codes "gt;") then 62 ∷ read_behind 3 bs else
    if begins bs (codes "quot;") then 34 ∷ read_behind 5 bs else
    if begins bs (codes "#39;") then 39 ∷ read_behind 4 bs else b ∷ read_behind 0 bs

abbrev pub read : Text → Text
read text = read_behind 0 text
