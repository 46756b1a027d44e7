-- Pages whose texts are texts.
use Rattle.std.specs.Prelude.{[], ◌∷◌, List, IsUtf8}
use Rattle.fhir_markup.specs.Markup.{AttributeValue, fixed, counted, place, link, labelled_by, Node, Nodes, words, element, none, also}

abbrev pub IsText : AttributeValue → Type 0
IsText (fixed attribute text) = IsUtf8 text
IsText (counted attribute n) = Unit {0}
IsText (place part n) = Unit {0}
IsText (link part n) = Unit {0}
IsText (labelled_by part n) = Unit {0}

abbrev pub AreTexts : List AttributeValue → Type 0
AreTexts [] = Unit {0}
AreTexts (a ∷ xs) = IsText a × AreTexts xs

-- each text of a page, and of the values of its attributes, is in UTF-8
abbrev mutual
  pub HasTexts : Node → Type 0
  HasTexts (words text) = IsUtf8 text
  HasTexts (element tag xs ns) = AreTexts xs × HaveTexts ns

  pub HaveTexts : Nodes → Type 0
  HaveTexts none = Unit {0}
  HaveTexts (also n ns) = HasTexts n × HaveTexts ns
