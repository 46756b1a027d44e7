-- Pieces that pages are made of, and what stands around the content of a page.
use Rattle.std.specs.Prelude.{◌≡◌, ℕ, List, [], ◌∷◌, drop, codes}
use Rattle.fhir_json.specs.Tree.{Text}
use Rattle.fhir_markup.specs.Markup.{AttributeValue, fixed, Node, Nodes, words, element, none, also}
use Rattle.fhir_markup.specs.declared.names.Tag.{Tag}
use Rattle.fhir_markup.specs.declared.names.Tag.TheVariants as tags
use Rattle.fhir_markup.specs.declared.names.AttributeName.{AttributeName}
use Rattle.fhir_markup.specs.declared.names.AttributeName.TheVariants.{Charset, HttpEquiv, Content, Name, Class, Lang, Role, Tabindex}

abbrev pub classed : Text → List AttributeValue
classed class = fixed Class class ∷ []

-- an element with a text in it
abbrev pub saying : Tag → List AttributeValue → Text → Node
saying tag xs text = element tag xs (also (words text) none)

-- a term and what is said of it
abbrev pub term_group : (class term said : Text) → Node
term_group class term said = element tags.Div (classed class) (also (saying tags.Dt [] term) (also (saying tags.Dd [] said) none))

-- a place that is scrolled in itself, and that keys lead to
abbrev pub region : AttributeValue → Nodes → Node
region named_by ns =
    element tags.Div (fixed Class (codes "scroll") ∷ fixed Role (codes "region") ∷ fixed Tabindex (codes "0") ∷ named_by ∷ []) ns

-- ---- short names

-- a text ends so
abbrev pub IsEnd : (text end : Text) → Type 0
IsEnd text end = (n : ℕ) × (end ≡ drop n text)

-- ---- a page

-- what says a thing of a page
abbrev pub said_of : AttributeName → (value content : Text) → Node
said_of name value content = element tags.Meta (fixed name value ∷ fixed Content content ∷ []) none

-- a head: the page is in UTF-8, is under a policy, fits its window, and has a title and a style
abbrev pub head_of : (title policy style : Text) → Node
head_of title policy style =
    element tags.Head []
    (also (element tags.Meta (fixed Charset (codes "utf-8") ∷ []) none)
    (also (said_of HttpEquiv (codes "Content-Security-Policy") policy)
    (also (said_of Name (codes "viewport") (codes "width=device-width, initial-scale=1"))
    (also (saying tags.Title [] title) (also (saying tags.Style [] style) none)))))

-- a head, and a body with a content
abbrev pub framed : (head content : Node) → Node
framed head content = element tags.Html (fixed Lang (codes "en") ∷ []) (also head (also (element tags.Body [] (also content none)) none))

-- a page of a title and a content, under some policy and in some style
pub record IsPageOf (title : Text) (content page : Node) : Type 0 where
  pub policy : Text
  pub style : Text
  pub is : page ≡ framed (head_of title policy style) content
