-- The page of an audit: a section on each profile, in order.
use Rattle.std.specs.Prelude.{◌≡◌, ℕ, suc, List, [], ◌∷◌, codes}
use Rattle.fhir_json.specs.Tree.{Text}
use Rattle.fhir_audit.specs.Auditing.{AuditedValue}
use Rattle.fhir_audit_words.specs.Words.{verdict_word}
use Rattle.fhir_markup.specs.Markup.{fixed, place, Node, Nodes, element, none, also}
use Rattle.fhir_markup.specs.declared.names.Tag.TheVariants as tags
use Rattle.fhir_markup.specs.declared.names.AttributeName.TheVariants.{Class}
use Rattle.fhir_markup.specs.declared.names.Part.TheVariants.{Profile}
use Rattle.fhir_page_frame.specs.Frame.{classed, saying, framed}

-- ---- a section

-- the line of its url
abbrev pub url_line : Text → Node
url_line url = element tags.P (classed (codes "url")) (also (saying tags.Code [] url) none)

-- the line that begins with its verdict
abbrev pub verdict_line : (class word : Text) → Nodes → Node
verdict_line class word more = element tags.P (classed (codes "says")) (also (saying tags.Strong (classed class) word) more)

-- a profile's section, by the profile's number: a name, its url, its verdict as a word, and the rest
abbrev pub section_of : ℕ → (name url class word : Text) → Nodes → Node → Node
section_of number name url class word more rest =
    element tags.Section (fixed Class (codes "profile") ∷ place Profile number ∷ [])
    (also (saying tags.H3 [] name) (also (url_line url) (also (verdict_line class word more) (also rest none))))

-- that on a profile of which this is told
pub record IsSection (number : ℕ) (told : AuditedValue) (n : Node) : Type 0 where
  pub name : Text
  pub class : Text
  pub more : Nodes
  pub rest : Node
  pub is : n ≡ section_of number name told.url class (verdict_word told.verdict) more rest

-- ---- all of them

-- a section on each, in order, from a number on
abbrev pub AreSections : ℕ → List AuditedValue → Nodes → Type 0
AreSections number [] none = Unit {0}
AreSections number [] (also n ns) = ⊥
AreSections number (told ∷ more) none = ⊥
AreSections number (told ∷ more) (also n ns) = IsSection number told n × AreSections (suc number) more ns

pub record AreTold (told : List AuditedValue) (n : Node) : Type 0 where
  pub sections : Nodes
  pub is : n ≡ element tags.Div (classed (codes "profiles")) sections
  pub are : AreSections 0 told sections

-- ---- the page

-- what stands before the sections, these, and what stands behind them
abbrev pub content_of : (before profiles behind : Node) → Node
content_of before profiles behind = element tags.Main [] (also before (also profiles (also behind none)))

pub record IsContent (told : List AuditedValue) (n : Node) : Type 0 where
  pub before : Node
  pub profiles : Node
  pub behind : Node
  pub is : n ≡ content_of before profiles behind
  pub are_told : AreTold told profiles

pub record IsPage (told : List AuditedValue) (n : Node) : Type 0 where
  pub head : Node
  pub content : Node
  pub is : n ≡ framed head content
  pub is_content : IsContent told content
