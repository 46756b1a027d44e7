-- What the pieces of a page come to.
use Rattle.std.proofs.Common.{◌≡◌, ◌∷◌, ◌∙◌, ℕ, List, [], codes, ap, ap₂}
use Rattle.fhir_json.specs.Tree.{Text}
use Rattle.fhir_audit.specs.Auditing.{AuditedValue}
use Rattle.fhir_audit_words.specs.Words.{verdict_word}
use Rattle.fhir_markup.specs.Markup.{Node, Nodes, fixed, place, element, none, also, with_child, document}
use Rattle.fhir_markup.specs.declared.names.Tag.TheVariants.{Section, H3}
use Rattle.fhir_markup.specs.declared.names.AttributeName.TheVariants.{Class}
use Rattle.fhir_markup.specs.declared.names.Part.TheVariants.{Profile}
use Rattle.fhir_page_frame.specs.Frame.{saying, head_of, IsPageOf}
use Rattle.fhir_page.specs.Page.{url_line, verdict_line, IsSection, AreTold, content_of, IsContent, IsPage}

pub is_section : (number : ℕ) (told : AuditedValue) (name : Text) (a b c d u v rest : Node)
    → a ≡ element Section (fixed Class (codes "profile") ∷ place Profile number ∷ []) (also (saying H3 [] name) none) → u ≡ url_line told.url
    → b ≡ with_child a u → (class : Text) × (more : Nodes) × (v ≡ verdict_line class (verdict_word told.verdict) more) → c ≡ with_child b v
    → d ≡ with_child c rest → IsSection number told d
is_section number told name a b c d u v rest of_a of_u of_b of_v of_c of_d = record {
  name = name;
  class = of_v.0;
  more = of_v.1;
  rest = rest;
  is =
      of_d
      ∙ ap (λ (x : Node). with_child x rest)
      (of_c ∙ ap₂ (λ (x y : Node). with_child x y) (of_b ∙ ap₂ (λ (x y : Node). with_child x y) of_a of_u) of_v.2);
}

pub is_content : (told : List AuditedValue) (before profiles behind n : Node) → n ≡ content_of before profiles behind → AreTold told profiles
    → IsContent told n
is_content told before profiles behind n is are = record { before = before; profiles = profiles; behind = behind; is = is; are_told = are }

is_page : (told : List AuditedValue) (title : Text) (content n : Node) → IsPageOf title content n → IsContent told content → IsPage told n
is_page told title content n is of =
    record { head = head_of title is.policy is.style; content = content; is = is.is; is_content = of }

pub is_written : (told : List AuditedValue) (title : Text) (content n : Node) (bytes : Text) → bytes ≡ document n → IsPageOf title content n
    → IsContent told content → (m : Node) × (bytes ≡ document m) × IsPage told m
is_written told title content n bytes is of are = (n, is, is_page told title content n of are)
