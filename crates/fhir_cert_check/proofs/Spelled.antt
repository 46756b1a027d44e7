-- What the bytes of a certificate say of the certificate that they are.
use Rattle.std.proofs.Common.{◌≡◌, Bool, true, false, List, [], ◌∷◌, Option, Some, None, refl, sym, ap, ◌∙◌, IsTrue, ◌&&◌, is_some}
use Rattle.std.specs.List.{list_all}
use Rattle.std.specs.Option.{option_map, option_map_or, option_and_then}
use Rattle.std.specs.Prelude.{if◌then◌else◌, Ok, Err}
use Rattle.std.proofs.lemmas.Bool.{and_parts, false≢true}
use Rattle.std.proofs.lemmas.Option.{none-some, same_Some}
use Rattle.fhir_nodes.specs.declared.node.NodeRef.{NodeRef}
use Rattle.fhir_schema.specs.Schemas.{SchemaValue, root}
use Rattle.fhir_certificate.specs.declared.fault.CertFault.{CertFault}
use Rattle.fhir_certificate.specs.declared.pair.NodePair.{NodePair}
use Rattle.fhir_certificate.specs.declared.pair.Pair.{Pair}
use Rattle.fhir_certificate.specs.Certificate.{CertificateValue, are_nodes, fits}
use Rattle.fhir_certificate.specs.Format.{Line, item, kids, Written}
use Rattle.fhir_certificate.specs.Judging.{pair_of, with_item, with_kids, with_lines, are_usable, certificate_of}
use Rattle.fhir_cert_check.specs.Rule.{RuleName}
use Rattle.fhir_cert_check.specs.Checking.{roots_of, wrong_with, wrong_at}

-- the two certificates are of the same profiles
abbrev AreOfSame : CertificateValue → CertificateValue → Type 0
AreOfSame c d = (c.derived ≡ d.derived) × (c.base ≡ d.base)

with_item_same : (o : Option NodePair) (c d : CertificateValue) → with_item o c ≡ Some d → AreOfSame c d
with_item_same None c d e = absurd (none-some d e)
with_item_same (Some p) c d e =
    let same = same_Some (record { derived = c.derived; base = c.base; items = p ∷ c.items; kids = c.kids }) d e in
    (ap (λ x. x.derived) same, ap (λ x. x.base) same)

with_kids_same : (o : Option NodePair) (c d : CertificateValue) → with_kids o c ≡ Some d → AreOfSame c d
with_kids_same None c d e = absurd (none-some d e)
with_kids_same (Some p) c d e =
    let same = same_Some (record { derived = c.derived; base = c.base; items = c.items; kids = p ∷ c.kids }) d e in
    (ap (λ x. x.derived) same, ap (λ x. x.base) same)

and_then_same : (f : CertificateValue → Option CertificateValue) → ((c d : CertificateValue) → f c ≡ Some d → AreOfSame c d)
    → (o : Option CertificateValue) (c d : CertificateValue) → ((m : CertificateValue) → o ≡ Some m → AreOfSame c m) → option_and_then f o ≡ Some d
    → AreOfSame c d
and_then_same f keeps None c d before e = absurd (none-some d e)
and_then_same f keeps (Some m) c d before e =
    let p = before m refl in
    let q = keeps m d e in
    (p.0 ∙ q.0, p.1 ∙ q.1)

with_lines_same : (s : SchemaValue) (lines : List Line) (c d : CertificateValue) → with_lines s lines c ≡ Some d → AreOfSame c d
with_lines_same s [] c d e = let same = same_Some c d e in (ap (λ x. x.derived) same, ap (λ x. x.base) same)
with_lines_same s (item derived base ∷ lines) c d e =
    and_then_same (with_item (pair_of s derived base)) (with_item_same (pair_of s derived base)) (with_lines s lines c) c d (λ m. with_lines_same s lines c m) e
with_lines_same s (kids derived base ∷ lines) c d e =
    and_then_same (with_kids (pair_of s derived base)) (with_kids_same (pair_of s derived base)) (with_lines s lines c) c d (λ m. with_lines_same s lines c m) e

-- the certificate is of the profiles that are written
pub of_written : (s : SchemaValue) (w : Written) (c : CertificateValue) → certificate_of s w ≡ Some c → (w.derived ≡ c.derived) × (w.base ≡ c.base)
of_written s w c = go (are_usable s w)
  where
    go : (b : Bool) → (if b then with_lines s w.lines (record { derived = w.derived; base = w.base; items = []; kids = [] }) else None) ≡ Some c
        → (w.derived ≡ c.derived) × (w.base ≡ c.base)
    go true e = with_lines_same s w.lines (record { derived = w.derived; base = w.base; items = []; kids = [] }) c e
    go false e = absurd (none-some c e)

-- a certificate that fits has its roots
pub has_roots : (s : SchemaValue) (c : CertificateValue) → IsTrue (fits s c) → (roots : NodePair) × (roots_of s c ≡ Some roots)
has_roots s c h =
    let p = and_parts (is_some (root s c.derived) && is_some (root s c.base) && list_all (are_nodes s) c.items) (list_all (are_nodes s) c.kids) h in
    let q = and_parts (is_some (root s c.derived) && is_some (root s c.base)) (list_all (are_nodes s) c.items) p.0 in
    let r = and_parts (is_some (root s c.derived)) (is_some (root s c.base)) q.0 in
    go (root s c.derived) (root s c.base) r.0 r.1
  where
    go : (n m : Option NodeRef) → IsTrue (is_some n) → IsTrue (is_some m)
        → (roots : NodePair) × (option_and_then (λ n. option_map (λ m. record { derived = n; base = m }) m) n ≡ Some roots)
    go None m h k = absurd (false≢true h)
    go (Some n) None h k = absurd (false≢true k)
    go (Some n) (Some m) h k = (record { derived = n; base = m }, refl)

pub answer_at : (s : SchemaValue) (c : CertificateValue) (wrong : Option (Pair × RuleName)) → IsTrue (fits s c)
    → ((roots : NodePair) → roots_of s c ≡ Some roots → wrong ≡ wrong_with s c roots) → wrong_at s c ≡ Ok wrong
answer_at s c wrong fit e =
    let roots = has_roots s c fit in
    ap (λ o. option_map_or (λ roots. Ok (wrong_with s c roots)) o (Err Rattle.fhir_certificate.specs.declared.fault.CertFault.TheVariants.UnknownNode)) roots.1
    ∙ ap Ok (sym (e roots.0 roots.1))
