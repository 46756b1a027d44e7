use Rattle.std.proofs.Common.{◌≡◌, [], ◌∙◌, rules}
use Rattle.fhir_certificate.proofs.Found.{firsts_with, found_start, found_seen}
use Rattle.fhir_certificate.proofs.numbering.UrlNumbers.of.Goals as goal

pub invariant_of-result : goal.invariant_of-result
invariant_of-result c =
    let start = found_start _ _ c.new-urls.ensures.items c.new-places.ensures in
    let found = c.in_ok-put_pairs-2.ensures _ (c.in_ok-put_pairs.ensures _ (c.in_ok-put-2.ensures _ (c.in_ok-put.ensures [] start))) in
    found_seen _ _ _ found

pub returns : goal.returns
returns c =
    let start = found_start _ _ c.new-urls.ensures.items c.new-places.ensures in
    let found = c.in_ok-put_pairs-2.ensures _ (c.in_ok-put_pairs.ensures _ (c.in_ok-put-2.ensures _ (c.in_ok-put.ensures [] start))) in
    let certificate = c.args.certificate.now in
    let derived : c.as_str.result.now ≡ certificate.derived = search rules in
    let base : c.as_str-2.result.now ≡ certificate.base = search rules in
    let items : c.deref.result.now ≡ certificate.items = search rules in
    let kids : c.deref-2.result.now ≡ certificate.kids = search rules in
    found.urls_are ∙ firsts_with c.args.schema.now certificate c.as_str.result.now c.as_str-2.result.now c.deref.result.now c.deref-2.result.now derived base items kids
