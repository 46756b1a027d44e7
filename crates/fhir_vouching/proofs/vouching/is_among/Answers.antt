use Rattle.std.proofs.Common.{string_bytes, ◌∙◌, rules}
use Rattle.std.specs.Ordering.{nat_cmp}
use Rattle.std.specs.Cmp.Lexicographic.{slice_cmp}
use Rattle.std.proofs.lemmas.Fn.{always_returns_same}
use Rattle.std.proofs.lemmas.Cmp.{nat_list_cmp_total}
use Rattle.fhir_vouching.proofs.Sets.{searched}
use Rattle.fhir_vouching.proofs.vouching.is_among.Goals as goal

pub returns : goal.returns
returns g c =
    let facts = c.binary_search_by.ensures in
    let t = g.T.Spelled.spelled c.args.thing.now in
    let found =
    facts.position (λ s. slice_cmp nat_cmp (string_bytes s) t)
    (always_returns_same _ _ _ (λ a r f called. rw (nat_list_cmp_total.antisymm (string_bytes a.0.now) t) (search rules))) in
    c.is_ok.ensures.value
    ∙ searched string_bytes c.args.texts.now t c.binary_search_by.result facts.bound found c.requires
