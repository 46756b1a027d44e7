use Rattle.std.proofs.Common.{◌++◌, ◌∷◌, [], refl}
use Rattle.fhir_facets.specs.Views.{unread_seen}
use Rattle.fhir_validator.specs.Listing.{RuleIsTold, Grown}
use Rattle.fhir_validator.proofs.Told.{of_made, site_told, site_grown, hangs_above, hangs_below}
use Rattle.fhir_validator.proofs.judging.Judge.put_site.Goals as goal

pub returns-clause-told : goal.returns-clause-told
returns-clause-told c =
    let layout = c.args.self.now in
    let old = c.args.listing.now in
    of_made (λ new. RuleIsTold layout new (unread_seen c.args.unread)) (record old { sites = old.sites ++ c.in_ok-site.site ∷ [] }) c.put_site.new.self c.put_site.result c.put_site.ensures
    (site_told layout c.args.pair c.args.node old c.in_ok-site.site c.args.unread c.in_ok-site.ensures.unread)

pub returns-clause-grown : goal.returns-clause-grown
returns-clause-grown c =
    let layout = c.args.self.now in
    let old = c.args.listing.now in
    of_made (Grown layout c.args.pair old) (record old { sites = old.sites ++ c.in_ok-site.site ∷ [] }) c.put_site.new.self c.put_site.result c.put_site.ensures
    (site_grown layout c.args.pair c.args.node old (unread_seen c.args.unread) c.requires c.in_ok-site.site c.args.unread
    c.in_ok-site.ensures.node c.in_ok-site.ensures.unread refl
    (hangs_above old.wanted c.requires.of_hanging) (hangs_below old.wanted c.requires.of_hanging) c.in_ok-site.ensures.named)
