use Rattle.std.proofs.Common.{◌∙◌, ap, sym, length}
use Rattle.cip_domain.proofs.Trails.{length-regions_before}
use Rattle.cip_domain.proofs.stores.DomainStore.mark.Goals as goal

pub returns : goal.returns
returns c =
    c.len.ensures ∙ c.self.inside.trail.ok.0
    ∙ sym (length-regions_before c.self.inside.region c.self.inside.trail.items) ∙ ap (λ d. length d.before) c.self.view_is
