use Rattle.std.proofs.Common.{◌∙◌, ap, sym, length}
use Rattle.cip_model.proofs.GroupLaws.{counted}
use Rattle.cip_model.proofs.blocks.Blocks.count.Goals as goal

pub returns : goal.returns
returns c =
    let inside = c.self.inside in
    let e = counted inside.by_rows.groups.items inside.by_columns.groups.items c.self.invariant in
    let f = ap (λ b. length b.blocks) c.self.view_is in
    c.len.ensures ∙ inside.by_rows.groups.ok.0 ∙ sym e ∙ f
