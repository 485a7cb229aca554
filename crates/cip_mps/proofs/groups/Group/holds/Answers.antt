use Rattle.std.proofs.Common.{◌==◌, ◌&&◌, ap, ◌∙◌}
use Rattle.std.specs.List.{list_any}
use Rattle.cip_text_rules.specs.MpsState.{Held}
use Rattle.cip_mps.specs.Entries.{numbers_of}
use Rattle.cip_mps.specs.declared.groups.Near.{Near}
use Rattle.cip_mps.specs.declared.groups.Far.{Far}
use Rattle.cip_mps.proofs.Numbers.{holds_near, holds_far}
use Rattle.cip_mps.proofs.groups.Group.holds.Goals as goal

pub returns-then-any_near : goal.returns-then-any_near
returns-then-any_near c =
    let near = c.any_near.ensures ∙ ap (list_any (λ (n : Near). n.column == c.args.column && n.row == c.args.row)) c.as_slice.ensures.value in
    holds_near c.self.inside.near.items c.self.inside.far.items c.args.row c.args.column c.any_near.result near c.if-any_near.true
    ∙ ap (λ es. list_any (λ (h : Held). h.column == c.args.column) (numbers_of c.args.row es)) c.self.view_is

pub returns-else-any_near : goal.returns-else-any_near
returns-else-any_near c =
    let near = c.any_near.ensures ∙ ap (list_any (λ (n : Near). n.column == c.args.column && n.row == c.args.row)) c.as_slice.ensures.value in
    let far = c.any_far.ensures ∙ ap (list_any (λ (n : Far). n.column == c.args.column && n.row == c.args.row)) c.as_slice-else-any_near.ensures.value in
    holds_far c.self.inside.near.items c.self.inside.far.items c.args.row c.args.column c.any_near.result c.any_far.result near c.if-any_near.false far
    ∙ ap (λ es. list_any (λ (h : Held). h.column == c.args.column) (numbers_of c.args.row es)) c.self.view_is
