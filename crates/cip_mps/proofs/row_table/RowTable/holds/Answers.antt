use Rattle.std.proofs.lemmas.Grind.{common_steps}
use Rattle.std.proofs.Common.{◌==◌, ap, sym, ◌∙◌, arith}
use Rattle.std.specs.List.{list_any}
use Rattle.cip_text_rules.specs.MpsState.{Held}
use Rattle.cip_text_rules.specs.MpsSoundState.{held_below}
use Rattle.cip_mps.specs.Tables.{numbers_at}
use Rattle.cip_mps.proofs.Numbers.{none_behind}
use Rattle.cip_mps.proofs.TableLaws.{within, has_group, held_is, numbers_are, read_at}
use Rattle.cip_mps.proofs.row_table.RowTable.holds.Goals as goal

pub index-requires : goal.index-requires
index-requires c =
    let there = within c.self.inside.heads.items c.self.inside.groups.items c.args.self.now c.args.number c.self.view_is c.requires in
    let same = c.self.invariant.as_many in
    omega (arith, there, same, c.self.inside.held_to.ok.0)

pub returns-then-index-column : goal.returns-then-index-column
returns-then-index-column c =
    let heads = c.self.inside.heads.items in
    let groups = c.self.inside.groups.items in
    let number = c.args.number in
    let there = within heads groups c.args.self.now number c.self.view_is c.requires in
    let same = c.self.invariant.as_many in
    let end = read_at c.self.inside.held_to.items number c.index.result.now 0 (omega (arith, there, same)) c.index.ensures in
    let below = ap (λ n. held_below n (numbers_at groups number)) end ∙ c.self.invariant.below number in
    sym (ap (list_any (λ (h : Held). h.column == c.args.column)) (numbers_are heads groups c.args.self.now number c.self.view_is c.requires)
    ∙ none_behind c.index.result.now c.args.column (numbers_at groups number) c.if-index-column.true below)

pub index-group-requires : goal.index-group-requires
index-group-requires c =
    let there = has_group c.self.inside.heads.items c.self.inside.groups.items c.args.self.now c.args.number c.self.view_is c.requires c.self.invariant.enough in
    omega (arith, there, c.self.inside.groups.ok.0)

pub returns : goal.returns
returns c =
    let held = held_is c.self.inside.heads.items c.self.inside.groups.items c.args.self.now c.args.number c.index-group.result.now c.self.view_is c.requires c.self.invariant.enough c.index-group.ensures in
    c.holds.ensures ∙ ap (list_any (λ (h : Held). h.column == c.args.column)) (sym held)

pub overflow_cast-number : goal.overflow_cast-number
overflow_cast-number c = grind (arith, common_steps)
