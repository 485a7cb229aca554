use Rattle.std.proofs.lemmas.Grind.{common_steps}
use Rattle.std.proofs.Common.{◌≡◌, List, ap, sym, subst, ◌∙◌, arith}
use Rattle.std.specs.Prelude.{IfOk}
use Rattle.cip_text_rules.specs.MpsState.{Held}
use Rattle.cip_text_rules.specs.MpsSoundState.{rises}
use Rattle.cip_mps.proofs.TableLaws.{has_group, held_is}
use Rattle.cip_mps.proofs.row_table.RowTable.numbers.Goals as goal

pub index-group-requires : goal.index-group-requires
index-group-requires c =
    let there = has_group c.self.inside.heads.items c.self.inside.groups.items c.args.self.now c.args.number c.self.view_is c.requires c.self.invariant.enough in
    omega (arith, there, c.self.inside.groups.ok.0)

pub returns-clause-items : goal.returns-clause-items
returns-clause-items c =
    let held = held_is c.self.inside.heads.items c.self.inside.groups.items c.args.self.now c.args.number c.index-group.result.now c.self.view_is c.requires c.self.invariant.enough c.index-group.ensures in
    subst (λ (hs : List Held). IfOk c.numbers.result (λ numbers. numbers.items ≡ hs)) (sym held) c.numbers.ensures.items

pub returns-clause-rising : goal.returns-clause-rising
returns-clause-rising c =
    let held = held_is c.self.inside.heads.items c.self.inside.groups.items c.args.self.now c.args.number c.index-group.result.now c.self.view_is c.requires c.self.invariant.enough c.index-group.ensures in
    ap rises held ∙ c.numbers.ensures.rising

pub overflow_cast-number : goal.overflow_cast-number
overflow_cast-number c = grind (arith, common_steps)
