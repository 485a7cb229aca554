use Rattle.std.proofs.lemmas.Result.{IfOk-from_err}
use Rattle.std.proofs.lemmas.Grind.{common_steps}
use Rattle.cip_mps.proofs.RowLaws.{always_err}
use Rattle.std.proofs.Common.{◌+◌, ◌/◌, List, Some, ap, sym, subst, ◌∙◌, arith}
use Rattle.std.specs.Prelude.{slice_set}
use Rattle.cip_text_rules.specs.MpsState.{RowRead, no_row}
use Rattle.cip_text_rules.specs.MpsSteps.{changed, with_held}
use Rattle.cip_text_rules.specs.MpsSoundState.{held_below}
use Rattle.cip_mps.specs.Entries.{Entry}
use Rattle.cip_mps.specs.Tables.{IsSoundTable, rows_of}
use Rattle.cip_mps.proofs.TableLaws.{within, has_group, held_is, numbers_are, group_pushed, rows_held, sound_held, group_same}
use Rattle.cip_mps.proofs.row_table.RowTable.hold.Goals as goal

pub index_mut-group-requires : goal.index_mut-group-requires
index_mut-group-requires c =
    let there = has_group c.self.inside.heads.items c.self.inside.groups.items c.args.self.now c.args.number c.self.view_is c.requires.within c.self.invariant.enough in
    omega (arith, there, c.self.inside.groups.ok.0)

pub push-requires : goal.push-requires
push-requires c =
    let held = held_is c.self.inside.heads.items c.self.inside.groups.items c.args.self.now c.args.number c.index_mut-group.result.now c.self.view_is c.requires.within c.self.invariant.enough c.index_mut-group.ensures.value in
    ap (held_below c.args.column) (sym held) ∙ c.requires.behind

pub index_mut-requires : goal.index_mut-requires
index_mut-requires c =
    let there = within c.self.inside.heads.items c.self.inside.groups.items c.args.self.now c.args.number c.self.view_is c.requires.within in
    let same = c.self.invariant.as_many in
    omega (arith, there, same, c.self.inside.held_to.ok.0)

pub invariant_of-self-2 : goal.invariant_of-self-2
invariant_of-self-2 c =
    let heads = c.self.inside.heads.items in
    let groups = c.self.inside.groups.items in
    let number = c.args.number in
    let there = within heads groups c.args.self.now number c.self.view_is c.requires.within in
    let group = has_group heads groups c.args.self.now number c.self.view_is c.requires.within c.self.invariant.enough in
    let pushed = group_pushed groups (number / 64) c.index_mut-group.result.now c.push.new.self _ group c.index_mut-group.ensures.value c.in_ok-push.ensures.ok in
    let below = ap (held_below c.args.column) (sym (numbers_are heads groups c.args.self.now number c.self.view_is c.requires.within)) ∙ c.requires.behind in
    subst (λ (g : List Entry). IsSoundTable (slice_set c.self.inside.held_to.items number (c.args.column + 1)) heads (slice_set groups (number / 64) g)) (sym pushed)
    (sound_held number c.args.column c.args.value c.self.inside.held_to.items heads groups c.self.invariant there below)

pub returns-clause-ok : goal.returns-clause-ok
returns-clause-ok c =
    let heads = c.self.inside.heads.items in
    let groups = c.self.inside.groups.items in
    let number = c.args.number in
    let there = within heads groups c.args.self.now number c.self.view_is c.requires.within in
    let group = has_group heads groups c.args.self.now number c.self.view_is c.requires.within c.self.invariant.enough in
    let pushed = group_pushed groups (number / 64) c.index_mut-group.result.now c.push.new.self _ group c.index_mut-group.ensures.value c.in_ok-push.ensures.ok in
    ap (λ (g : List Entry). rows_of heads (slice_set groups (number / 64) g)) pushed
    ∙ rows_held number c.args.column c.args.value heads groups there group
    ∙ ap (λ (rs : List RowRead). changed no_row rs (Some number) (with_held c.args.column c.args.value)) c.self.view_is

pub invariant_of-self : goal.invariant_of-self
invariant_of-self c =
    let heads = c.self.inside.heads.items in
    let groups = c.self.inside.groups.items in
    let there = has_group heads groups c.args.self.now c.args.number c.self.view_is c.requires.within c.self.invariant.enough in
    let same = group_same groups (c.args.number / 64) c.index_mut-group.result.now c.push.new.self there c.index_mut-group.ensures.value c.in_err-push.ensures.err in
    subst (λ (gs : List (List Entry)). IsSoundTable c.self.inside.held_to.items heads gs) (sym same) c.self.invariant

pub returns-in_err-push-clause-err : goal.returns-in_err-push-clause-err
returns-in_err-push-clause-err c =
    let heads = c.self.inside.heads.items in
    let groups = c.self.inside.groups.items in
    let there = has_group heads groups c.args.self.now c.args.number c.self.view_is c.requires.within c.self.invariant.enough in
    let same = group_same groups (c.args.number / 64) c.index_mut-group.result.now c.push.new.self there c.index_mut-group.ensures.value c.in_err-push.ensures.err in
    always_err c.from_residual.result (ap (rows_of heads) same ∙ c.self.view_is)

pub overflow_add-column : goal.overflow_add-column
overflow_add-column c = grind (arith, common_steps)

pub returns-clause-err : goal.returns-clause-err
returns-clause-err c = grind (arith, common_steps)

pub overflow_cast-row : goal.overflow_cast-row
overflow_cast-row c = grind (arith, common_steps)

pub returns-in_err-push-clause-ok : goal.returns-in_err-push-clause-ok
returns-in_err-push-clause-ok c = IfOk-from_err c.from_residual.result _ c.from_residual.ensures.0
