use Rattle.std.proofs.lemmas.Result.{IfOk-from_err}
use Rattle.std.proofs.lemmas.Grind.{common_steps}
use Rattle.std.proofs.Common.{◌<◌, length, rules, arith}
use Rattle.cip_presolve.proofs.CopiedParts.{names_skip, names_take, all_names, new_name}
use Rattle.cip_presolve.proofs.copies.names_left.Goals as goal

pub loop-at-preserved-then-gone-at : goal.loop-at-preserved-then-gone-at
loop-at-preserved-then-gone-at c = names_skip c.args.gone.now c.args.names.now c.loop-at.left c.loop-at.at c.loop-at.invariant c.if-gone-at.true

pub loop-at-preserved : goal.loop-at-preserved
loop-at-preserved c =
    let below : c.loop-at.at < length c.args.gone.now = search rules in
    names_take c.args.gone.now c.args.names.now c.loop-at.left c.add_copy.new.names c.loop-at.at c.name.result.now c.loop-at.invariant below c.if-gone-at.false c.name.ensures c.in_ok-add_copy.ensures

pub returns : goal.returns
returns c = all_names c.args.gone.now c.args.names.now c.loop-at.left c.loop-at.at c.loop-at.invariant c.loop-at-test.false c.requires

pub name-requires : goal.name-requires
name-requires c = omega arith

pub bounds-gone-at : goal.bounds-gone-at
bounds-gone-at c = grind (arith, common_steps)

pub loop-at-init : goal.loop-at-init
loop-at-init c = grind (arith, common_steps)

pub same-left : goal.same-left
same-left c = grind (arith, common_steps)

pub add_copy-requires : goal.add_copy-requires
add_copy-requires c =
    new_name c.args.gone.now c.args.names.now c.loop-at.left c.loop-at.at c.name.result.now c.loop-at.invariant
    c.stand_once.ensures c.name.ensures

pub returns-in_err-add_copy : goal.returns-in_err-add_copy
returns-in_err-add_copy c = IfOk-from_err c.from_residual.result _ c.from_residual.ensures.0
