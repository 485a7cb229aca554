use Rattle.std.proofs.lemmas.Result.{IfOk-from_err}
use Rattle.std.proofs.lemmas.Grind.{common_steps}
use Rattle.cip_presolve.proofs.CopiedParts.{one_copied, all_copied, copied_new}
use Rattle.std.proofs.Common.{◌≤◌, length, rules, arith}
use Rattle.cip_presolve.proofs.copies.copied_names.Goals as goal

pub loop-number-preserved : goal.loop-number-preserved
loop-number-preserved c =
    one_copied c.args.names.now c.loop-number.copy c.add_copy.new.names c.loop-number.number c.name.result.now c.loop-number.invariant c.name.ensures c.in_ok-add_copy.ensures

pub returns : goal.returns
returns c =
    let past : length c.args.names.now ≤ c.loop-number.number = search rules in
    all_copied c.args.names.now c.loop-number.copy c.loop-number.number c.loop-number.invariant past

pub name-requires : goal.name-requires
name-requires c = grind (arith, common_steps)

pub loop-number-init : goal.loop-number-init
loop-number-init c = grind (arith, common_steps)

pub same-copy : goal.same-copy
same-copy c = grind (arith, common_steps)

pub add_copy-requires : goal.add_copy-requires
add_copy-requires c =
    copied_new c.args.names.now c.loop-number.copy c.loop-number.number c.name.result.now c.loop-number.invariant
    c.stand_once.ensures c.name.ensures

pub returns-in_err-add_copy : goal.returns-in_err-add_copy
returns-in_err-add_copy c = IfOk-from_err c.from_residual.result _ c.from_residual.ensures.0
