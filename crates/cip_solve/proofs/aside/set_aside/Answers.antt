use Rattle.std.proofs.lemmas.Result.{IfOk-from_err}
use Rattle.std.proofs.lemmas.Grind.{common_steps}
use Rattle.std.proofs.Common.{refl, arith}
use Rattle.cip_solve.proofs.SetAside.{none_named, none_off, parted}
use Rattle.cip_solve.proofs.aside.set_aside.Goals as goal

pub returns-then-is_empty-clause-aside : goal.returns-then-is_empty-clause-aside
returns-then-is_empty-clause-aside g c = none_off _ _ (none_named _ _ c.is_empty.ensures c.if-is_empty.true)

pub returns-clause-aside : goal.returns-clause-aside
returns-clause-aside g c =
    parted _ _ _ _ _ _ _ _ _ _ _ c.in_ok-kept.ensures.items c.part.ensures.kept c.reserve.ensures.items c.part.ensures.spent (λ x. refl)

pub part-requires-clause-room : goal.part-requires-clause-room
part-requires-clause-room g c = grind (arith, common_steps)

pub part-requires-clause-spare : goal.part-requires-clause-spare
part-requires-clause-spare g c = grind (arith, common_steps)

pub returns-clause-err : goal.returns-clause-err
returns-clause-err g c = omega arith

pub returns-then-is_empty-clause-err : goal.returns-then-is_empty-clause-err
returns-then-is_empty-clause-err g c = omega arith

pub returns-in_err-kept-clause-aside : goal.returns-in_err-kept-clause-aside
returns-in_err-kept-clause-aside g c = IfOk-from_err c.from_residual-in_err-kept.result _ c.from_residual-in_err-kept.ensures.0

pub returns-in_err-reserve-clause-aside : goal.returns-in_err-reserve-clause-aside
returns-in_err-reserve-clause-aside g c = IfOk-from_err c.from_residual.result _ c.from_residual.ensures.0
