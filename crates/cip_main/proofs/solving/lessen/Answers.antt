use Rattle.std.proofs.lemmas.Grind.{common_steps}
use Rattle.std.proofs.Common.{ap, map, arith}
use Rattle.std.proofs.lemmas.Result.{IfOk-weaker}
use Rattle.cip_input.specs.WordsRead.{limits_of}
use Rattle.cip_main.proofs.Searches.{kit_less, kit_plain}
use Rattle.cip_main.proofs.solving.lessen.Goals as goal

pub returns-then-limits-clause-less : goal.returns-then-limits-clause-less
returns-then-limits-clause-less g c = kit_plain (limits_of c.args.limits.now) _ c.if-limits.true

pub returns-clause-less : goal.returns-clause-less
returns-clause-less g c =
    IfOk-weaker c.set_aside.result _ _ (λ u less. kit_less (limits_of c.args.limits.now) _ _ _ c.if-limits.false (ap (map (λ name. name.now)) c.as_slice.ensures.value) less) c.set_aside.ensures.aside

pub returns-clause-err : goal.returns-clause-err
returns-clause-err g c = grind (arith, common_steps)

pub returns-then-limits-clause-err : goal.returns-then-limits-clause-err
returns-then-limits-clause-err g c = grind (arith, common_steps)

pub set_aside-requires : goal.set_aside-requires
set_aside-requires g c = grind (arith, common_steps)
