use Rattle.cip_calls.proofs.rules.take_rule.Goals.{in-None, in-Some-split_refusal}
use Rattle.std.specs.Prelude.{is_some, if◌then◌else◌}
use Rattle.cip_calls.specs.Noted.{HasJudged}
use Rattle.cip_calls.specs.SplitsJudged.{IsPlace}
use Rattle.cip_calls.specs.declared.judged.Judged.{Judged}
use Rattle.cip_plugin.specs.declared.proposals.Split.{Split}
use Rattle.std.proofs.lemmas.Result.{IfOk-from_err}
use Rattle.std.proofs.lemmas.Grind.{common_steps}
use Rattle.std.proofs.Common.{arith, ℕ, List, Option, IfSome, sym, subst}
use Rattle.cip_calls.proofs.rules.take_rule.Goals as goal

pub finish-requires-clause-room : goal.finish-requires-clause-room
finish-requires-clause-room g c = omega (arith, c.reserve.ensures.len, c.in_ok-reserve.ensures.ok)

pub returns-in_default-clause-noted : goal.returns-in_default-clause-noted
returns-in_default-clause-noted g c = grind (arith, common_steps)

pub returns-clause-scratches : goal.returns-clause-scratches
returns-clause-scratches g c = c.finish.ensures.scratches

pub returns-clause-sound : goal.returns-clause-sound
returns-clause-sound g c = c.finish.ensures.sound

pub returns-clause-noted : goal.returns-clause-noted
returns-clause-noted g c = c.finish.ensures.noted

pub returns-in_err-finish-clause-scratches : goal.returns-in_err-finish-clause-scratches
returns-in_err-finish-clause-scratches g c = c.finish.ensures.scratches

pub returns-in_err-finish-clause-noted : goal.returns-in_err-finish-clause-noted
returns-in_err-finish-clause-noted g c = c.finish.ensures.noted

pub returns-in_default-clause-judged : goal.returns-in_default-clause-judged
returns-in_default-clause-judged g c = grind (arith, common_steps)

pub finish-requires-clause-seat : goal.finish-requires-clause-seat
finish-requires-clause-seat g c = c.requires.seat

pub returns-clause-place : goal.returns-clause-place
returns-clause-place g c =
    let core = c.args.core.now in
    elim c.match-split_refusal.branch [
      | in-None w ↦ subst (λ (p : Judged × Option Split). IfSome p.1 (λ split. IsPlace core split.col split.at)) (sym w.came-is) w.in-None.ensures
      | in-Some-split_refusal w ↦ subst (λ (p : Judged × Option Split). IfSome p.1 (λ split. IsPlace core split.col split.at)) (sym w.came-is) tt
    ]

pub returns-clause-judged : goal.returns-clause-judged
returns-clause-judged g c =
    let new = c.finish.new.self.judged.items in
    subst (λ (o : Option Split). HasJudged c.args.id (if is_some o then 1 else 0) c.args.plugins.now.judged.items new) (sym c.in-Some.is)
    (subst (λ (items : List (ℕ × Judged)). HasJudged c.args.id 1 items new) c.reserve.ensures.items c.finish.ensures.judged)

pub split_refusal-requires : goal.split_refusal-requires
split_refusal-requires g c = record { at_work = c.requires.at_work }

pub returns-in_default-clause-sound : goal.returns-in_default-clause-sound
returns-in_default-clause-sound g c = grind (arith, common_steps)

pub returns-in_err-reserve-clause-noted : goal.returns-in_err-reserve-clause-noted
returns-in_err-reserve-clause-noted g c = grind (arith, common_steps)

pub returns-in_err-reserve-clause-scratches : goal.returns-in_err-reserve-clause-scratches
returns-in_err-reserve-clause-scratches g c = grind (arith, common_steps)

pub returns-in_default-clause-place : goal.returns-in_default-clause-place
returns-in_default-clause-place g c = grind (arith, common_steps)

pub returns-in_default-clause-scratches : goal.returns-in_default-clause-scratches
returns-in_default-clause-scratches g c = grind (arith, common_steps)

pub returns-in_err-finish-clause-judged : goal.returns-in_err-finish-clause-judged
returns-in_err-finish-clause-judged g c = IfOk-from_err c.from_residual-in_err-finish.result _ c.from_residual-in_err-finish.ensures.0

pub returns-in_err-reserve-clause-judged : goal.returns-in_err-reserve-clause-judged
returns-in_err-reserve-clause-judged g c = IfOk-from_err c.from_residual.result _ c.from_residual.ensures.0

pub returns-in_err-finish-clause-place : goal.returns-in_err-finish-clause-place
returns-in_err-finish-clause-place g c = IfOk-from_err c.from_residual-in_err-finish.result _ c.from_residual-in_err-finish.ensures.0

pub returns-in_err-reserve-clause-place : goal.returns-in_err-reserve-clause-place
returns-in_err-reserve-clause-place g c = IfOk-from_err c.from_residual.result _ c.from_residual.ensures.0

pub returns-in_err-finish-clause-sound : goal.returns-in_err-finish-clause-sound
returns-in_err-finish-clause-sound g c = c.finish.ensures.sound

pub returns-in_err-reserve-clause-sound : goal.returns-in_err-reserve-clause-sound
returns-in_err-reserve-clause-sound g c = c.requires.sound

pub finish-requires-clause-sound : goal.finish-requires-clause-sound
finish-requires-clause-sound g c = c.requires.sound
