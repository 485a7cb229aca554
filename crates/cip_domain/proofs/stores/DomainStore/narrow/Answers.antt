use Rattle.std.proofs.lemmas.Grind.{common_steps}
use Rattle.std.proofs.Common.{◌∙◌, ap, sym, length, arith}
use Rattle.cip_problem.specs.Box.{sides_at}
use Rattle.cip_problem.specs.Choices.{choice_at}
use Rattle.cip_domain.specs.Changes.{Change}
use Rattle.cip_domain.specs.Domain.{Domain, region_of, making}
use Rattle.cip_domain.proofs.Marks.{no_point}
use Rattle.cip_domain.proofs.Marks.{keeps_itself, keeps_trans, room_keeps}
use Rattle.cip_domain.proofs.stores.DomainStore.narrow.Goals as goal

pub returns-in-Empty-clause-narrowed : goal.returns-in-Empty-clause-narrowed
returns-in-Empty-clause-narrowed c = λ _.
    no_point (region_of c.args.self.now) c.args.change (omega (arith, ap (λ (t : Change). t.column) c.change.view_is, c.len.ensures, ap length c.bounds.ensures, ap (λ (d : Domain). length d.box) c.self.view_is, c.if-change-len.false))
    (ap (λ (d : Domain). making (sides_at d.box c.args.change.column) (choice_at d.choices c.args.change.column) c.args.change) (sym c.in_ok-reserve.ensures.same)
    ∙ sym c.in-Empty.ensures.outcome)

pub returns-then-change-len-clause-marks : goal.returns-then-change-len-clause-marks
returns-then-change-len-clause-marks c = keeps_itself c.args.self.now

pub returns-in_err-reserve-clause-marks : goal.returns-in_err-reserve-clause-marks
returns-in_err-reserve-clause-marks c = room_keeps _ _ c.reserve.ensures.same

pub make-requires-clause-room : goal.make-requires-clause-room
make-requires-clause-room c = c.in_ok-reserve.ensures.room

pub returns-in-Empty-clause-marks : goal.returns-in-Empty-clause-marks
returns-in-Empty-clause-marks c = keeps_trans _ _ _ (room_keeps _ _ c.reserve.ensures.same) c.make.ensures.marks

pub make-requires-clause-column : goal.make-requires-clause-column
make-requires-clause-column c = grind (arith, common_steps)

pub returns-in_default : goal.returns-in_default
returns-in_default c = grind (arith, common_steps)

pub returns-then-change-len-clause-narrowed : goal.returns-then-change-len-clause-narrowed
returns-then-change-len-clause-narrowed c = grind (arith, common_steps)

pub same-change : goal.same-change
same-change c = grind (arith, common_steps)

pub overflow_cast-change-inside : goal.overflow_cast-change-inside
overflow_cast-change-inside c = grind (arith, common_steps)

pub returns-in-Empty-clause-err : goal.returns-in-Empty-clause-err
returns-in-Empty-clause-err c = grind (arith, common_steps)

pub returns-then-change-len-clause-err : goal.returns-then-change-len-clause-err
returns-then-change-len-clause-err c = grind (arith, common_steps)

pub same-self : goal.same-self
same-self c = grind (arith, common_steps)
