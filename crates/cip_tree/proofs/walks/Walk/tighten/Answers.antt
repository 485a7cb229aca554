use Rattle.std.proofs.lemmas.Grind.{common_steps}
use Rattle.std.proofs.Common.{refl, sym, ap, ◌∙◌, subst, arith}
use Rattle.cip_domain.proofs.Marks.{room_keeps, keeps_trans}
use Rattle.cip_tree.specs.Walks.{Way, IsWalked}
use Rattle.cip_tree.proofs.Walking.{tightening_keeps, held_longer, walked_marks}
use Rattle.std.proofs.lemmas.Result.{IfOk-from_err, MatchResult-from_err}
use Rattle.cip_domain.specs.Domain.{region_of}
use Rattle.cip_tree.proofs.walks.Walk.tighten.Goals as goal

pub returns-clause-walked : goal.returns-clause-walked
returns-clause-walked c = λ slots root ids walked.
    walked_marks root slots ids _ _ refl c.self.invariant.1
    (keeps_trans _ _ _ (room_keeps _ _ c.in_ok-reserve.ensures.same) (tightening_keeps _ _ _ c.args.col c.args.side c.args.value c.tighten.ensures.after))
    (subst (IsWalked root slots ids) (sym c.self.view_is) walked)

pub invariant_of-self-2 : goal.invariant_of-self-2
invariant_of-self-2 c = (
  c.self.invariant.0,
  held_longer c.self.inside.domain c.tighten.new.self c.self.inside.stops.items c.self.invariant.1
      (keeps_trans c.self.inside.domain c.reserve.new.self c.tighten.new.self
      (room_keeps c.self.inside.domain c.reserve.new.self c.in_ok-reserve.ensures.same)
      (tightening_keeps c.tighten.result c.reserve.new.self c.tighten.new.self c.args.col c.args.side c.args.value
      c.tighten.ensures.after)),
)

pub returns-clause-region : goal.returns-clause-region
returns-clause-region c = grind (arith, common_steps)

pub tighten-requires-clause-column : goal.tighten-requires-clause-column
tighten-requires-clause-column c = grind (arith, common_steps)

pub invariant_of-self : goal.invariant_of-self
invariant_of-self c = grind (arith, common_steps)

pub returns-clause-outcome : goal.returns-clause-outcome
returns-clause-outcome c = grind (arith, common_steps)

pub tighten-requires-clause-room : goal.tighten-requires-clause-room
tighten-requires-clause-room c = grind (arith, common_steps)

pub returns-in_err-reserve-clause-walked : goal.returns-in_err-reserve-clause-walked
returns-in_err-reserve-clause-walked c = λ slots root ids walked.
    walked_marks root slots ids _ _ refl c.self.invariant.1 (room_keeps _ _ c.in_err-reserve.ensures.same)
    (subst (IsWalked root slots ids) (sym c.self.view_is) walked)

pub returns-in_err-reserve-clause-outcome : goal.returns-in_err-reserve-clause-outcome
returns-in_err-reserve-clause-outcome c = IfOk-from_err c.from_residual.result _ c.from_residual.ensures.0

pub returns-in_err-reserve-clause-region : goal.returns-in_err-reserve-clause-region
returns-in_err-reserve-clause-region c = MatchResult-from_err c.from_residual.result _ _ c.from_residual.ensures.0
    (λ _. ap region_of c.in_err-reserve.ensures.same ∙ ap (λ (w : Way). region_of w.domain) c.self.view_is)
