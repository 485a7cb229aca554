use Rattle.std.proofs.Common.{◌∙◌, refl, sym, arith}
use Rattle.cip_solve.proofs.PassedOn.{near_columns}
use Rattle.cip_input.specs.WordsRead.{limits_of}
use Rattle.cip_main.proofs.Searches.{few_less, not_searched_still, room_for, pushed_there, searched_less}
use Rattle.cip_main.proofs.solving.search.Goals as goal

pub returns-then-is_err : goal.returns-then-is_err
returns-then-is_err g c =
    record {
      searched = not_searched_still c.args.program.now (limits_of c.args.limits.now) c.args.logs.now.items c.reserve.new.self.items _ _ c.unsearched.result c.reserve.ensures.items refl (c.unsearched.ensures.solved c.args.limits.now.nodes c.args.limits.now.gap) c.unsearched.ensures.trace;
    }

pub returns-in_default : goal.returns-in_default
returns-in_default g c =
    record {
      searched = not_searched_still c.args.program.now (limits_of c.args.limits.now) c.args.logs.now.items c.reserve.new.self.items _ _ c.unsearched-in_default.result c.reserve.ensures.items c.in_default.ensures.err (c.unsearched-in_default.ensures.solved c.args.limits.now.nodes c.args.limits.now.gap) c.unsearched-in_default.ensures.trace;
    }

pub solve-answer-requires-clause-near : goal.solve-answer-requires-clause-near
solve-answer-requires-clause-near g c = near_columns c.args.program.now c.requires.limited.near

pub solve-answer-requires-clause-few : goal.solve-answer-requires-clause-few
solve-answer-requires-clause-few g c = few_less (limits_of c.args.limits.now) _ _ c.in-Ok.ensures.less c.requires.few

pub push_reserved-requires : goal.push_reserved-requires
push_reserved-requires g c = room_for c.reserve.result _ _ (sym c.is_err.ensures.value ∙ c.if-is_err.false) c.reserve.ensures.ok

pub returns : goal.returns
returns g c =
    record {
      searched = searched_less c.args.program.now (limits_of c.args.limits.now) _ _ c.solve-answer.new.log _ _ _ c.solve-answer.result c.in-Ok.ensures.less (pushed_there _ _ _ c.solve-answer.new.log c.reserve.ensures.items c.push_reserved.ensures.items) c.solve-answer.ensures.solved c.solve-answer.ensures.kit;
    }

pub lessen-requires : goal.lessen-requires
lessen-requires g c = omega arith

pub solve-answer-requires-clause-some : goal.solve-answer-requires-clause-some
solve-answer-requires-clause-some g c = c.requires.some
