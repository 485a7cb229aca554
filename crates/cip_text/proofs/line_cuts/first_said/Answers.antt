use Rattle.std.proofs.lemmas.Grind.{common_steps}
use Rattle.std.proofs.Common.{◌<◌, length, sym, ◌∙◌, arith}
use Rattle.cip_text.specs.TextLines.{content_of}
use Rattle.cip_text.proofs.Cuts.{filled, behind_shorter, silent_line, said_line_at}
use Rattle.cip_text.proofs.line_cuts.first_said.Goals as goal

pub returns-in-Some-clause-says : goal.returns-in-Some-clause-says
returns-in-Some-clause-says c =
    sym c.loop-rest.invariant.same
    ∙ said_line_at c.args.comment c.loop-rest.number c.in-Some.found.number c.loop-rest.rest.now c.cut.result.0.now c.cut.result.1.now (content_of c.in-Some.found)
    (filled c.loop-rest.rest.now (sym c.loop-rest-test.ensures)) c.cut.ensures.before c.cut.ensures.after c.in-Some.ensures.says c.in-Some.ensures.is_number

pub loop-rest-preserved : goal.loop-rest-preserved
loop-rest-preserved c =
    let some : 0 < length c.loop-rest.rest.now = filled c.loop-rest.rest.now (sym c.loop-rest-test.ensures) in
    record {
      counted = omega (arith, behind_shorter c.loop-rest.rest.now c.cut.result.1.now some c.cut.ensures.after, c.loop-rest.invariant.counted);
      same =
          sym (silent_line c.args.comment c.loop-rest.number c.loop-rest.rest.now c.cut.result.0.now c.cut.result.1.now some c.cut.ensures.before c.cut.ensures.after (sym c.in_default.ensures.says))
          ∙ c.loop-rest.invariant.same;
    }

pub loop-rest-smaller : goal.loop-rest-smaller
loop-rest-smaller c = grind (arith, common_steps)

pub returns-in-Some-clause-counted : goal.returns-in-Some-clause-counted
returns-in-Some-clause-counted c = grind (arith, common_steps)

pub returns-clause-says : goal.returns-clause-says
returns-clause-says c = grind (arith, common_steps)

pub overflow_add-number : goal.overflow_add-number
overflow_add-number c = grind (arith, common_steps)

pub returns-clause-counted : goal.returns-clause-counted
returns-clause-counted c = grind (arith, common_steps)

pub loop-rest-init : goal.loop-rest-init
loop-rest-init c = grind (arith, common_steps)
