use Rattle.cip_bland.proofs.SideCases.{true_of_not}
use Rattle.cip_bland.proofs.MovesMade.{from_not}
use Rattle.cip_problem.specs.Box.{sides_at}
use Rattle.cip_bland.specs.Headings.{goal_ahead, heading_for}
use Rattle.std.proofs.lemmas.Grind.{common_steps}
use Rattle.std.proofs.Common.{◌≡◌, is_some, sym, ◌∙◌, arith, not, ap, ap₂}
use Rattle.cip_bland.specs.Dictionary.{size, entry}
use Rattle.cip_bland.specs.Rule.{way_of}
use Rattle.cip_simplex.proofs.Shortest.{none_more, some_at, some_own, some_basic, some_zero, some_nonbasic}
use Rattle.cip_simplex.proofs.ways.has_way.Goals as goal
use Rattle.cip_simplex.proofs.ways.has_way.Goals.{then-v-j, else-v-j+then-is_none+then-has_entry, else-v-j+else-is_none, else-is_none-via-then-is_none+else-has_entry, else-is_none-via-else-is_none}

pub returns-then-is_some : goal.returns-then-is_some
returns-then-is_some c =
    let same : is_some c.if-v-j.goal ≡ is_some (way_of c.args.dict.now c.args.j c.loop-v.v) =
    elim c.if-v-j.branch [
      | then-v-j w ↦ some_own c.args.dict.now c.args.j c.loop-v.v c.if-v-j.goal w.if-v-j.true (w.goal-is ∙ w.goal_ahead-goal.ensures ∙ ap₂ goal_ahead c.falling_heading-heading.ensures w.sides.ensures)
      | else-v-j+then-is_none+then-has_entry w ↦ some_basic c.args.dict.now c.args.j c.loop-v.v c.if-v-j.goal w.if-v-j.false (ap not (sym (ap is_some w.stand.ensures) ∙ w.if-is_none.ensures)) (from_not _ (sym w.has_entry.ensures ∙ w.if-has_entry.true)) (w.goal-is ∙ w.basic_goal.ensures ∙ ap (λ h. goal_ahead (heading_for h (entry c.args.dict.now c.loop-v.v c.args.j)) (sides_at c.args.dict.now.sides c.loop-v.v)) c.falling_heading-heading.ensures)
      | else-v-j+else-is_none w ↦
          elim w.else-is_none.branch [
            | else-is_none-via-then-is_none+else-has_entry u ↦ some_zero c.args.dict.now c.args.j c.loop-v.v c.if-v-j.goal w.if-v-j.false (ap not (sym (ap is_some w.stand.ensures) ∙ u.if-is_none.ensures)) (true_of_not _ (sym u.has_entry.ensures ∙ u.if-has_entry.false)) w.goal-is
            | else-is_none-via-else-is_none u ↦ some_nonbasic c.args.dict.now c.args.j c.loop-v.v c.if-v-j.goal w.if-v-j.false (ap not (sym (ap is_some w.stand.ensures) ∙ u.if-is_none.ensures)) w.goal-is
          ]
    ] in
    sym (some_at (size c.args.dict.now) c.loop-v.v (way_of c.args.dict.now c.args.j) (omega arith) (sym same ∙ sym c.is_some.ensures ∙ c.if-is_some.true))

pub loop-v-preserved : goal.loop-v-preserved
loop-v-preserved c =
    let same : is_some c.if-v-j.goal ≡ is_some (way_of c.args.dict.now c.args.j c.loop-v.v) =
    elim c.if-v-j.branch [
      | then-v-j w ↦ some_own c.args.dict.now c.args.j c.loop-v.v c.if-v-j.goal w.if-v-j.true (w.goal-is ∙ w.goal_ahead-goal.ensures ∙ ap₂ goal_ahead c.falling_heading-heading.ensures w.sides.ensures)
      | else-v-j+then-is_none+then-has_entry w ↦ some_basic c.args.dict.now c.args.j c.loop-v.v c.if-v-j.goal w.if-v-j.false (ap not (sym (ap is_some w.stand.ensures) ∙ w.if-is_none.ensures)) (from_not _ (sym w.has_entry.ensures ∙ w.if-has_entry.true)) (w.goal-is ∙ w.basic_goal.ensures ∙ ap (λ h. goal_ahead (heading_for h (entry c.args.dict.now c.loop-v.v c.args.j)) (sides_at c.args.dict.now.sides c.loop-v.v)) c.falling_heading-heading.ensures)
      | else-v-j+else-is_none w ↦
          elim w.else-is_none.branch [
            | else-is_none-via-then-is_none+else-has_entry u ↦ some_zero c.args.dict.now c.args.j c.loop-v.v c.if-v-j.goal w.if-v-j.false (ap not (sym (ap is_some w.stand.ensures) ∙ u.if-is_none.ensures)) (true_of_not _ (sym u.has_entry.ensures ∙ u.if-has_entry.false)) w.goal-is
            | else-is_none-via-else-is_none u ↦ some_nonbasic c.args.dict.now c.args.j c.loop-v.v c.if-v-j.goal w.if-v-j.false (ap not (sym (ap is_some w.stand.ensures) ∙ u.if-is_none.ensures)) w.goal-is
          ]
    ] in
    none_more c.loop-v.v (way_of c.args.dict.now c.args.j) c.loop-v.invariant (sym same ∙ sym c.is_some.ensures ∙ c.if-is_some.false)

pub returns : goal.returns
returns c =
    let end : c.loop-v.v ≡ size c.args.dict.now = omega arith in
    sym (rw end at c.loop-v.invariant)

pub basic_goal-requires-clause-leaving : goal.basic_goal-requires-clause-leaving
basic_goal-requires-clause-leaving c = grind (arith, common_steps)

pub basic_goal-requires-clause-entering : goal.basic_goal-requires-clause-entering
basic_goal-requires-clause-entering c = grind (arith, common_steps)

pub has_entry-requires-clause-within : goal.has_entry-requires-clause-within
has_entry-requires-clause-within c = grind (arith, common_steps)

pub has_entry-requires-clause-on : goal.has_entry-requires-clause-on
has_entry-requires-clause-on c = grind (arith, common_steps)

pub basic_goal-requires-clause-basic : goal.basic_goal-requires-clause-basic
basic_goal-requires-clause-basic c = grind (arith, common_steps)

pub has_entry-requires-clause-basic : goal.has_entry-requires-clause-basic
has_entry-requires-clause-basic c = grind (arith, common_steps)

pub sides-requires : goal.sides-requires
sides-requires c = grind (arith, common_steps)

pub stand-requires : goal.stand-requires
stand-requires c = grind (arith, common_steps)

pub falling_heading-heading-requires : goal.falling_heading-heading-requires
falling_heading-heading-requires c = grind (arith, common_steps)

pub overflow_cast-v : goal.overflow_cast-v
overflow_cast-v c = grind (arith, common_steps)
