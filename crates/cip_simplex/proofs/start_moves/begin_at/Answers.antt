use Rattle.std.proofs.Common.{◌≡◌, None, sym, ap, ◌∙◌, arith}
use Rattle.cip_bland.specs.Dictionary.{size}
use Rattle.cip_simplex.specs.LpShape.{variables}
use Rattle.cip_simplex.specs.Starts.{Begun, begun_through, flipping_move, begun}
use Rattle.cip_simplex.proofs.Solved.{first_size}
use Rattle.cip_simplex.proofs.Begins.{stays_wide, if_ok}
use Rattle.cip_simplex.proofs.start_moves.begin_at.Goals as goal

pub make_each-requires-clause-few : goal.make_each-requires-clause-few
make_each-requires-clause-few c = omega (arith, ap size c.requires.first ∙ first_size c.args.lp.now, c.columns-columns.ensures.solvable.few)

pub make_each-requires-clause-long : goal.make_each-requires-clause-long
make_each-requires-clause-long c = c.requires.long ∙ sym (ap size c.requires.first ∙ first_size c.args.lp.now)

pub make_each-requires-clause-within : goal.make_each-requires-clause-within
make_each-requires-clause-within c = omega (arith, ap size c.requires.first ∙ first_size c.args.lp.now, c.columns-columns.ensures.columns)

pub returns-in-Some-clause-begun : goal.returns-in-Some-clause-begun
returns-in-Some-clause-begun c =
    let made = rw (c.requires.first, c.requires.empty, c.columns-columns.ensures.columns) at (c.in_ok-wide.ensures.made ∙ ap (λ w. record { moves = c.make_each.new.moves.items; last = c.make_each.new.dict; wide = w }) c.in-Some.is) in
    ap (begun_through (variables c.args.lp.now) (flipping_move c.args.start.now)) made
    ∙ stays_wide (flipping_move c.args.start.now) (variables c.args.lp.now) c.make_each.new.moves.items c.make_each.new.dict c.in-Some.wide

pub returns-in-Some-clause-variables : goal.returns-in-Some-clause-variables
returns-in-Some-clause-variables c = c.in_ok-wide.ensures.variables ∙ ap size c.requires.first ∙ first_size c.args.lp.now

pub make_each-requires-2-clause-few : goal.make_each-requires-2-clause-few
make_each-requires-2-clause-few c = omega (arith, c.in_ok-wide.ensures.variables, ap size c.requires.first ∙ first_size c.args.lp.now, c.columns-columns.ensures.solvable.few)

pub make_each-requires-2-clause-long : goal.make_each-requires-2-clause-long
make_each-requires-2-clause-long c = c.requires.long ∙ sym (c.in_ok-wide.ensures.variables ∙ ap size c.requires.first ∙ first_size c.args.lp.now)

pub make_each-requires-2-clause-within : goal.make_each-requires-2-clause-within
make_each-requires-2-clause-within c = omega (arith, c.in_ok-wide.ensures.variables, ap size c.requires.first ∙ first_size c.args.lp.now, c.len.ensures)

pub returns-clause-begun : goal.returns-clause-begun
returns-clause-begun c =
    let made = rw (c.requires.first, c.requires.empty, c.columns-columns.ensures.columns) at (c.in_ok-wide.ensures.made ∙ ap (λ w. record { moves = c.make_each.new.moves.items; last = c.make_each.new.dict; wide = w }) c.in_default.is) in
    let entered : Begun = record { moves = c.make_each.new.moves.items; last = c.make_each.new.dict; wide = None } in
    if_ok (λ wide. begun_through c.len.result (flipping_move c.args.start.now) entered ≡ record { moves = c.make_each-2.new.moves.items; last = c.make_each-2.new.dict; wide = wide })
    (λ wide. begun c.args.lp.now c.args.start.now ≡ record { moves = c.make_each-2.new.moves.items; last = c.make_each-2.new.dict; wide = wide })
    c.make_each-2.result
    (λ wide e. ap (begun_through (variables c.args.lp.now) (flipping_move c.args.start.now)) made ∙ sym (ap (λ n. begun_through n (flipping_move c.args.start.now) entered) c.len.ensures) ∙ e)
    c.make_each-2.ensures.made

pub returns-clause-variables : goal.returns-clause-variables
returns-clause-variables c =
    if_ok (λ wide. size c.make_each-2.new.dict ≡ size c.make_each.new.dict) (λ wide. size c.make_each-2.new.dict ≡ variables c.args.lp.now) c.make_each-2.result
    (λ wide e. e ∙ c.in_ok-wide.ensures.variables ∙ ap size c.requires.first ∙ first_size c.args.lp.now)
    c.make_each-2.ensures.variables
