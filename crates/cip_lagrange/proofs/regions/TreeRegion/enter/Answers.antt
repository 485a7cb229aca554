use Rattle.std.proofs.Common.{length, sym, ap, ◌∙◌}
use Rattle.cip_problem.specs.Choices.{is_open}
use Rattle.cip_problem.specs.Program.{Plain}
use Rattle.cip_problem.specs.Box.{no_sides}
use Rattle.cip_lagrange.proofs.Entered.{back, into_whole, into_open, not_open, length-slice_set}
use Rattle.cip_lagrange.proofs.regions.TreeRegion.enter.Goals as goal

pub returns-in-Some-clause-bounds : goal.returns-in-Some-clause-bounds
returns-in-Some-clause-bounds c = back c.args.self.now.bounds c.set.new.self.bounds c.args.half.col
    c.open_half-sides.result no_sides c.set.ensures.bounds

pub returns-in-Some-clause-choices : goal.returns-in-Some-clause-choices
returns-in-Some-clause-choices c = back c.args.self.now.choices c.set.new.self.choices c.args.half.col c.made.result
    Plain c.set.ensures.choices

pub returns-in-None-clause-half : goal.returns-in-None-clause-half
returns-in-None-clause-half c =
    into_whole c.args.half.is_high c.args.self.now.bounds c.args.self.now.choices c.args.half.col c.args.half.at
    c.sides-sides.result c.whole_half-sides.result c.at-choice.result c.own.result c.set-in-None.new.self.bounds
    c.set-in-None.new.self.choices
    c.sides-sides.ensures c.at-choice.ensures c.own.ensures c.in-None.is c.whole_half-sides.ensures
    c.set-in-None.ensures.bounds c.set-in-None.ensures.choices

pub returns-in-None-clause-bounds : goal.returns-in-None-clause-bounds
returns-in-None-clause-bounds c = back c.args.self.now.bounds c.set-in-None.new.self.bounds c.args.half.col
    c.whole_half-sides.result no_sides c.set-in-None.ensures.bounds

pub set-requires : goal.set-requires
set-requires c = c.requires.inside

pub set-requires-in-None : goal.set-requires-in-None
set-requires-in-None c = c.requires.inside

pub whole_half-sides-requires : goal.whole_half-sides-requires
whole_half-sides-requires c =
    c.requires.near (ap is_open (sym c.at-choice.ensures)
    ∙ not_open c.at-choice.result (sym c.own.ensures ∙ c.in-None.is))

pub returns-in-Some-clause-half : goal.returns-in-Some-clause-half
returns-in-Some-clause-half c =
    into_open c.args.half.is_high c.args.self.now.bounds c.args.self.now.choices c.args.half.col c.args.half.at
    c.sides-sides.result c.open_half-sides.result c.in-Some.own c.at-choice.result c.made.result c.own.result
    c.set.new.self.bounds c.set.new.self.choices
    c.sides-sides.ensures c.at-choice.ensures c.own.ensures c.in-Some.is c.open_half-sides.ensures c.made.ensures
    c.set.ensures.bounds c.set.ensures.choices

pub returns-in-Some-clause-columns : goal.returns-in-Some-clause-columns
returns-in-Some-clause-columns c = ap length c.set.ensures.bounds ∙ length-slice_set _ _ _

pub returns-in-None-clause-choices : goal.returns-in-None-clause-choices
returns-in-None-clause-choices c =
    back c.args.self.now.choices c.set-in-None.new.self.choices c.args.half.col c.at-choice.result Plain
    c.set-in-None.ensures.choices

pub returns-in-None-clause-columns : goal.returns-in-None-clause-columns
returns-in-None-clause-columns c = ap length c.set-in-None.ensures.bounds ∙ length-slice_set _ _ _
