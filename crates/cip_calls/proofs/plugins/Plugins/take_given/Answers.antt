use Rattle.std.proofs.Common.{◌≡◌, ◌≢◌, IfOk, length, refl, sym, ap, ◌∙◌, subst}
use Rattle.cip_plugin.specs.Asking.{answer_of}
use Rattle.cip_calls.specs.Asked.{ask_in}
use Rattle.cip_calls.specs.Noted.{HasJudged}
use Rattle.cip_calls.specs.Served.{count_for}
use Rattle.cip_calls.specs.declared.asks.Round.{Round}
use Rattle.cip_calls.specs.declared.judging.Came.TheVariants.{Emptied}
use Rattle.cip_calls.proofs.Serving.{all_ok, never_empty, judged_open}
use Rattle.cip_calls.proofs.plugins.Plugins.take_given.Goals as goal

-- ---- sides

pub take_sides-requires-clause-ready : goal.take_sides-requires-clause-ready
take_sides-requires-clause-ready g c = c.requires.ready

pub take_sides-requires-clause-sound : goal.take_sides-requires-clause-sound
take_sides-requires-clause-sound g c = c.requires.sound

pub take_sides-requires-clause-seat : goal.take_sides-requires-clause-seat
take_sides-requires-clause-seat g c = c.requires.seat

pub returns-in-Sides-clause-gone : goal.returns-in-Sides-clause-gone
returns-in-Sides-clause-gone g c = c.take_sides.ensures.gone

pub returns-in-Sides-clause-judged : goal.returns-in-Sides-clause-judged
returns-in-Sides-clause-judged g c =
    let count : length c.sides_of.result.now ≡ count_for (ask_in c.args.round) (answer_of c.args.given.now) =
    c.sides_of.ensures ∙ sym (ap (λ (r : Round). count_for (ask_in r) (answer_of c.args.given.now)) c.in-Sides.is) in
    subst (λ n. IfOk c.take_sides.result (λ came. came ≢ Emptied → HasJudged c.args.id n c.args.self.now.judged.items c.take_sides.new.self.judged.items)) count
    c.take_sides.ensures.judged

pub returns-in-Sides-clause-emptied : goal.returns-in-Sides-clause-emptied
returns-in-Sides-clause-emptied g c = c.take_sides.ensures.emptied

pub returns-in-Sides-clause-node : goal.returns-in-Sides-clause-node
returns-in-Sides-clause-node g c = λ other. absurd (other c.in-Sides.is)

pub returns-in-Sides-clause-rows : goal.returns-in-Sides-clause-rows
returns-in-Sides-clause-rows g c = all_ok c.take_sides.result _ (λ came quiet. c.take_sides.ensures.pool)

pub returns-in-Sides-clause-pool : goal.returns-in-Sides-clause-pool
returns-in-Sides-clause-pool g c = λ other. c.take_sides.ensures.pool

pub returns-in-Sides-clause-sides : goal.returns-in-Sides-clause-sides
returns-in-Sides-clause-sides g c = all_ok c.take_sides.result _ (λ came empty. c.in-Sides.is)

-- ---- cuts

pub take_cuts-requires-clause-ready : goal.take_cuts-requires-clause-ready
take_cuts-requires-clause-ready g c = c.requires.ready

pub take_cuts-requires-clause-sound : goal.take_cuts-requires-clause-sound
take_cuts-requires-clause-sound g c = c.requires.sound

pub take_cuts-requires-clause-seat : goal.take_cuts-requires-clause-seat
take_cuts-requires-clause-seat g c = c.requires.seat

pub returns-in-Cuts-clause-gone : goal.returns-in-Cuts-clause-gone
returns-in-Cuts-clause-gone g c = c.take_cuts.ensures.gone

pub returns-in-Cuts-clause-judged : goal.returns-in-Cuts-clause-judged
returns-in-Cuts-clause-judged g c =
    let count : length c.cuts_of.result.now ≡ count_for (ask_in c.args.round) (answer_of c.args.given.now) =
    c.cuts_of.ensures ∙ sym (ap (λ (r : Round). count_for (ask_in r) (answer_of c.args.given.now)) c.in-Cuts.is) in
    judged_open c.take_cuts.result c.args.id _ _ c.args.self.now.judged.items c.take_cuts.new.self.judged.items count c.take_cuts.ensures.judged

pub returns-in-Cuts-clause-emptied : goal.returns-in-Cuts-clause-emptied
returns-in-Cuts-clause-emptied g c = never_empty c.take_cuts.result _ c.take_cuts.ensures.open_

pub returns-in-Cuts-clause-node : goal.returns-in-Cuts-clause-node
returns-in-Cuts-clause-node g c = λ other. record { node = refl; region = c.take_cuts.ensures.region }

pub returns-in-Cuts-clause-rows : goal.returns-in-Cuts-clause-rows
returns-in-Cuts-clause-rows g c = c.take_cuts.ensures.rows

pub returns-in-Cuts-clause-pool : goal.returns-in-Cuts-clause-pool
returns-in-Cuts-clause-pool g c = λ other. absurd (other c.in-Cuts.is)

pub returns-in-Cuts-clause-sides : goal.returns-in-Cuts-clause-sides
returns-in-Cuts-clause-sides g c = never_empty c.take_cuts.result _ c.take_cuts.ensures.open_

-- ---- points

pub take_points-requires-clause-ready : goal.take_points-requires-clause-ready
take_points-requires-clause-ready g c = c.requires.ready

pub take_points-requires-clause-sound : goal.take_points-requires-clause-sound
take_points-requires-clause-sound g c = c.requires.sound

pub take_points-requires-clause-seat : goal.take_points-requires-clause-seat
take_points-requires-clause-seat g c = c.requires.seat

pub returns-in-Points-clause-gone : goal.returns-in-Points-clause-gone
returns-in-Points-clause-gone g c = c.take_points.ensures.gone

pub returns-in-Points-clause-judged : goal.returns-in-Points-clause-judged
returns-in-Points-clause-judged g c =
    let count : length c.points_of.result.now ≡ count_for (ask_in c.args.round) (answer_of c.args.given.now) =
    c.points_of.ensures ∙ sym (ap (λ (r : Round). count_for (ask_in r) (answer_of c.args.given.now)) c.in-Points.is) in
    judged_open c.take_points.result c.args.id _ _ c.args.self.now.judged.items c.take_points.new.self.judged.items count c.take_points.ensures.judged

pub returns-in-Points-clause-emptied : goal.returns-in-Points-clause-emptied
returns-in-Points-clause-emptied g c = never_empty c.take_points.result _ c.take_points.ensures.open_

pub returns-in-Points-clause-node : goal.returns-in-Points-clause-node
returns-in-Points-clause-node g c = λ other. record { node = refl; region = c.take_points.ensures.region }

pub returns-in-Points-clause-rows : goal.returns-in-Points-clause-rows
returns-in-Points-clause-rows g c = all_ok c.take_points.result _ (λ came quiet. c.take_points.ensures.pool)

pub returns-in-Points-clause-pool : goal.returns-in-Points-clause-pool
returns-in-Points-clause-pool g c = λ other. c.take_points.ensures.pool

pub returns-in-Points-clause-sides : goal.returns-in-Points-clause-sides
returns-in-Points-clause-sides g c = never_empty c.take_points.result _ c.take_points.ensures.open_
