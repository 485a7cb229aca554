use Rattle.std.proofs.lemmas.Grind.{common_steps}
use Rattle.std.proofs.Common.{sym, ◌∙◌, arith}
use Rattle.cip_roster.proofs.StillRanked.{ranked_of, ranking_made, sound_without}
use Rattle.cip_roster.proofs.calling.ranked.Goals as goal

pub returns-in-Some-clause-sound : goal.returns-in-Some-clause-sound
returns-in-Some-clause-sound g c =
    sound_without c.args.kind (g.R.Seated.state c.args.roster.now) (g.R.Seated.state c.take_ranking.new.self)
    (g.R.Seated.room c.args.roster.now) (g.R.Seated.room c.take_ranking.new.self) c.take_ranking.ensures.state
    c.take_ranking.ensures.lines c.take_ranking.ensures.left c.requires.sound

pub returns-in-Some-clause-ranking : goal.returns-in-Some-clause-ranking
returns-in-Some-clause-ranking g c =
    ranked_of c.args.kind (g.R.Seated.state c.args.roster.now).seats (g.R.Seated.room c.args.roster.now).rankings
    c.in-Some.keys c.requires.sound.ranked (sym c.in-Some.is ∙ c.take_ranking.ensures.taken)

pub returns-in-None-clause-sound : goal.returns-in-None-clause-sound
returns-in-None-clause-sound g c =
    sound_without c.args.kind (g.R.Seated.state c.args.roster.now) (g.R.Seated.state c.take_ranking.new.self)
    (g.R.Seated.room c.args.roster.now) (g.R.Seated.room c.take_ranking.new.self) c.take_ranking.ensures.state
    c.take_ranking.ensures.lines c.take_ranking.ensures.left c.requires.sound

pub returns-in-None-clause-ranking : goal.returns-in-None-clause-ranking
returns-in-None-clause-ranking g c =
    ranking_made c.args.kind (g.R.Seated.state c.args.roster.now) (g.R.Seated.state c.take_ranking.new.self)
    c.ranking.result c.take_ranking.ensures.state c.ranking.ensures.permutation c.ranking.ensures.sorted

pub ranking-requires : goal.ranking-requires
ranking-requires g c = grind (arith, common_steps)

pub returns-in-Some-clause-state : goal.returns-in-Some-clause-state
returns-in-Some-clause-state g c = grind (arith, common_steps)

pub returns-in-None-clause-state : goal.returns-in-None-clause-state
returns-in-None-clause-state g c = grind (arith, common_steps)
