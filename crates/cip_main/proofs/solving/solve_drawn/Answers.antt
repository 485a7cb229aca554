use Rattle.std.proofs.lemmas.Grind.{common_steps}
use Rattle.std.proofs.Common.{arith, ap, map}
use Rattle.cip_input.specs.Jobs.{usual_limits}
use Rattle.cip_report.specs.Drawn.{drawn_of}
use Rattle.cip_main.specs.Answering.{self_told}
use Rattle.cip_main.proofs.Searches.{searched_usual, works_of}
use Rattle.cip_main.proofs.solving.solve_drawn.Goals as goal

pub returns : goal.returns
returns g c =
    let searched = searched_usual c.args.program.now _ _ _ _ _ c.search-answer.result (ap (map (λ name. name.now)) c.new.ensures.items) c.search-answer.ensures.searched in
    works_of c.args.program.now usual_limits (self_told (drawn_of c.args.drawn)) _ _ _ _ c.search-answer.result _ _ _ c.requires.limited (omega arith) searched c.tell_drawn.ensures

pub search-answer-requires-clause-few : goal.search-answer-requires-clause-few
search-answer-requires-clause-few g c = grind (arith, common_steps)

pub search-answer-requires-clause-limited : goal.search-answer-requires-clause-limited
search-answer-requires-clause-limited g c = grind (arith, common_steps)

pub search-answer-requires-clause-some : goal.search-answer-requires-clause-some
search-answer-requires-clause-some g c = grind (arith, common_steps)
