use Rattle.std.proofs.lemmas.Grind.{common_steps}
use Rattle.std.proofs.Common.{arith}
use Rattle.cip_search.specs.Figures.{names_of}
use Rattle.cip_search.specs.TraceTexts.{traced_text}
use Rattle.cip_input.specs.WordsRead.{limits_of}
use Rattle.cip_main.proofs.Searches.{works_of, fits}
use Rattle.cip_main.proofs.solving.solve_and_report.Goals as goal

pub tell-requires : goal.tell-requires
tell-requires g c = fits c.args.program.now (limits_of c.args.limits.now) _ _ _ _ c.search-answer.result c.requires.limited c.search-answer.ensures.searched

pub returns : goal.returns
returns g c =
    works_of c.args.program.now (limits_of c.args.limits.now) (traced_text (names_of c.args.program.now)) _ _ _ _ c.search-answer.result _ _ _ c.requires.limited c.requires.some c.search-answer.ensures.searched c.tell.ensures

pub search-answer-requires-clause-some : goal.search-answer-requires-clause-some
search-answer-requires-clause-some g c = grind (arith, common_steps)

pub search-answer-requires-clause-few : goal.search-answer-requires-clause-few
search-answer-requires-clause-few g c = grind (arith, common_steps)

pub search-answer-requires-clause-limited : goal.search-answer-requires-clause-limited
search-answer-requires-clause-limited g c = grind (arith, common_steps)
