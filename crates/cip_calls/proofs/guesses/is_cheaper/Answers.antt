use Rattle.std.proofs.lemmas.Grind.{common_steps}
use Rattle.std.proofs.Common.{◌∙◌, sym, ap, arith}
use Rattle.std.specs.Prelude.{Option}
use Rattle.cip_rational.specs.Rational.{ℚ}
use Rattle.cip_rational.proofs.Comparisons.{is_lt-compare}
use Rattle.cip_calls.specs.GuessesJudged.{costs_less}
use Rattle.cip_calls.proofs.guesses.is_cheaper.Goals as goal

pub returns-in-Some : goal.returns-in-Some
returns-in-Some c = c.lt.ensures ∙ is_lt-compare _ _ ∙ ap (λ (h : Option ℚ). costs_less c.args.cost h) (sym c.in-Some.is)

pub returns-in-None : goal.returns-in-None
returns-in-None c = grind (arith, common_steps)
