use Rattle.std.proofs.lemmas.Grind.{common_steps}
use Rattle.std.proofs.Common.{◌≡◌, ◌∙◌, List, MatchResult, sym, ap, subst, length, arith}
use Rattle.cip_rational.specs.Rational.{ℚ}
use Rattle.cip_problem.specs.Program.{Row}
use Rattle.cip_problem.specs.Activity.{StandsBelow}
use Rattle.cip_problem.specs.Cuts.{row_of}
use Rattle.cip_problem.proofs.Rows.{row_stands}
use Rattle.cip_rows.specs.Adding.{IsAdded}
use Rattle.cip_rows.proofs.pools.RowPool.add.Goals as goal

pub refused-requires-clause-print : goal.refused-requires-clause-print
refused-requires-clause-print c = c.fingerprint-print.ensures

pub refused-requires-clause-columns : goal.refused-requires-clause-columns
refused-requires-clause-columns c = c.requires.columns

pub push-requires-clause-print : goal.push-requires-clause-print
push-requires-clause-print c = c.fingerprint-print.ensures

pub push-requires-clause-columns : goal.push-requires-clause-columns
push-requires-clause-columns c = c.requires.columns

pub push-requires-clause-stands : goal.push-requires-clause-stands
push-requires-clause-stands c =
    let made : c.in-Ok.row ≡ row_of (record { coefficients = c.entries.result.now; least = c.args.least }) = c.in-Ok.ensures in
    let count : length c.entries.result.now ≡ c.args.self.now.columns = ap length c.entries.ensures.entries ∙ c.requires.coefficients in
    subst (λ (r : Row). StandsBelow c.args.self.now.columns r.terms) (sym made) (subst (λ n. StandsBelow n (row_of (record { coefficients = c.entries.result.now; least = c.args.least })).terms) count (row_stands (record { coefficients = c.entries.result.now; least = c.args.least })))

pub push-requires-clause-new : goal.push-requires-clause-new
push-requires-clause-new c = c.in-None.ensures

pub returns-in-Some-clause-added : goal.returns-in-Some-clause-added
returns-in-Some-clause-added c =
    let made = c.in-Ok.ensures ∙ ap (λ (xs : List ℚ). row_of (record { coefficients = xs; least = c.args.least })) c.entries.ensures.entries in
    subst (λ (r : Row). IsAdded c.args.self.now r c.args.scope.now c.args.rests c.args.self.now c.in-Some.added) made (c.in-Some.ensures c.args.rests)

pub returns-in-None-clause-added : goal.returns-in-None-clause-added
returns-in-None-clause-added c =
    let made = c.in-Ok.ensures ∙ ap (λ (xs : List ℚ). row_of (record { coefficients = xs; least = c.args.least })) c.entries.ensures.entries in
    subst (λ (r : Row). MatchResult c.push.result (IsAdded c.args.self.now r c.args.scope.now c.args.rests c.push.new.self) (λ _. c.push.new.self ≡ c.args.self.now)) made c.push.ensures.added

pub returns-in-None-clause-columns : goal.returns-in-None-clause-columns
returns-in-None-clause-columns c = c.push.ensures.columns

pub row_from-requires : goal.row_from-requires
row_from-requires c = grind (arith, common_steps)

pub returns-in-Some-clause-columns : goal.returns-in-Some-clause-columns
returns-in-Some-clause-columns c = grind (arith, common_steps)

pub returns-in_default-clause-added : goal.returns-in_default-clause-added
returns-in_default-clause-added c = grind (arith, common_steps)

pub returns-in_default-clause-columns : goal.returns-in_default-clause-columns
returns-in_default-clause-columns c = grind (arith, common_steps)

pub same-self-2 : goal.same-self-2
same-self-2 c = grind (arith, common_steps)

pub same-self : goal.same-self
same-self c = grind (arith, common_steps)
