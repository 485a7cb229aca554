use Rattle.std.proofs.lemmas.Grind.{common_steps}
use Rattle.std.proofs.Common.{false, Option, IfSome, sym, ap, ◌∙◌, subst, refl, arith}
use Rattle.cip_problem.specs.Log.{matters}
use Rattle.cip_calls.specs.CoreStates.{CoreState, held_of}
use Rattle.cip_plugin.specs.declared.proposals.Split.{Split}
use Rattle.cip_calls.specs.SplitsJudged.{IsPlace}
use Rattle.cip_calls.specs.Served.{Used}
use Rattle.std.proofs.lemmas.Result.{IfOk-weaker}
use Rattle.cip_calls.specs.Enforcing.{asked_of_rules}
use Rattle.std.specs.Prelude.{Bool}
use Rattle.cip_rows.specs.RowPools.{Pool}
use Rattle.cip_node.specs.declared.ends.NodeEnd.TheVariants.{Pruned}
use Rattle.cip_solve.proofs.Closing.{pruned_here}
use Rattle.cip_solve.proofs.Coming.{ran_none}
use Rattle.cip_solve.proofs.Using.{by_rule, by_plugin, by_bound}
use Rattle.cip_solve.proofs.ending.end_open.Goals as goal

pub ask_rules-requires-clause-at_work : goal.ask_rules-requires-clause-at_work
ask_rules-requires-clause-at_work g c = record { up = c.requires.up.0; region = c.requires.open_.0.full.region }

pub returns-in-Err-clause-kept : goal.returns-in-Err-clause-kept
returns-in-Err-clause-kept g c =
    (ap (λ (k : CoreState). k.pool) c.go_back.ensures.frame, c.ask_rules.ensures.sound, c.ask_rules.ensures.run, c.ask_rules.ensures.scratches)

pub end_parted-requires-clause-place : goal.end_parted-requires-clause-place
end_parted-requires-clause-place g c = subst (λ (f : Option Split). IfSome f (λ split. IsPlace c.args.work.now.core split.col split.at)) c.in-Ok-Some.field-0-is c.in-Ok-Some.ensures.place

pub returns-in-Ok-Some-clause-used : goal.returns-in-Ok-Some-clause-used
returns-in-Ok-Some-clause-used g c =
    IfOk-weaker c.end_parted.result _ _
    (λ done some. by_plugin done.proposed done.end _ _ _ _ some (subst (λ f. Used (asked_of_rules f) (g.R.Seated.state c.args.plugins.now.roster) c.args.plugins.now.judged.items (g.R.Seated.state c.ask_rules.new.plugins.roster) c.ask_rules.new.plugins.judged.items) c.in-Ok-Some.field-0-is c.in-Ok-Some.ensures.used))
    c.end_parted.ensures.proposed

pub returns-in-Ok-Some-clause-kept : goal.returns-in-Ok-Some-clause-kept
returns-in-Ok-Some-clause-kept g c =
    (c.end_parted.ensures.pool, c.ask_rules.ensures.sound, c.ask_rules.ensures.run, c.ask_rules.ensures.scratches)

pub end_parted-requires-clause-up : goal.end_parted-requires-clause-up
end_parted-requires-clause-up g c = c.requires.up

pub go_back-requires-clause-up : goal.go_back-requires-clause-up
go_back-requires-clause-up g c = c.requires.up.0

pub go_back-requires-clause-given : goal.go_back-requires-clause-given
go_back-requires-clause-given g c = c.requires.up.2

pub returns-in-Err-clause-ended : goal.returns-in-Err-clause-ended
returns-in-Err-clause-ended g c = grind (arith, common_steps)

pub returns-in-Ok-Some-clause-ended : goal.returns-in-Ok-Some-clause-ended
returns-in-Ok-Some-clause-ended g c = grind (arith, common_steps)

pub close_pruned-requires-clause-up : goal.close_pruned-requires-clause-up
close_pruned-requires-clause-up g c = c.requires.up.0

pub close_pruned-requires-clause-passed : goal.close_pruned-requires-clause-passed
close_pruned-requires-clause-passed g c =
    let core = c.args.work.now.core in
    sym (c.matters.ensures ∙ ap (λ h. matters h c.bound.result) c.held_cost.ensures ∙ ap (matters (held_of core)) c.bound.ensures) ∙ c.if-not-matters.true

pub returns-then-not-matters-clause-ended : goal.returns-then-not-matters-clause-ended
returns-then-not-matters-clause-ended g c =
    let core = c.args.work.now.core in
    pruned_here core c.close_pruned.new.self c.args.node c.args.found c.close_pruned.ensures.frame c.requires.open_.1 c.close_pruned.ensures.left
    (sym (c.matters.ensures ∙ ap (λ h. matters h c.bound.result) c.held_cost.ensures ∙ ap (matters (held_of core)) c.bound.ensures) ∙ c.if-not-matters.true)

pub returns-then-not-matters-clause-used : goal.returns-then-not-matters-clause-used
returns-then-not-matters-clause-used g c =
    by_bound false Pruned (g.R.Seated.state c.args.plugins.now.roster) c.args.plugins.now.judged.items refl refl

pub returns-then-not-matters-clause-kept : goal.returns-then-not-matters-clause-kept
returns-then-not-matters-clause-kept g c =
    (ap (λ (k : CoreState). k.pool) c.close_pruned.ensures.frame, c.requires.sound, ran_none (g.R.Seated.state c.args.plugins.now.roster), refl)

pub branch-ended-requires-clause-up : goal.branch-ended-requires-clause-up
branch-ended-requires-clause-up g c = (c.requires.up.0, c.requires.up.1)

pub branch-ended-requires-clause-given : goal.branch-ended-requires-clause-given
branch-ended-requires-clause-given g c = c.requires.up.2

pub branch-ended-requires-clause-open_ : goal.branch-ended-requires-clause-open_
branch-ended-requires-clause-open_ g c = c.requires.open_.0

pub branch-ended-requires-clause-found : goal.branch-ended-requires-clause-found
branch-ended-requires-clause-found g c = c.requires.open_.1

pub returns-in_Ok-ended-in-Ok-None-clause-used : goal.returns-in_Ok-ended-in-Ok-None-clause-used
returns-in_Ok-ended-in-Ok-None-clause-used g c =
    by_rule false c.in_Ok-ended-in-Ok-None.end _ _ _ _ refl
    (subst (λ f. Used (asked_of_rules f) (g.R.Seated.state c.args.plugins.now.roster) c.args.plugins.now.judged.items (g.R.Seated.state c.ask_rules.new.plugins.roster) c.ask_rules.new.plugins.judged.items) c.in-Ok-None.field-0-is c.in-Ok-None.ensures.used)

pub returns-in_Err-ended-in-Ok-None-clause-kept : goal.returns-in_Err-ended-in-Ok-None-clause-kept
returns-in_Err-ended-in-Ok-None-clause-kept g c =
    (ap (λ (rows : Pool × Bool). rows.0) c.branch-ended.ensures.rows, c.ask_rules.ensures.sound, c.ask_rules.ensures.run, c.ask_rules.ensures.scratches)

pub returns-in_Err-ended-in-Ok-None-clause-ended : goal.returns-in_Err-ended-in-Ok-None-clause-ended
returns-in_Err-ended-in-Ok-None-clause-ended g c = grind (arith, common_steps)

pub returns-in_Ok-ended-in-Ok-None-clause-kept : goal.returns-in_Ok-ended-in-Ok-None-clause-kept
returns-in_Ok-ended-in-Ok-None-clause-kept g c =
    (ap (λ (rows : Pool × Bool). rows.0) c.branch-ended.ensures.rows, c.ask_rules.ensures.sound, c.ask_rules.ensures.run, c.ask_rules.ensures.scratches)

pub returns-in_Ok-ended-in-Ok-None-clause-ended : goal.returns-in_Ok-ended-in-Ok-None-clause-ended
returns-in_Ok-ended-in-Ok-None-clause-ended g c = grind (arith, common_steps)

pub returns-in_Err-ended-in-Ok-None-clause-used : goal.returns-in_Err-ended-in-Ok-None-clause-used
returns-in_Err-ended-in-Ok-None-clause-used g c = grind (arith, common_steps)

pub returns-in-Err-clause-used : goal.returns-in-Err-clause-used
returns-in-Err-clause-used g c = grind (arith, common_steps)
