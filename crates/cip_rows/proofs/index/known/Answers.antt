use Rattle.std.proofs.lemmas.Grind.{common_steps}
use Rattle.std.proofs.Common.{arith}
use Rattle.std.proofs.lemmas.List.Elements.{AllWithin-upto}
use Rattle.cip_rows.proofs.IndexedRows.{IsPassed, passed_before, passed_next, passed_rest, unknown}
use Rattle.cip_rows.proofs.index.known.Goals as goal

pub returns-then-entry-print : goal.returns-then-entry-print
returns-then-entry-print c =
    unknown _ _ _ _ c.requires.entries (passed_rest _ _ _ _ c.args.print c.loop-at.at _ c.requires.print c.requires.entries.sorted c.loop-at-test.true c.if-entry-print.true (c.first_from-at.ensures.after c.loop-at.at _ (omega (arith, c.loop-at.auto.at)) c.loop-at-test.true) c.loop-at.invariant)

pub returns : goal.returns
returns c = unknown _ _ _ _ c.requires.entries (AllWithin-upto (IsPassed c.args.rows.now c.args.row.now c.args.scope.now) _ 0 c.loop-at.at _ (omega (arith, c.loop-at-test.false)) c.loop-at.invariant)

pub first_from-at-requires : goal.first_from-at-requires
first_from-at-requires c = c.requires.entries.sorted

pub loop-at-init : goal.loop-at-init
loop-at-init c = passed_before _ _ _ _ c.args.print c.first_from-at.result c.requires.print c.first_from-at.ensures.before

pub bounds-entries-at : goal.bounds-entries-at
bounds-entries-at c = c.loop-at-test.true

pub is_known_as-requires-clause-rising : goal.is_known_as-requires-clause-rising
is_known_as-requires-clause-rising c = c.requires.rising

pub is_known_as-requires-clause-scopes : goal.is_known_as-requires-clause-scopes
is_known_as-requires-clause-scopes c = c.requires.scopes

pub returns-then-is_known_as : goal.returns-then-is_known_as
returns-then-is_known_as c = c.if-is_known_as.ensures

pub loop-at-preserved : goal.loop-at-preserved
loop-at-preserved c = passed_next _ _ _ _ c.loop-at.at _ c.loop-at-test.true c.loop-at.invariant c.if-is_known_as.ensures

pub offset_bounds-entries-at : goal.offset_bounds-entries-at
offset_bounds-entries-at c = grind (arith, common_steps)
