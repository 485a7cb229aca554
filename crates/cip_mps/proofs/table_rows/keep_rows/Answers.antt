use Rattle.std.proofs.lemmas.Result.{IfOk-from_err}
use Rattle.std.proofs.lemmas.Grind.{common_steps}
use Rattle.std.proofs.Common.{rules, ap, sym, arith}
use Rattle.std.specs.Prelude.{not}
use Rattle.std.specs.Vec.Iter.{into_iter_items}
use Rattle.cip_mps.proofs.GroupedLaws.{kept_taken, kept_dropped}
use Rattle.cip_mps.proofs.table_rows.keep_rows.Goals as goal

pub loop-row-preserved-in_ok-push : goal.loop-row-preserved-in_ok-push
loop-row-preserved-in_ok-push c = record {
  finished =
      kept_taken c.loop-row.finished.items c.push.new.self.items c.loop-row.rest.now c.in-Some-split_first.behind.now c.in-Some-split_first.head.now (into_iter_items c.loop-row.row-iterator) (into_iter_items c.next.new.self) c.in-Some.row _
      c.in-Some-split_first.ensures.cases.0 c.in-Some.ensures.steps.0 (ap not (sym c.if-not-is_free.ensures)) c.in_ok-push.ensures.items c.loop-row.invariant.finished;
  left = search rules;
}

pub loop-row-preserved : goal.loop-row-preserved
loop-row-preserved c = record {
  finished =
      kept_dropped c.loop-row.finished.items c.loop-row.rest.now c.in-Some-split_first.behind.now c.in-Some-split_first.head.now (into_iter_items c.loop-row.row-iterator) (into_iter_items c.next.new.self) c.in-Some.row _
      c.in-Some-split_first.ensures.cases.0 c.in-Some.ensures.steps.0 (ap not (sym c.if-not-is_free.ensures)) c.loop-row.invariant.finished;
  left = search rules;
}

pub returns : goal.returns
returns c = grind (arith, common_steps)

pub returns-in_default : goal.returns-in_default
returns-in_default c = grind (arith, common_steps)

pub loop-row-init : goal.loop-row-init
loop-row-init c = grind (arith, common_steps)

pub loop-row-init-derived : goal.loop-row-init-derived
loop-row-init-derived c = grind (arith, common_steps)

pub loop-row-preserved-in_ok-push-derived : goal.loop-row-preserved-in_ok-push-derived
loop-row-preserved-in_ok-push-derived c = grind (arith, common_steps)

pub loop-row-preserved-derived : goal.loop-row-preserved-derived
loop-row-preserved-derived c = grind (arith, common_steps)

pub returns-in_err-push : goal.returns-in_err-push
returns-in_err-push c = IfOk-from_err c.from_residual.result _ c.from_residual.ensures.0
