-- What a proposal comes to by what the pool says of its row.
use Rattle.std.proofs.Common.{Bool}
use Rattle.cip_lin.specs.declared.combos.Combo.{Combo}
use Rattle.cip_cert.specs.declared.splits.SplitCut.{SplitCut}
use Rattle.cip_rows.specs.declared.pools.Added.{Added}
use Rattle.cip_rows.specs.declared.pools.Added.TheVariants.{New, Known, Full}
use Rattle.cip_core.specs.CoreStates.{CoreState}
use Rattle.cip_core.specs.RowsAsked.{IsTold}
use Rattle.cip_calls.specs.RowsJudged.{judged_of, IsRowJudged}
use Rattle.cip_calls.specs.SplitCutsJudged.{IsSplitTold, IsCutJudged}

pub row_judged : (core new : CoreState) (combo : Combo) (round local : Bool) (added : Added) → IsTold core new combo round local added → IsRowJudged core new combo round local (judged_of added)
row_judged core new combo round local (New id) told = (id, told)
row_judged core new combo round local (Known id) told = (id, told)
row_judged core new combo round local Full told = told

pub cut_judged : (core new : CoreState) (cut : SplitCut) (local : Bool) (added : Added) → IsSplitTold core new cut local added → IsCutJudged core new cut local (judged_of added)
cut_judged core new cut local (New id) told = (id, told)
cut_judged core new cut local (Known id) told = (id, told)
cut_judged core new cut local Full told = told
