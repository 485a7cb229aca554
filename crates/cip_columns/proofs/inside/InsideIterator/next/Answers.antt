use Rattle.std.proofs.Common.{◌∙◌, sym}
use Rattle.cip_columns.proofs.InBoxes.{inside_rest}
use Rattle.cip_columns.proofs.inside.InsideIterator.next.Goals as goal

pub loop-first-preserved : goal.loop-first-preserved
loop-first-preserved c =
    c.loop-first.invariant ∙ inside_rest _ _ _ _ _ c.in-Some.ensures.cases.0 (sym c.is_in.ensures ∙ c.if-is_in.false)
