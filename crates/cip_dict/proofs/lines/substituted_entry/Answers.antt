use Rattle.cip_dict.specs.Pivots.{absent_by}
use Rattle.cip_bland.specs.Operations.{entry_place}
use Rattle.std.proofs.lemmas.Bool.{ne_eqb, eq-eqb}
use Rattle.cip_dict.proofs.LineEntries.{put_absent, put_leaving, put_formed}
use Rattle.std.proofs.Common.{◌==◌, ◌∙◌, sym}
use Rattle.cip_dict.proofs.lines.substituted_entry.Goals as goal

pub returns-else-is_absent_on : goal.returns-else-is_absent_on
returns-else-is_absent_on c = put_formed (entry_place c.args.line c.args.k) (c.args.k == c.args.pivot.now.leaving) (absent_by c.args.pivot.now c.args.k) c.args.pivot.now.inverse c.args.a c.args.b c.args.c c.sum.result c.place_on-else-is_absent_on.result (ne_eqb _ _ c.if-k-pivot.false) (sym c.is_absent_on.ensures ∙ c.if-is_absent_on.false) c.place_on-else-is_absent_on.ensures c.sum.ensures

pub returns-then-k-pivot : goal.returns-then-k-pivot
returns-then-k-pivot c = put_leaving (entry_place c.args.line c.args.k) (c.args.k == c.args.pivot.now.leaving) (absent_by c.args.pivot.now c.args.k) c.args.pivot.now.inverse c.args.a c.args.b c.args.c c.product.result c.place_on.result (eq-eqb _ _ c.if-k-pivot.true) c.place_on.ensures c.product.ensures

pub returns-then-is_absent_on : goal.returns-then-is_absent_on
returns-then-is_absent_on c = put_absent (entry_place c.args.line c.args.k) (c.args.k == c.args.pivot.now.leaving) (absent_by c.args.pivot.now c.args.k) c.args.pivot.now.inverse c.args.a c.args.b c.args.c c.zero.result (ne_eqb _ _ c.if-k-pivot.false) (sym c.is_absent_on.ensures ∙ c.if-is_absent_on.true) c.zero.ensures
