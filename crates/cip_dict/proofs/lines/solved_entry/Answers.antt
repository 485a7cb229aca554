use Rattle.cip_bland.specs.declared.places.Line.TheVariants.{Row}
use Rattle.cip_dict.specs.Pivots.{absent_by}
use Rattle.cip_bland.specs.Operations.{entry_place}
use Rattle.std.proofs.lemmas.Bool.{ne_eqb}
use Rattle.cip_dict.proofs.LineEntries.{solved_absent, solved_formed}
use Rattle.std.proofs.lemmas.Grind.{common_steps}
use Rattle.std.proofs.Common.{arith, ◌==◌, ◌∙◌, sym}
use Rattle.cip_dict.proofs.lines.solved_entry.Goals as goal

pub returns-else-is_absent_on : goal.returns-else-is_absent_on
returns-else-is_absent_on c = solved_formed (entry_place (Row c.args.pivot.now.entering) c.args.k) (c.args.k == c.args.pivot.now.leaving) (absent_by c.args.pivot.now c.args.k) c.args.pivot.now.inverse c.args.a c.product.result c.place_on.result c.neg.result (ne_eqb _ _ c.if-k-pivot.false) (sym c.is_absent_on.ensures ∙ c.if-is_absent_on.false) c.place_on.ensures c.neg.ensures c.product.ensures

pub returns-then-is_absent_on : goal.returns-then-is_absent_on
returns-then-is_absent_on c = solved_absent (entry_place (Row c.args.pivot.now.entering) c.args.k) (c.args.k == c.args.pivot.now.leaving) (absent_by c.args.pivot.now c.args.k) c.args.pivot.now.inverse c.args.a c.zero.result (ne_eqb _ _ c.if-k-pivot.false) (sym c.is_absent_on.ensures ∙ c.if-is_absent_on.true) c.zero.ensures

pub returns-then-k-pivot : goal.returns-then-k-pivot
returns-then-k-pivot c = grind (arith, common_steps)
