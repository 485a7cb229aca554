use Rattle.std.proofs.lemmas.Grind.{common_steps}
use Rattle.std.proofs.Common.{◌∙◌, length, ap, ap₂, sym, subst₂, arith}
use Rattle.cip_cert.specs.Touched.{Tells}
use Rattle.cip_split.specs.SplitChecks.{first_difference}
use Rattle.cip_split.proofs.Differences.{found_first, found_none}
use Rattle.cip_split.proofs.split_rows.first_difference.Goals as goal

pub returns-then-column-entries : goal.returns-then-column-entries
returns-then-column-entries c =
    let e = c.entries-entries.ensures.entries in
    let f = c.entries-others.ensures.entries in
    sym (found_first c.entries-entries.result.now c.entries-others.result.now c.touched.result.now c.touched-2.result.now c.least_difference-upto.result c.least_difference-column.result (subst₂ Tells (sym e) (sym c.touched.ensures.touched) c.touched.ensures.tells) (subst₂ Tells (sym f) (sym c.touched-2.ensures.touched) c.touched-2.ensures.tells) (ap length f ∙ c.requires ∙ sym (ap length e)) c.least_difference-column.ensures.below c.least_difference-upto.ensures.below c.least_difference-upto.ensures.differs c.least_difference-column.ensures.differs c.least_difference-upto.ensures.agrees c.least_difference-column.ensures.agrees c.if-column-entries.true)
    ∙ ap₂ (first_difference 0) e f

pub returns-else-column-entries : goal.returns-else-column-entries
returns-else-column-entries c =
    let e = c.entries-entries.ensures.entries in
    let f = c.entries-others.ensures.entries in
    sym (found_none c.entries-entries.result.now c.entries-others.result.now c.touched.result.now c.touched-2.result.now c.least_difference-upto.result c.least_difference-column.result (subst₂ Tells (sym e) (sym c.touched.ensures.touched) c.touched.ensures.tells) (subst₂ Tells (sym f) (sym c.touched-2.ensures.touched) c.touched-2.ensures.tells) (ap length f ∙ c.requires ∙ sym (ap length e)) c.least_difference-column.ensures.below c.least_difference-upto.ensures.agrees c.least_difference-column.ensures.agrees c.if-column-entries.false)
    ∙ ap₂ (first_difference 0) e f

pub least_difference-column-requires-clause-same : goal.least_difference-column-requires-clause-same
least_difference-column-requires-clause-same c = grind (arith, common_steps)

pub least_difference-upto-requires-clause-same : goal.least_difference-upto-requires-clause-same
least_difference-upto-requires-clause-same c = grind (arith, common_steps)

pub least_difference-column-requires-clause-within : goal.least_difference-column-requires-clause-within
least_difference-column-requires-clause-within c = grind (arith, common_steps)
