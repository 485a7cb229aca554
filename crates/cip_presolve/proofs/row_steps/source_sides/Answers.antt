use Rattle.std.proofs.lemmas.Grind.{common_steps}
use Rattle.std.proofs.Common.{◌≡◌, List, [], Some, slice_get, sym, ap, ◌∙◌, subst, true≢false, ◌<◌, length, arith}
use Rattle.cip_problem.specs.Program.{Term, Sides, Row}
use Rattle.cip_problem.specs.Box.{sides_at}
use Rattle.cip_problem.specs.Choices.{met}
use Rattle.cip_presolve.specs.Forms.{Form}
use Rattle.cip_presolve.specs.RowSteps.{side_less}
use Rattle.cip_presolve.specs.SingleRows.{single_sides}
use Rattle.cip_presolve.proofs.SourceSides.{source_implied}
use Rattle.cip_presolve.proofs.row_steps.source_sides.Goals as goal

pub returns : goal.returns
returns c =
    let constant : c.form.inside.constant ≡ c.args.form.now.constant = ap (λ (f : Form). f.constant) c.form.view_is in
    let factor : c.form.inside.factor ≡ c.args.form.now.factor = ap (λ (f : Form). f.factor) c.form.view_is in
    let source : c.form.inside.source ≡ c.args.form.now.source = ap (λ (f : Form). f.source) c.form.view_is in
    let term : Term = record { column = c.form.inside.source; coefficient = c.form.inside.factor } in
    let own : c.sides-own.result ≡ sides_at c.args.draft.now.bounds c.args.column = c.sides-own.ensures ∙ ap (λ (box : List Sides). sides_at box c.args.column) c.bounds.ensures.bounds in
    let row : Row = record { terms = []; low = c.in-Some.low; high = c.in-Some-less.high } in
    let low : c.in-Some.low ≡ side_less (sides_at c.args.draft.now.bounds c.args.column).low c.args.form.now.constant =
    c.in-Some.ensures ∙ ap (λ (s : Sides). side_less s.low c.form.inside.constant) (c.own.view_is ∙ own) ∙ ap (λ q. side_less (sides_at c.args.draft.now.bounds c.args.column).low q) constant in
    let high : c.in-Some-less.high ≡ side_less (sides_at c.args.draft.now.bounds c.args.column).high c.args.form.now.constant =
    c.in-Some-less.ensures ∙ ap (λ (s : Sides). side_less s.high c.form.inside.constant) (c.own.view_is ∙ own) ∙ ap (λ q. side_less (sides_at c.args.draft.now.bounds c.args.column).high q) constant in
    let whole : slice_get c.args.draft.now.integral c.args.form.now.source ≡ Some c.is_whole-whole.result = subst (λ n. slice_get c.args.draft.now.integral n ≡ Some c.is_whole-whole.result) source c.is_whole-whole.ensures in
    let other : c.sides.result ≡ sides_at c.args.draft.now.bounds c.args.form.now.source =
    c.sides.ensures ∙ ap (λ (box : List Sides). sides_at box c.form.inside.source) c.bounds-2.ensures.bounds ∙ ap (λ n. sides_at c.args.draft.now.bounds n) source in
    let are : c.met.result ≡ met (sides_at c.args.draft.now.bounds c.args.form.now.source) (single_sides c.is_whole-whole.result term.coefficient row.low row.high) =
    c.met.ensures ∙ ap (λ s. met s c.in-Some-single_sides.implied) other ∙ ap (λ s. met (sides_at c.args.draft.now.bounds c.args.form.now.source) s) c.in-Some-single_sides.ensures in
    source_implied c.args.draft.now c.args.place c.args.column c.args.form.now row term c.is_whole-whole.result c.met.result c.requires.there c.requires.gives c.requires.substitute
    (λ e. true≢false (sym (c.is_zero.ensures.1 (factor ∙ e)) ∙ c.if-is_zero.false)) low high source factor whole are

pub is_whole-whole-requires : goal.is_whole-whole-requires
is_whole-whole-requires c =
    subst (λ n. n < length c.args.draft.now.bounds) (sym (ap (λ (f : Form). f.source) c.form.view_is)) c.requires.substitute.source

pub sides-requires : goal.sides-requires
sides-requires c =
    subst (λ (box : List Sides). c.form.inside.source < length box) (sym c.bounds-2.ensures.bounds)
    (subst (λ n. n < length c.args.draft.now.bounds) (sym (ap (λ (f : Form). f.source) c.form.view_is)) c.requires.substitute.source)

pub sides-own-requires : goal.sides-own-requires
sides-own-requires c = grind (arith, common_steps)

pub single_sides-requires : goal.single_sides-requires
single_sides-requires c = grind (arith, common_steps)
