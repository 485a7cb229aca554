use Rattle.std.proofs.lemmas.Grind.{common_steps}
use Rattle.std.proofs.Common.{◌≡◌, List, sym, ap, ◌∙◌, subst, true≢false, ◌<◌, length, arith}
use Rattle.cip_problem.specs.Program.{Sides}
use Rattle.cip_problem.specs.Box.{sides_at}
use Rattle.cip_presolve.specs.Forms.{Form}
use Rattle.cip_presolve.specs.FormEnds.{FormKeeps}
use Rattle.cip_presolve.proofs.MayLeave.{goes_by_form}
use Rattle.cip_presolve.proofs.candidates.form_out.Goals as goal

pub returns : goal.returns
returns c =
    let factor : c.form.inside.factor ≡ c.in-Some.form.factor = ap (λ (f : Form). f.factor) c.form.view_is in
    let source : c.form.inside.source ≡ c.in-Some.form.source = ap (λ (f : Form). f.source) c.form.view_is in
    let own : c.sides-own.result ≡ sides_at c.args.draft.now.bounds c.in-Some.form.source =
    c.sides-own.ensures ∙ ap (λ (box : List Sides). sides_at box c.form.inside.source) c.bounds.ensures.bounds ∙ ap (λ n. sides_at c.args.draft.now.bounds n) source in
    let outer : c.sides-outer.result ≡ sides_at c.args.draft.now.bounds c.args.column =
    c.sides-outer.ensures ∙ ap (λ (box : List Sides). sides_at box c.args.column) c.bounds-2.ensures.bounds in
    goes_by_form c.args.draft.now c.args.number c.args.column c.in-Some.form c.requires c.in-Some.ensures c.if-not-is_substitute.ensures
    (λ e. true≢false (sym (c.is_zero.ensures.1 (factor ∙ e)) ∙ c.if-is_zero.false)) c.if-not-is_free.ensures
    (subst (λ (s : Sides). FormKeeps c.in-Some.form s (sides_at c.args.draft.now.bounds c.args.column)) own
    (subst (λ (s : Sides). FormKeeps c.in-Some.form c.sides-own.result s) outer c.if-not-keeps.ensures)) c.if-not-lets_whole_go.ensures

pub sides-own-requires : goal.sides-own-requires
sides-own-requires c =
    subst (λ (box : List Sides). c.form.inside.source < length box) (sym c.bounds.ensures.bounds)
    (subst (λ n. n < length c.args.draft.now.bounds) (sym (ap (λ (f : Form). f.source) c.form.view_is)) c.if-not-is_substitute.ensures.source)

pub sides-outer-requires : goal.sides-outer-requires
sides-outer-requires c = subst (λ (box : List Sides). c.args.column < length box) (sym c.bounds-2.ensures.bounds) c.if-not-is_substitute.ensures.inside

pub is_free-requires : goal.is_free-requires
is_free-requires c = grind (arith, common_steps)

pub same-form : goal.same-form
same-form c = grind (arith, common_steps)

pub returns-then-not-is_free : goal.returns-then-not-is_free
returns-then-not-is_free c = grind (arith, common_steps)
