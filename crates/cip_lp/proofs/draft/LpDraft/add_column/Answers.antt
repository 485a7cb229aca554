use Rattle.std.proofs.lemmas.Grind.{common_steps}
use Rattle.std.proofs.Common.{◌≡◌, None, sym, subst, ap, ◌∙◌, arith}
use Rattle.cip_text_rules.specs.MpsWords.{number_in}
use Rattle.cip_text_rules.specs.LpPlaces.{Mentions}
use Rattle.cip_text_rules.specs.LpFacts.{LpFacts, event_fault, with_column}
use Rattle.cip_lp.specs.LpDrafts.{facts_in, IsKeptLp}
use Rattle.cip_lp.proofs.KeptLaws.{kept_with, column_put, column_unput}
use Rattle.std.proofs.lemmas.Result.{IfOk-from_err}
use Rattle.cip_lp.proofs.draft.LpDraft.add_column.Goals as goal

pub invariant_of-self : goal.invariant_of-self
invariant_of-self c =
    let e = c.in_err-put_column.ensures.err in
    subst IsKeptLp (sym (column_unput (facts_in c.self.inside) c.put_column.new.names c.put_column.new.costs.items
    c.put_column.new.sides.items c.put_column.new.whole.items e.0 e.1 e.2 e.3)) c.self.invariant

pub invariant_of-self-2 : goal.invariant_of-self-2
invariant_of-self-2 c =
    let e = c.in_ok-put_column.ensures.ok in
    let new : number_in (facts_in c.self.inside).column_names c.args.name.now ≡ None = subst
    (λ f. number_in f.column_names c.args.name.now ≡ None) (sym c.self.view_is) c.requires.new in
    let quiet : event_fault (facts_in c.self.inside) (Mentions c.args.name.now) ≡ None = subst
    (λ (f : LpFacts). event_fault f (Mentions c.args.name.now) ≡ None) (sym c.self.view_is) c.requires.quiet in
    subst IsKeptLp (sym (column_put (facts_in c.self.inside) c.args.name.now c.put_column.new.names
    c.put_column.new.costs.items c.put_column.new.sides.items c.put_column.new.whole.items new e.0 e.1 e.2 e.3))
    (kept_with (facts_in c.self.inside) (Mentions c.args.name.now) c.self.invariant quiet)

pub returns-clause-ok : goal.returns-clause-ok
returns-clause-ok c =
    let e = c.in_ok-put_column.ensures.ok in
    let new : number_in (facts_in c.self.inside).column_names c.args.name.now ≡ None = subst
    (λ f. number_in f.column_names c.args.name.now ≡ None) (sym c.self.view_is) c.requires.new in
    column_put (facts_in c.self.inside) c.args.name.now c.put_column.new.names c.put_column.new.costs.items
    c.put_column.new.sides.items c.put_column.new.whole.items new e.0 e.1 e.2 e.3
    ∙ ap (λ (f : LpFacts). with_column f c.args.name.now) c.self.view_is

pub returns-clause-number : goal.returns-clause-number
returns-clause-number c = grind (arith, common_steps)

pub put_column-requires : goal.put_column-requires
put_column-requires c = grind (arith, common_steps)

pub overflow_cast-number : goal.overflow_cast-number
overflow_cast-number c = grind (arith, common_steps)

pub returns-in_err-put_column-clause-ok : goal.returns-in_err-put_column-clause-ok
returns-in_err-put_column-clause-ok c = IfOk-from_err c.from_residual.result _ c.from_residual.ensures.0

pub returns-in_err-put_column-clause-number : goal.returns-in_err-put_column-clause-number
returns-in_err-put_column-clause-number c = IfOk-from_err c.from_residual.result _ c.from_residual.ensures.0
