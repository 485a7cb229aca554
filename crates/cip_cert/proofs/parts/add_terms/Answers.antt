use Rattle.std.proofs.lemmas.Grind.{common_steps}
use Rattle.std.proofs.Common.{◌≡◌, ◌<◌, ◌∙◌, length, get_or, List, refl, ap, arith}
use Rattle.std.proofs.lemmas.List.{length-set}
use Rattle.cip_rational.specs.Rational.{ℚ}
use Rattle.cip_problem.specs.Program.{Term}
use Rattle.cip_cert.proofs.Stepwise.{term_added, term_failed, terms_added}
use Rattle.cip_cert.proofs.parts.add_terms.Goals as goal

pub loop-term-init : goal.loop-term-init
loop-term-init c = record { steps = refl; columns = refl }

pub bounds-terms-term-index : goal.bounds-terms-term-index
bounds-terms-term-index c = c.loop-term-test.true

pub returns-in-Err-clause-steps : goal.returns-in-Err-clause-steps
returns-in-Err-clause-steps c =
    let column : c.term.inside.col ≡ c.term-item.result.column = ap (λ (t : Term). t.column) c.term.view_is in
    let coefficient : c.term.inside.coef ≡ c.term-item.result.coefficient = ap (λ
    (t : Term). t.coefficient) c.term.view_is in
    let found : c.term-item.result.column < length c.args.row.now.entries = rw (c.term-item.is)
    (c.requires c.loop-term.term-index c.term-item.result c.loop-term-test.true) in
    let below : c.term.inside.col < length c.loop-term.row.entries = omega
    (arith, found, column, c.loop-term.invariant.columns) in
    term_failed c.args.entry c.args.factor c.loop-term.term-index c.args.terms.now c.loop-term.row.entries _
    c.loop-term.invariant.steps
    c.term-item.result c.term.inside.col c.term.inside.coef c.index-entries-term.result c.loop-term-test.true
    c.term-item.is column coefficient below
    (c.index-entries-term.is ∙ ap (λ (ds : List ℚ). get_or ds c.term.inside.col c.index-entries-term.result)
    c.entries.ensures.entries)
    c.in-Err.fault c.in-Err.ensures

pub returns-in-Err-clause-columns : goal.returns-in-Err-clause-columns
returns-in-Err-clause-columns c = c.loop-term.invariant.columns

pub loop-term-preserved : goal.loop-term-preserved
loop-term-preserved c =
    let column : c.term.inside.col ≡ c.term-item.result.column = ap (λ (t : Term). t.column) c.term.view_is in
    let coefficient : c.term.inside.coef ≡ c.term-item.result.coefficient = ap (λ
    (t : Term). t.coefficient) c.term.view_is in
    let found : c.term-item.result.column < length c.args.row.now.entries = rw (c.term-item.is)
    (c.requires c.loop-term.term-index c.term-item.result c.loop-term-test.true) in
    let below : c.term.inside.col < length c.loop-term.row.entries = omega
    (arith, found, column, c.loop-term.invariant.columns) in
    record {
      steps =
          term_added c.args.entry c.args.factor c.loop-term.term-index c.args.terms.now c.loop-term.row.entries _
          c.loop-term.invariant.steps
          c.term-item.result c.term.inside.col c.term.inside.coef c.index-entries-term.result c.loop-term-test.true
          c.term-item.is column coefficient below
          (c.index-entries-term.is ∙ ap (λ (ds : List ℚ). get_or ds c.term.inside.col c.index-entries-term.result)
          c.entries.ensures.entries)
          c.in-Ok.value c.set.new.self.entries c.in-Ok.ensures c.set.ensures;
      columns = ap length c.set.ensures ∙ length-set c.loop-term.row.entries c.term.inside.col c.in-Ok.value
          ∙ c.loop-term.invariant.columns;
    }

pub returns-clause-steps : goal.returns-clause-steps
returns-clause-steps c = terms_added c.args.entry c.args.factor c.loop-term.term-index c.args.terms.now
    c.loop-term.row.entries _ c.loop-term.invariant.steps c.loop-term-test.false

pub returns-clause-columns : goal.returns-clause-columns
returns-clause-columns c = c.loop-term.invariant.columns

pub bounds-entries-term-inside : goal.bounds-entries-term-inside
bounds-entries-term-inside c = grind (arith, common_steps)

pub offset_bounds-entries-term-inside : goal.offset_bounds-entries-term-inside
offset_bounds-entries-term-inside c = omega arith

pub set-requires : goal.set-requires
set-requires c = grind (arith, common_steps)

pub offset_bounds-terms-term-index : goal.offset_bounds-terms-term-index
offset_bounds-terms-term-index c = grind (arith, common_steps)
