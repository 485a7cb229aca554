use Rattle.std.proofs.lemmas.Grind.{common_steps}
use Rattle.std.proofs.Common.{◌≡◌, ◌∙◌, ap, sym, get_or, arith}
use Rattle.std.proofs.lemmas.List.{get_or_read, drop_all}
use Rattle.cip_frac.specs.Rational.{zeroℚ}
use Rattle.cip_frac.specs.Outcomes.{product_added}
use Rattle.cip_problem.specs.Program.{Term}
use Rattle.cip_problem.specs.Activity.{value_at}
use Rattle.cip_lin.specs.RowSums.{activity_from}
use Rattle.cip_lin.proofs.BuiltRows.{sum_more, sum_ends}
use Rattle.cip_lin.proofs.rows.sum_of_products.Goals as goal

pub loop-term-init : goal.loop-term-init
loop-term-init c = ap (λ sum. activity_from sum c.args.terms.now c.args.point.now) c.zero-sum.ensures

pub bounds-point-term-inside : goal.bounds-point-term-inside
bounds-point-term-inside c =
    omega (arith, c.requires c.loop-term.term-index c.term-item.result c.loop-term-test.true, ap (λ t. t.column) (c.term.view_is ∙ c.term-item.is))

pub returns-then-not-add_product : goal.returns-then-not-add_product
returns-then-not-add_product c =
    let t : Term = record { column = c.term.inside.col; coefficient = c.term.inside.coef } in
    let e : t ≡ get_or c.args.terms.now c.loop-term.term-index t = c.term.view_is ∙ get_or_read c.args.terms.now c.loop-term.term-index c.term-item.result c.loop-term-test.true c.term-item.is t in
    let v : c.index-point-term.result ≡ value_at c.args.point.now c.term.inside.col =
    get_or_read c.args.point.now c.term.inside.col c.index-point-term.result (omega (arith, c.requires c.loop-term.term-index c.term-item.result c.loop-term-test.true, ap (λ t. t.column) (c.term.view_is ∙ c.term-item.is))) c.index-point-term.is zeroℚ in
    record {
      steps =
          c.plus_product.ensures
          ∙ ap (λ s. product_added s c.term.inside.coef c.index-point-term.result) c.if-not-add_product.ensures.1
          ∙ ap (λ q. product_added c.loop-term.sum c.term.inside.coef q) v
          ∙ sum_ends c.loop-term.term-index c.args.terms.now t c.loop-term-test.true e c.loop-term.sum c.args.point.now (rw v at c.if-not-add_product.ensures.0)
          ∙ c.loop-term.invariant;
    }

pub loop-term-preserved : goal.loop-term-preserved
loop-term-preserved c =
    let t : Term = record { column = c.term.inside.col; coefficient = c.term.inside.coef } in
    let e : t ≡ get_or c.args.terms.now c.loop-term.term-index t = c.term.view_is ∙ get_or_read c.args.terms.now c.loop-term.term-index c.term-item.result c.loop-term-test.true c.term-item.is t in
    let v : c.index-point-term.result ≡ value_at c.args.point.now c.term.inside.col =
    get_or_read c.args.point.now c.term.inside.col c.index-point-term.result (omega (arith, c.requires c.loop-term.term-index c.term-item.result c.loop-term-test.true, ap (λ t. t.column) (c.term.view_is ∙ c.term-item.is))) c.index-point-term.is zeroℚ in
    sum_more c.loop-term.term-index c.args.terms.now t c.loop-term-test.true e c.loop-term.sum c.add_product.new.self c.args.point.now (rw v at c.if-not-add_product.ensures) ∙ c.loop-term.invariant

pub returns : goal.returns
returns c = record {
  steps = sym (ap (λ ts. activity_from c.loop-term.sum ts c.args.point.now) (drop_all c.loop-term.term-index c.args.terms.now (omega (arith, c.loop-term-test.false)))) ∙ c.loop-term.invariant;
}

pub offset_bounds-point-term-inside : goal.offset_bounds-point-term-inside
offset_bounds-point-term-inside c = grind (arith, common_steps)

pub offset_bounds-terms-term-index : goal.offset_bounds-terms-term-index
offset_bounds-terms-term-index c = grind (arith, common_steps)
