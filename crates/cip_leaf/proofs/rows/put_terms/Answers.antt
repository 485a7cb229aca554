use Rattle.std.proofs.lemmas.Grind.{common_steps}
use Rattle.std.proofs.Common.{◌≡◌, ◌<◌, ◌∷◌, ◌++◌, [], ℕ, true, false, length, take, sym, ap, ◌∙◌, arith}
use Rattle.std.proofs.Math.ListN.{get_or}
use Rattle.cip_problem.specs.Program.{Term, Row}
use Rattle.cip_search.specs.LeafProgram.{is_continuous, new_number, continuous_terms}
use Rattle.cip_leaf.proofs.Steps.{continuous_test, number_at, numbers-long, whole_term, continuous_term, stands_next, stands_on}
use Rattle.cip_leaf.proofs.rows.put_terms.Goals as goal

pub loop-term-preserved-then-whole-column : goal.loop-term-preserved-then-whole-column
loop-term-preserved-then-whole-column c =
    let t : Term = c.term-item.result in
    let k : ℕ = c.loop-term.term-index in
    let col : c.term.inside.col ≡ t.column = ap (λ (t : Term). t.column) c.term.view_is in
    let within : t.column < length c.args.whole.now = stands_on (length c.args.whole.now) c.args.terms.now k t c.requires.stand c.loop-term-test.true (sym c.term-item.is) in
    let test : is_continuous c.args.whole.now t.column ≡ false = continuous_test c.args.whole.now t.column true within (rw col at c.if-whole-column.true) in
    c.loop-term.invariant ∙ ap (λ ts. record c.args.row.now { terms = ts }) (sym (whole_term c.args.whole.now c.args.terms.now k t c.loop-term-test.true (sym c.term-item.is) test))

pub bounds-numbers-column : goal.bounds-numbers-column
bounds-numbers-column c =
    let t : Term = c.term-item.result in
    let k : ℕ = c.loop-term.term-index in
    let col : c.term.inside.col ≡ t.column = ap (λ (t : Term). t.column) c.term.view_is in
    let within : t.column < length c.args.whole.now = stands_on (length c.args.whole.now) c.args.terms.now k t c.requires.stand c.loop-term-test.true (sym c.term-item.is) in
    let long : length c.args.numbers.now ≡ length c.args.whole.now = ap length c.requires.numbers ∙ numbers-long 0 c.args.whole.now in
    omega (arith, col, within, long)

pub put_term-requires : goal.put_term-requires
put_term-requires c =
    let t : Term = c.term-item.result in
    let k : ℕ = c.loop-term.term-index in
    let col : c.term.inside.col ≡ t.column = ap (λ (t : Term). t.column) c.term.view_is in
    let coef : c.term.inside.coef ≡ t.coefficient = ap (λ (t : Term). t.coefficient) c.term.view_is in
    let within : t.column < length c.args.whole.now = stands_on (length c.args.whole.now) c.args.terms.now k t c.requires.stand c.loop-term-test.true (sym c.term-item.is) in
    let number : get_or c.args.numbers.now c.term.inside.col 0 ≡ new_number c.args.whole.now t.column = rw (c.requires.numbers, col) (number_at c.args.whole.now t.column within) in
    let there : c.loop-term.row.terms ≡ continuous_terms c.args.whole.now (take k c.args.terms.now) = ap (λ (r : Row). r.terms) c.loop-term.invariant in
    rw (there, number, coef) (stands_next c.args.whole.now c.args.terms.now k t c.requires.valid c.loop-term-test.true (sym c.term-item.is))

pub loop-term-preserved : goal.loop-term-preserved
loop-term-preserved c =
    let t : Term = c.term-item.result in
    let k : ℕ = c.loop-term.term-index in
    let col : c.term.inside.col ≡ t.column = ap (λ (t : Term). t.column) c.term.view_is in
    let coef : c.term.inside.coef ≡ t.coefficient = ap (λ (t : Term). t.coefficient) c.term.view_is in
    let within : t.column < length c.args.whole.now = stands_on (length c.args.whole.now) c.args.terms.now k t c.requires.stand c.loop-term-test.true (sym c.term-item.is) in
    let test : is_continuous c.args.whole.now t.column ≡ true = continuous_test c.args.whole.now t.column false within (rw col at c.if-whole-column.false) in
    let number : get_or c.args.numbers.now c.term.inside.col 0 ≡ new_number c.args.whole.now t.column = rw (c.requires.numbers, col) (number_at c.args.whole.now t.column within) in
    let u : Term = record { column = new_number c.args.whole.now t.column; coefficient = t.coefficient } in
    let same : record { column = get_or c.args.numbers.now c.term.inside.col 0; coefficient = c.term.inside.coef } ≡ u = (λ i. record { column = number i; coefficient = coef i }) in
    c.in_ok-put_term.ensures
    ∙ ap (λ (v : Term). record c.loop-term.row { terms = c.loop-term.row.terms ++ v ∷ [] }) same
    ∙ ap (λ (r : Row). record r { terms = r.terms ++ u ∷ [] }) c.loop-term.invariant
    ∙ ap (λ ts. record c.args.row.now { terms = ts }) (sym (continuous_term c.args.whole.now c.args.terms.now k t c.loop-term-test.true (sym c.term-item.is) test))

pub bounds-whole-column : goal.bounds-whole-column
bounds-whole-column c = grind (arith, common_steps)

pub loop-term-init : goal.loop-term-init
loop-term-init c = grind (arith, common_steps)

pub returns : goal.returns
returns c = grind (arith, common_steps)

pub offset_bounds-numbers-column : goal.offset_bounds-numbers-column
offset_bounds-numbers-column c = grind (arith, common_steps)

pub offset_bounds-terms-term-index : goal.offset_bounds-terms-term-index
offset_bounds-terms-term-index c = grind (arith, common_steps)
