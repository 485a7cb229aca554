use Rattle.std.proofs.Common.{◌≡◌, None, List, length, to_z, of_z, rules, ap, ap₂, ◌∙◌, sym, refl, subst, arith}
use Rattle.std.specs.Prelude.{slice_set}
use Rattle.std.specs.Int.{w128}
use Rattle.cip_problem.specs.Program.{Sides, Choice}
use Rattle.cip_problem.specs.Log.{Node}
use Rattle.cip_cert.specs.Lent.{lent_of, Fits}
use Rattle.cip_cert.specs.declared.pricing.BoundTree.{BoundTree}
use Rattle.cip_lagrange.specs.TreeOutcomes.{node_in, tree_outcome}
use Rattle.cip_lagrange.proofs.SplitOutcomes.{split_fails, low_fails, high_fails, both_shown, split_inside, split_near}
use Rattle.cip_lagrange.proofs.trees.+trees.Goals as goal

pub bound_at-bound_leaf-requires-clause-fits : goal.bound_at-bound_leaf-requires-clause-fits
bound_at-bound_leaf-requires-clause-fits t c = c.requires.fits

pub bound_at-bound_leaf-requires-clause-room : goal.bound_at-bound_leaf-requires-clause-room
bound_at-bound_leaf-requires-clause-room t c = c.requires.room

pub bound_at-bound_leaf-requires-clause-costs : goal.bound_at-bound_leaf-requires-clause-costs
bound_at-bound_leaf-requires-clause-costs t c = c.requires.costs

pub bound_at-empty_leaf-requires-clause-fits : goal.bound_at-empty_leaf-requires-clause-fits
bound_at-empty_leaf-requires-clause-fits t c = c.requires.fits

pub bound_at-empty_leaf-requires-clause-room : goal.bound_at-empty_leaf-requires-clause-room
bound_at-empty_leaf-requires-clause-room t c = c.requires.room

pub bound_at-check_split-requires : goal.bound_at-check_split-requires
bound_at-check_split-requires t c = c.requires.flags

pub bound_at-returns-in-Err-clause-steps : goal.bound_at-returns-in-Err-clause-steps
bound_at-returns-in-Err-clause-steps t c =
    let at_is : to_z w128 (of_z w128 c.in-Split.at) ≡ c.in-Split.at = search rules in
    split_fails (record {
      lent = lent_of c.args.rows.now;
      integral = c.args.rows.now.whole.now;
      room = length
          c.args.row.now.entries;
      costs = c.args.costs.now;
    }) c.args.node c.args.tree.now c.in-Split.col c.in-Split.at
    (to_z w128 (of_z w128 c.in-Split.at)) c.in-Split.low c.in-Split.high
    (node_in c.args.region.now) c.in-Split.is at_is c.in-Err.fault c.in-Err.ensures

pub bound_at-returns-in-Err-bound_in_half-clause-steps : goal.bound_at-returns-in-Err-bound_in_half-clause-steps
bound_at-returns-in-Err-bound_in_half-clause-steps t c =
    let at_is : to_z w128 (of_z w128 c.in-Split.at) ≡ c.in-Split.at = search rules in
    low_fails (record {
      lent = lent_of c.args.rows.now;
      integral = c.args.rows.now.whole.now;
      room = length
          c.args.row.now.entries;
      costs = c.args.costs.now;
    }) c.args.node c.args.tree.now c.in-Split.col c.in-Split.at
    (to_z w128 (of_z w128 c.in-Split.at)) c.in-Split.low c.in-Split.high
    (node_in c.args.region.now) c.in-Split.is at_is c.in_default.ensures c.deref.result.now c.deref.ensures
    c.in-Err-bound_in_half.fault c.in-Err-bound_in_half.ensures.steps

pub bound_at-returns-in-Err-bound_in_half-clause-bounds : goal.bound_at-returns-in-Err-bound_in_half-clause-bounds
bound_at-returns-in-Err-bound_in_half-clause-bounds t c = c.in-Err-bound_in_half.ensures.bounds

pub bound_at-returns-in-Err-bound_in_half-clause-choices : goal.bound_at-returns-in-Err-bound_in_half-clause-choices
bound_at-returns-in-Err-bound_in_half-clause-choices t c = c.in-Err-bound_in_half.ensures.choices

pub bound_at-returns-in-Err-bound_in_half-clause-columns : goal.bound_at-returns-in-Err-bound_in_half-clause-columns
bound_at-returns-in-Err-bound_in_half-clause-columns t c = c.in-Err-bound_in_half.ensures.columns

pub bound_at-returns-in-Bound-clause-steps : goal.bound_at-returns-in-Bound-clause-steps
bound_at-returns-in-Bound-clause-steps t c =
    c.bound_leaf.ensures.steps ∙ ap (λ (t : BoundTree). tree_outcome
    (record {
      lent = lent_of c.args.rows.now;
      integral = c.args.rows.now.whole.now;
      room = length
          c.args.row.now.entries;
      costs = c.args.costs.now;
    }) c.args.node t (node_in c.args.region.now))
    (sym c.in-Bound.is)

pub bound_at-returns-in-Empty-clause-steps : goal.bound_at-returns-in-Empty-clause-steps
bound_at-returns-in-Empty-clause-steps t c =
    c.empty_leaf.ensures.steps ∙ ap (λ (t : BoundTree). tree_outcome
    (record {
      lent = lent_of c.args.rows.now;
      integral = c.args.rows.now.whole.now;
      room = length
          c.args.row.now.entries;
      costs = c.args.costs.now;
    }) c.args.node t (node_in c.args.region.now))
    (sym c.in-Empty.is)

pub bound_at-returns-in-Bound-clause-columns : goal.bound_at-returns-in-Bound-clause-columns
bound_at-returns-in-Bound-clause-columns t c = c.bound_leaf.ensures.columns

pub bound_at-returns-in-Empty-clause-columns : goal.bound_at-returns-in-Empty-clause-columns
bound_at-returns-in-Empty-clause-columns t c = c.empty_leaf.ensures.columns

pub bound_at-returns-in-Ok-bound_in_half-clause-steps : goal.bound_at-returns-in-Ok-bound_in_half-clause-steps
bound_at-returns-in-Ok-bound_in_half-clause-steps t c =
    let at_is : to_z w128 (of_z w128 c.in-Split.at) ≡ c.in-Split.at = search rules in
    let same : node_in c.bound_in_half.new.region ≡ node_in c.args.region.now =
    ap₂ (λ (box : List Sides) (choices : List Choice). (let n : Node = record {
      number = 0;
      box = box;
      choices =
          choices;
      bound = None;
    } in n)) c.in-Ok.ensures.bounds c.in-Ok.ensures.choices in
    both_shown (record {
      lent = lent_of c.args.rows.now;
      integral = c.args.rows.now.whole.now;
      room = length
          c.args.row.now.entries;
      costs = c.args.costs.now;
    }) c.args.node c.args.tree.now c.in-Split.col c.in-Split.at
    (to_z w128 (of_z w128 c.in-Split.at)) c.in-Split.low c.in-Split.high
    (node_in c.args.region.now) c.in-Split.is at_is c.in_default.ensures c.deref.result.now c.deref.ensures
    c.in-Ok.bound c.in-Ok.ensures.steps c.deref-in-Split.result.now c.deref-in-Split.ensures
    (length c.bound_in_half.new.row.entries) c.in-Ok.ensures.columns
    (node_in c.bound_in_half.new.region) same c.in-Ok-bound_in_half.bound c.in-Ok-bound_in_half.ensures.steps
    c.lesser.result c.lesser.ensures

pub bound_at-returns-in-Err-bound_in_half-2-clause-steps : goal.bound_at-returns-in-Err-bound_in_half-2-clause-steps
bound_at-returns-in-Err-bound_in_half-2-clause-steps t c =
    let at_is : to_z w128 (of_z w128 c.in-Split.at) ≡ c.in-Split.at = search rules in
    let same : node_in c.bound_in_half.new.region ≡ node_in c.args.region.now =
    ap₂ (λ (box : List Sides) (choices : List Choice). (let n : Node = record {
      number = 0;
      box = box;
      choices =
          choices;
      bound = None;
    } in n)) c.in-Ok.ensures.bounds c.in-Ok.ensures.choices in
    high_fails (record {
      lent = lent_of c.args.rows.now;
      integral = c.args.rows.now.whole.now;
      room = length
          c.args.row.now.entries;
      costs = c.args.costs.now;
    }) c.args.node c.args.tree.now c.in-Split.col c.in-Split.at
    (to_z w128 (of_z w128 c.in-Split.at)) c.in-Split.low c.in-Split.high
    (node_in c.args.region.now) c.in-Split.is at_is c.in_default.ensures c.deref.result.now c.deref.ensures
    c.in-Ok.bound c.in-Ok.ensures.steps c.deref-in-Split.result.now c.deref-in-Split.ensures
    (length c.bound_in_half.new.row.entries) c.in-Ok.ensures.columns
    (node_in c.bound_in_half.new.region) same c.in-Err-bound_in_half-2.fault c.in-Err-bound_in_half-2.ensures.steps

pub bound_at-returns-in-Ok-bound_in_half-clause-bounds : goal.bound_at-returns-in-Ok-bound_in_half-clause-bounds
bound_at-returns-in-Ok-bound_in_half-clause-bounds t c = c.in-Ok-bound_in_half.ensures.bounds ∙ c.in-Ok.ensures.bounds

pub bound_at-returns-in-Err-bound_in_half-2-clause-bounds : goal.bound_at-returns-in-Err-bound_in_half-2-clause-bounds
bound_at-returns-in-Err-bound_in_half-2-clause-bounds t c = c.in-Err-bound_in_half-2.ensures.bounds
    ∙ c.in-Ok.ensures.bounds

pub bound_at-returns-in-Ok-bound_in_half-clause-choices : goal.bound_at-returns-in-Ok-bound_in_half-clause-choices
bound_at-returns-in-Ok-bound_in_half-clause-choices t c = c.in-Ok-bound_in_half.ensures.choices
    ∙ c.in-Ok.ensures.choices

pub bound_at-returns-in-Err-bound_in_half-2-clause-choices : goal.bound_at-returns-in-Err-bound_in_half-2-clause-choices
bound_at-returns-in-Err-bound_in_half-2-clause-choices t c = c.in-Err-bound_in_half-2.ensures.choices
    ∙ c.in-Ok.ensures.choices

pub bound_at-returns-in-Ok-bound_in_half-clause-columns : goal.bound_at-returns-in-Ok-bound_in_half-clause-columns
bound_at-returns-in-Ok-bound_in_half-clause-columns t c = c.in-Ok-bound_in_half.ensures.columns
    ∙ c.in-Ok.ensures.columns

pub bound_at-returns-in-Err-bound_in_half-2-clause-columns : goal.bound_at-returns-in-Err-bound_in_half-2-clause-columns
bound_at-returns-in-Err-bound_in_half-2-clause-columns t c = c.in-Err-bound_in_half-2.ensures.columns
    ∙ c.in-Ok.ensures.columns

pub bound_in_half-returns-clause-steps : goal.bound_in_half-returns-clause-steps
bound_in_half-returns-clause-steps t c =
    c.bound_at-bound.ensures.steps ∙ ap (tree_outcome (record {
      lent = lent_of c.args.rows.now;
      integral =
          c.args.rows.now.whole.now;
      room = length c.args.row.now.entries;
      costs = c.args.costs.now;
    }) c.args.half.node
    c.args.tree.now) c.enter.ensures.half

pub bound_in_half-returns-clause-bounds : goal.bound_in_half-returns-clause-bounds
bound_in_half-returns-clause-bounds t c =
    c.set.ensures.bounds
    ∙ ap₂ (λ (box : List Sides) (s : Sides). slice_set box c.args.half.col s) c.bound_at-bound.ensures.bounds
    c.sides-sides.ensures
    ∙ c.enter.ensures.bounds

pub bound_in_half-returns-clause-choices : goal.bound_in_half-returns-clause-choices
bound_in_half-returns-clause-choices t c =
    c.set.ensures.choices
    ∙ ap₂ (λ (choices : List Choice) (h : Choice). slice_set choices c.args.half.col h) c.bound_at-bound.ensures.choices
    c.at-choice.ensures
    ∙ c.enter.ensures.choices

pub bound_in_half-returns-clause-columns : goal.bound_in_half-returns-clause-columns
bound_in_half-returns-clause-columns t c = c.bound_at-bound.ensures.columns

pub bound_at-returns-in-Err-clause-bounds : goal.bound_at-returns-in-Err-clause-bounds
bound_at-returns-in-Err-clause-bounds t c = refl

pub bound_at-returns-in-Err-clause-choices : goal.bound_at-returns-in-Err-clause-choices
bound_at-returns-in-Err-clause-choices t c = refl

pub bound_at-returns-in-Err-clause-columns : goal.bound_at-returns-in-Err-clause-columns
bound_at-returns-in-Err-clause-columns t c = refl

pub bound_at-overflow_mul-below : goal.bound_at-overflow_mul-below
bound_at-overflow_mul-below t c = omega (arith, c.requires.deep)

pub bound_at-overflow_mul-above : goal.bound_at-overflow_mul-above
bound_at-overflow_mul-above t c = omega (arith, c.requires.deep)

pub bound_at-overflow_add-above : goal.bound_at-overflow_add-above
bound_at-overflow_add-above t c = omega (arith, c.requires.deep)

pub bound_in_half-sides-sides-requires : goal.bound_in_half-sides-sides-requires
bound_in_half-sides-sides-requires t c = split_inside c.args.rows.now.whole.now
    (node_in c.args.region.now) c.args.half.col c.args.half.at c.requires.can

pub bound_in_half-enter-requires-clause-inside : goal.bound_in_half-enter-requires-clause-inside
bound_in_half-enter-requires-clause-inside t c = split_inside c.args.rows.now.whole.now
    (node_in c.args.region.now) c.args.half.col c.args.half.at c.requires.can

pub bound_in_half-enter-requires-clause-near : goal.bound_in_half-enter-requires-clause-near
bound_in_half-enter-requires-clause-near t c = split_near c.args.rows.now.whole.now
    (node_in c.args.region.now) c.args.half.col c.args.half.at c.requires.can

pub bound_in_half-bound_at-bound-requires : goal.bound_in_half-bound_at-bound-requires
bound_in_half-bound_at-bound-requires t c = (
  search rules,
  (
    subst (λ n. Fits n (lent_of c.args.rows.now)) (sym c.enter.ensures.columns) c.requires.fits,
    (
      omega (arith, c.enter.ensures.columns, c.requires.room),
      (
        c.requires.costs ∙ sym c.enter.ensures.columns,
        (c.requires.flags ∙ sym c.enter.ensures.columns, c.requires.deep),
      ),
    ),
  ),
)
