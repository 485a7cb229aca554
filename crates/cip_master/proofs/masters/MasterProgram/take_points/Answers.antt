use Rattle.std.proofs.Common.{◌<◌, List, length, get_or, ap, refl, sym, ◌∙◌, subst}
use Rattle.cip_columns.specs.PoolPoints.{PoolPoint}
use Rattle.cip_master.proofs.OnePointMore.{all_seen, few_columns, masters_long, seen_more, taken_fault}
use Rattle.cip_master.specs.KeptMasters.{held_in}
use Rattle.std.proofs.Common.{take}
use Rattle.cip_master.proofs.masters.MasterProgram.take_points.Goals as goal

pub take_point-requires-clause-masters : goal.take_point-requires-clause-masters
take_point-requires-clause-masters c =
    masters_long c.args.program.now c.args.blocks.now c.args.bounds.now
    (held_in c.args.blocks.now.column_owners.items c.args.bounds.now (take c.loop-at.self.seen c.args.pool.now))
    c.loop-at.self c.requires.made c.loop-at.invariant.seen.is_master

pub take_point-requires-clause-few : goal.take_point-requires-clause-few
take_point-requires-clause-few c =
    few_columns c.args.program.now c.args.blocks.now c.args.bounds.now c.args.pool.now c.loop-at.self
    c.columns-columns.ensures.formed c.requires.made c.points-points.ensures.few c.loop-at.invariant.seen

pub returns-in-Err : goal.returns-in-Err
returns-in-Err c =
    let inside : c.loop-at.at < length c.args.pool.now =
    subst (λ (ps : List PoolPoint). c.loop-at.at < length ps) c.points-points.ensures.points c.loop-at-test.true in
    taken_fault c.args.program.now c.args.blocks.now c.args.bounds.now c.args.pool.now c.loop-at.at
    c.index-points-at.result c.in-Err.fault inside
    (c.index-points-at.is
    ∙ ap (λ (ps : List PoolPoint). get_or ps c.loop-at.at c.index-points-at.result) c.points-points.ensures.points)
    c.in-Err.ensures.taken

pub loop-at-init : goal.loop-at-init
loop-at-init c = record { at = refl; seen = c.requires.seen }

pub take_point-requires-clause-block : goal.take_point-requires-clause-block
take_point-requires-clause-block c =
    let inside : c.loop-at.at < length c.args.pool.now =
    subst (λ (ps : List PoolPoint). c.loop-at.at < length ps) c.points-points.ensures.points c.loop-at-test.true in
    subst (λ (held : PoolPoint). held.block < length c.args.blocks.now.subproblems.items)
    (sym (c.index-points-at.is
    ∙ ap (λ (ps : List PoolPoint). get_or ps c.loop-at.at c.index-points-at.result) c.points-points.ensures.points))
    (c.requires.points c.loop-at.at c.index-points-at.result inside).0

pub take_point-requires-clause-sums : goal.take_point-requires-clause-sums
take_point-requires-clause-sums c = c.loop-at.invariant.seen.is_master.count

pub loop-at-preserved : goal.loop-at-preserved
loop-at-preserved c =
    let inside : c.loop-at.at < length c.args.pool.now =
    subst (λ (ps : List PoolPoint). c.loop-at.at < length ps) c.points-points.ensures.points c.loop-at-test.true in
    record {
      at = refl;
      seen = seen_more c.args.program.now c.args.blocks.now c.args.bounds.now c.args.pool.now c.loop-at.at
          c.index-points-at.result c.loop-at.self c.take_point.new.self _ inside
          (c.index-points-at.is
          ∙ ap (λ (ps : List PoolPoint). get_or ps c.loop-at.at c.index-points-at.result)
          c.points-points.ensures.points)
          c.loop-at.invariant.at c.loop-at.invariant.seen c.in-Ok.ensures.taken refl;
    }

pub returns : goal.returns
returns c = (
  c.loop-at.invariant.seen,
  all_seen _ _ _ _ c.loop-at.invariant.at c.loop-at-test.false
      c.loop-at.invariant.seen.seen (ap (λ (ps : List PoolPoint). length ps) c.points-points.ensures.points),
)
