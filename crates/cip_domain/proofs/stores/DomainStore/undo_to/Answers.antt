use Rattle.std.proofs.lemmas.Grind.{common_steps}
use Rattle.std.proofs.Common.{◌≡◌, ◌<◌, ap, length, arith}
use Rattle.cip_domain.specs.Domain.{region_of, regions}
use Rattle.cip_domain.proofs.Marks.{earlier_stay}
use Rattle.cip_domain.proofs.Trails.{length-regions_before, one_undone, undone_region, undone_before}
use Rattle.cip_domain.proofs.stores.DomainStore.undo_to.Goals as goal

pub undo_last-requires : goal.undo_last-requires
undo_last-requires c =
    let n = length-regions_before c.self.inside.region c.self.inside.trail.items in
    let e = ap (λ d. length d.before) c.self.view_is in
    omega (arith, n, e, c.len.ensures, c.self.inside.trail.ok.0, c.loop-mark-test.true)

pub loop-mark-preserved : goal.loop-mark-preserved
loop-mark-preserved c =
    let n = length-regions_before c.self.inside.region c.self.inside.trail.items in
    let e = ap (λ d. length d.before) c.self.view_is in
    let l : c.mark.inside.changes < length c.loop-mark.self.before = omega (arith, n, e, c.len.ensures, c.self.inside.trail.ok.0, c.loop-mark-test.true) in
    let k = one_undone (regions c.args.self.now) c.loop-mark.self.before (region_of c.loop-mark.self) c.undo_last.new.self.before (region_of c.undo_last.new.self) c.loop-mark.invariant.regions_are c.undo_last.ensures.regions in
    record {
      held = omega (arith, l, k.0);
      regions_are = k.1;
      room = omega (arith, c.loop-mark.invariant.room, c.undo_last.ensures.room, k.0);
    }

pub returns-clause-restored : goal.returns-clause-restored
returns-clause-restored c =
    let n = length-regions_before c.self.inside.region c.self.inside.trail.items in
    let e = ap (λ d. length d.before) c.self.view_is in
    let at : c.args.mark ≡ length c.loop-mark.self.before = omega (arith, n, e, c.len.ensures, c.self.inside.trail.ok.0, c.loop-mark-test.false, c.loop-mark.invariant.held, c.mark.view_is) in
    undone_region (regions c.args.self.now) c.loop-mark.self.before (region_of c.loop-mark.self) (region_of c.args.self.now) c.args.mark at c.loop-mark.invariant.regions_are

pub returns-clause-before : goal.returns-clause-before
returns-clause-before c =
    let n = length-regions_before c.self.inside.region c.self.inside.trail.items in
    let e = ap (λ d. length d.before) c.self.view_is in
    let at : c.args.mark ≡ length c.loop-mark.self.before = omega (arith, n, e, c.len.ensures, c.self.inside.trail.ok.0, c.loop-mark-test.false, c.loop-mark.invariant.held, c.mark.view_is) in
    undone_before c.args.self.now.before c.loop-mark.self.before (region_of c.args.self.now) (region_of c.loop-mark.self) c.args.mark at (omega (arith, c.requires.held)) c.loop-mark.invariant.regions_are

pub returns-clause-room : goal.returns-clause-room
returns-clause-room c =
    let n = length-regions_before c.self.inside.region c.self.inside.trail.items in
    let e = ap (λ d. length d.before) c.self.view_is in
    let at : c.args.mark ≡ length c.loop-mark.self.before = omega (arith, n, e, c.len.ensures, c.self.inside.trail.ok.0, c.loop-mark-test.false, c.loop-mark.invariant.held, c.mark.view_is) in
    omega (arith, at, c.loop-mark.invariant.room, c.requires)

pub returns-clause-earlier : goal.returns-clause-earlier
returns-clause-earlier c = λ other l.
    let n = length-regions_before c.self.inside.region c.self.inside.trail.items in
    let e = ap (λ d. length d.before) c.self.view_is in
    let at : c.args.mark ≡ length c.loop-mark.self.before = omega (arith, n, e, c.len.ensures, c.self.inside.trail.ok.0, c.loop-mark-test.false, c.loop-mark.invariant.held, c.mark.view_is) in
    earlier_stay c.args.self.now c.loop-mark.self c.args.mark other (omega (arith, c.requires.held))
    (undone_before c.args.self.now.before c.loop-mark.self.before (region_of c.args.self.now) (region_of c.loop-mark.self) c.args.mark at (omega (arith, c.requires.held)) c.loop-mark.invariant.regions_are)
    (undone_region (regions c.args.self.now) c.loop-mark.self.before (region_of c.loop-mark.self) (region_of c.args.self.now) c.args.mark at c.loop-mark.invariant.regions_are)
    l

pub loop-mark-init : goal.loop-mark-init
loop-mark-init c = grind (arith, common_steps)

pub loop-mark-smaller : goal.loop-mark-smaller
loop-mark-smaller c = grind (arith, common_steps)
