use Rattle.std.proofs.lemmas.Grind.{common_steps}
use Rattle.std.proofs.Common.{◌≡◌, cond, length, Some, Result, Ok, Err, refl, sym, ap, ◌∙◌, arith}
use Rattle.std.proofs.lemmas.Option.{slice_get_read}
use Rattle.cip_problem.specs.Program.{Row}
use Rattle.cip_cert.specs.Pool.{pool_row}
use Rattle.cip_cert.specs.Checks.{in_scope}
use Rattle.cip_cert.specs.declared.faults.CutFault.{CutFault}
use Rattle.cip_cert.specs.declared.faults.CutFault.TheVariants.{NotInScope}
use Rattle.cip_cert.proofs.entries.kept_row.Goals as goal

pub pool_place-requires : goal.pool_place-requires
pool_place-requires c = c.requires.rising

pub returns-in_default : goal.returns-in_default
returns-in_default c = ap (in_scope c.args.entry c.args.bounds.now) c.in_default.ensures

pub bounds-pool-place : goal.bounds-pool-place
bounds-pool-place c = c.in-Some.ensures.0

pub returns-then-not-inside : goal.returns-then-not-inside
returns-then-not-inside c =
    let found : pool_row c.args.pool.now c.args.id ≡ Some c.index-pool-place.result =
    sym c.in-Some.ensures.1 ∙ slice_get_read c.args.pool.now (length c.args.pool.now) c.in-Some.place
    c.index-pool-place.result refl c.in-Some.ensures.0 c.index-pool-place.is in
    ap (in_scope c.args.entry c.args.bounds.now) found ∙ ap (λ t. (let r : Result Row CutFault = cond t
    (Ok c.index-pool-place.result.row) (Err (NotInScope c.args.entry)) in r)) (sym c.if-not-inside.ensures)

pub returns : goal.returns
returns c =
    let found : pool_row c.args.pool.now c.args.id ≡ Some c.index-pool-place.result =
    sym c.in-Some.ensures.1 ∙ slice_get_read c.args.pool.now (length c.args.pool.now) c.in-Some.place
    c.index-pool-place.result refl c.in-Some.ensures.0 c.index-pool-place.is in (
      ap (in_scope c.args.entry c.args.bounds.now) found ∙ ap (λ t. (let r : Result Row CutFault = cond t
          (Ok c.index-pool-place.result.row) (Err (NotInScope c.args.entry)) in r)) (sym c.if-not-inside.ensures),
      rw
          (c.index-pool-place.is) ((c.requires.fits c.in-Some.place c.index-pool-place.result
          c.in-Some.ensures.0).stands),
    )

pub inside-requires : goal.inside-requires
inside-requires c = grind (arith, common_steps)

pub offset_bounds-pool-place : goal.offset_bounds-pool-place
offset_bounds-pool-place c = grind (arith, common_steps)
