use Rattle.std.specs.Borrow.{Bor}
use Rattle.std.proofs.Common.{map, length, ◌∙◌, arith}
use Rattle.std.proofs.lemmas.Grind.{common_steps}
use Rattle.cip_relax.proofs.Gathered.{kept_long, kept_room, kept_wide, kept_rows, kept_ids}
use Rattle.cip_problem.specs.WellFormed.{columns}
use Rattle.cip_problem.specs.Program.{Row}
use Rattle.cip_relax.proofs.relaxed.relax_from.Goals as goal
use Rattle.cip_relax.proofs.relaxed.relax_from.Goals.{in-Ok, in-Err}

pub returns : goal.returns
returns c =
    elim c.match-room.branch [
      | in-Ok w ↦ rw w.relaxed-is (rw (c.in_ok-usable.ensures.pool, c.in_ok-usable.ensures.bounds, w.in-Ok.ensures ∙ c.columns.ensures.count) at w.relaxed_in-relaxed.ensures.relaxed)
      | in-Err w ↦ rw w.relaxed-is tt
    ]

pub room-requires : goal.room-requires
room-requires c = grind (arith, common_steps)

pub gather-requires : goal.gather-requires
gather-requires c = grind (arith, common_steps)

pub relaxed_in-relaxed-requires-clause-columns : goal.relaxed_in-relaxed-requires-clause-columns
relaxed_in-relaxed-requires-clause-columns c =
    kept_long c.in_ok-usable.usable.bounds.now c.args.bounds.now c.in_ok-usable.ensures.bounds
    (columns c.args.program.now) c.requires.columns

pub relaxed_in-relaxed-requires-clause-pool : goal.relaxed_in-relaxed-requires-clause-pool
relaxed_in-relaxed-requires-clause-pool c =
    kept_wide c.in_ok-usable.usable.bounds.now c.args.bounds.now c.in_ok-usable.ensures.bounds
    c.in_ok-usable.usable.pool.now c.args.pool.now c.in_ok-usable.ensures.pool c.requires.pool

pub relaxed_in-relaxed-requires-clause-others : goal.relaxed_in-relaxed-requires-clause-others
relaxed_in-relaxed-requires-clause-others c =
    kept_rows c.in_ok-usable.usable.bounds.now c.args.bounds.now c.in_ok-usable.ensures.bounds
    c.in_ok-usable.usable.pool.now c.args.pool.now c.in_ok-usable.ensures.pool
    (map (λ (row : Bor Row). row.now) c.in_ok-usable.usable.rows.items) c.in_ok-usable.ensures.rows

pub relaxed_in-relaxed-requires-clause-ids : goal.relaxed_in-relaxed-requires-clause-ids
relaxed_in-relaxed-requires-clause-ids c =
    kept_ids c.in_ok-usable.usable.bounds.now c.args.bounds.now c.in_ok-usable.ensures.bounds
    c.in_ok-usable.usable.pool.now c.args.pool.now c.in_ok-usable.ensures.pool
    c.in_ok-usable.usable.ids.items c.in_ok-usable.ensures.ids

pub relaxed_in-relaxed-requires-clause-room : goal.relaxed_in-relaxed-requires-clause-room
relaxed_in-relaxed-requires-clause-room c =
    kept_room c.in_ok-usable.usable.bounds.now c.args.bounds.now c.in_ok-usable.ensures.bounds
    (columns c.args.program.now) c.columns.result (length c.in-Ok.scratch.row.entries)
    c.requires.columns c.in-Ok.ensures c.columns.ensures.count
