use Rattle.std.proofs.Common.{◌≡◌, take}
use Rattle.cip_lagrange.specs.Places.{placed_row}
use Rattle.cip_lagrange.proofs.picking.placed_row.Given as goal

abbrev pub invariant-loop-term : goal.invariant-loop-term
invariant-loop-term l =
    l.placed ≡ placed_row l.places (record { terms = take l.term-index l.terms; low = l.row.low; high = l.row.high })
