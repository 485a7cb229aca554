-- What a kit gets back, where lines are kept.
use Rattle.std.proofs.Common.{◌≡◌, Bool, true, false, Some, Vec, Global, map, refl, ap}
use Rattle.cip_events.specs.declared.traces.Trace.{Trace}
use Rattle.cip_roster.specs.Seats.{State}
use Rattle.cip_roster.specs.Closed.{IsClosed}
use Rattle.cip_solve.specs.Kits.{Stock, HasEnded}

pub same_map : {A B : Type 0} (f : A → B) (u v : Vec A Global) → u ≡ v → map f u.items ≡ map f v.items
same_map {A} {B} f u v e = ap (λ (w : Vec A Global). map f w.items) e

pub ended_kept : (kept : Bool) (left closed : State) (had has : Stock) (told : Trace) → kept ≡ true → IsClosed left closed had.spent has.spent → has.start ≡ had.start → has.shelf ≡ had.shelf → told.names.items ≡ closed.names → told.lines.items ≡ closed.lines → HasEnded kept left had has (Some told)
ended_kept false left closed had has told k c s h n l = absurd (cc)
ended_kept true left closed had has told k c s h n l = record {
  closed = closed;
  closes = c;
  start = s;
  shelf = h;
  told = record { told = told; is_told = refl; names = n; lines = l };
}
