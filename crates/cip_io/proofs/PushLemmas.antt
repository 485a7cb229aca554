-- Pushing in pieces is pushing at once.
use Rattle.std.proofs.Common.{◌≡◌, ◌+◌, ◌≤◌, ℕ, List, length, take, drop, refl, subst, Some, None, append_assoc, arith, length-drop}
use Rattle.std.specs.Prelude.{Option}
use Rattle.std.specs.Io.KnownBytes.{append_known}
use Rattle.std.proofs.Math.Seq.{take-add}
use Rattle.cip_io.specs.Sink.{SinkTells, TakesAll, Pushes}

-- after the first `done` bytes of a piece and then the next n, the first `done + n` are taken
append_known-take_more : (old now new : Option (List ℕ)) (piece : List ℕ) (done n : ℕ) → now ≡ append_known old (take done piece) → new ≡ append_known now (take n (drop done piece)) → new ≡ append_known old (take (done + n) piece)
append_known-take_more None now new piece done n first next = rw (next, first) refl
append_known-take_more (Some bytes) now new piece done n first next = rw (next, first, take-add, append_assoc) refl

-- one more push, of the rest of a piece
pub TakesAll-more : (old now new : SinkTells) (piece rest : List ℕ) (done n : ℕ) → rest ≡ drop done piece → done ≤ length piece → TakesAll old now (take done piece) → Pushes now new rest n → (done + n ≤ length piece) × TakesAll old new (take (done + n) piece)
TakesAll-more old now new piece rest done n is_rest some_done first next =
    let pushes : Pushes now new (drop done piece) n = subst (λ bytes. Pushes now new bytes n) is_rest next in (
      omega (arith, some_done, pushes.within, length-drop done piece),
      append_known-take_more old.taken now.taken new.taken piece done n first pushes.taken,
    )
