-- Counts of faults, which never fall and stop at the last value of their type.
use Rattle.std.specs.Prelude.{◌≡◌, ℕ, ◌+◌, ◌-◌, ◌^◌, ◌≤◌, max, min, Result, OnOk, OnErr}

-- a count after one more: it stops at its last value, 2^64 - 1
abbrev pub next_count : ℕ → ℕ
next_count count = max count (min (count + 1) (2 ^ 64 - 1))

-- the count rose between old and new, or stands at its last value now
abbrev pub Rose : ℕ → ℕ → Type 0
Rose old new = next_count old ≤ new

-- an `Ok` leaves the count as it was, and an `Err` comes only where it rose or stands at its last value. So where a
-- caller's count is as it was, and not at its last value, none of the calls that it made has failed
abbrev pub CountsFaults : {T E : Type 0} → Result T E → (old new : ℕ) → Type 0
CountsFaults result old new = OnOk result (new ≡ old) × OnErr result (Rose old new)
