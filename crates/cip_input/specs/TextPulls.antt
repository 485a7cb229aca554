-- Pulling a text from a store, to its end or to the first byte past the limit.
--     IsAllPulled text now      the text was pulled
use Rattle.std.specs.Prelude.{◌≡◌, ℕ, ◌+◌, ◌≤◌, List, take, drop, length, Option, IfSome, option_map}
use Rattle.cip_io.specs.Faults.{Rose}
use Rattle.cip_io.specs.Store.{StoreTells}
use Rattle.cip_problem.specs.Limits.{longest_text}
use Rattle.cip_input.specs.declared.unread.Unread.{Unread}
use Rattle.cip_input.specs.declared.unread.Unread.TheVariants.{StoreFailed, Faulty, NoMemory}

-- the most bytes that are pulled of a text: one more than a text may have
abbrev pub most_pulled : ℕ
most_pulled = longest_text + 1

-- a text was pulled to its end, or to the first byte too many
abbrev pub IsAllPulled : (text : Option (List ℕ)) → (now : StoreTells) → Type 0
IsAllPulled text now = now.left ≡ option_map (drop most_pulled) text

-- ---- while a text is pulled; `HasRead bytes` says that these bytes were read

-- since the text was chosen, these bytes were pulled of it, where it is told, the rest is left, and no call has failed
pub record IsPulled (chosen now : StoreTells) (bytes : List ℕ) : Type 0 where
  pub rest : now.left ≡ option_map (drop (length bytes)) chosen.left
  pub front : IfSome chosen.left (λ text. take (length bytes) text ≡ bytes)
  pub sound : now.faults ≡ chosen.faults

-- the bytes that were pulled were read, and there are so many
pub record IsReading (HasRead : List ℕ → Type 0) (chosen now : StoreTells) (pulled : ℕ) : Type 0 where
  pub bytes : List ℕ
  pub has_read : HasRead bytes
  pub is_pulled : IsPulled chosen now bytes
  pub size : length bytes ≡ pulled

-- a text was pulled, and as much of it was read as is looked at
pub record IsAllRead (HasRead : List ℕ → Type 0) (chosen now : StoreTells) : Type 0 where
  pub bytes : List ℕ
  pub has_read : HasRead bytes
  pub start : IfSome chosen.left (λ text. take most_pulled text ≡ bytes)
  pub pulled : IsAllPulled chosen.left now
  pub sound : now.faults ≡ chosen.faults

-- a further piece of this many bytes was read; none comes only where the text has ended
pub record ReadsPiece (HasRead : List ℕ → Type 0) (chosen now : StoreTells) (pulled count : ℕ) : Type 0 where
  pub reading : IsReading HasRead chosen now (pulled + count)
  pub end : count ≡ 0 → pulled ≤ most_pulled → IsAllRead HasRead chosen now

-- why a text was not read to its end, which is no fault of the text
abbrev pub PullCause : {K : Type 0} → (old new : StoreTells) → Unread K → Type 0
PullCause old new StoreFailed = Rose old.faults new.faults
PullCause old new (Faulty fault) = ⊥
PullCause old new NoMemory = new.faults ≡ old.faults
