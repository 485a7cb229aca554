-- Reading texts of points and of blocks that are pulled from a store. `HasValue` and `HasFault` say what bytes come to.
use Rattle.std.specs.Prelude.{◌≡◌, ℕ, List, Option, IfSome}
use Rattle.cip_io.specs.Store.{StoreTells}
use Rattle.cip_input.specs.TextPulls.{IsAllPulled}

-- ---- `old` and `new` are the store before and after the call

-- the value of a text was read, and of the text that the store tells; it was pulled, and no call of the store has
-- failed
pub record ReadsText {X : Type 0} (HasValue : List ℕ → X → Type 0) (text : Option (List ℕ)) (old new : StoreTells)
    (value : X) : Type 0 where
  pub bytes : List ℕ
  pub described : HasValue bytes value
  pub told : IfSome text (λ told. told ≡ bytes)
  pub pulled : IsAllPulled text new
  pub sound : new.faults ≡ old.faults

-- the text has its first fault at this line, of this kind; it was pulled, and no call of the store has failed
pub record RefusesText (HasFault : List ℕ → ℕ → ℕ → Type 0) (text : Option (List ℕ)) (old new : StoreTells)
    (line kind : ℕ) : Type 0 where
  pub fault : IfSome text (λ bytes. HasFault bytes line kind)
  pub pulled : IsAllPulled text new
  pub sound : new.faults ≡ old.faults
