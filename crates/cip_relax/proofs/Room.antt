-- Room that stays as it was.
use Rattle.std.proofs.Common.{◌≡◌, ◌≤◌, ℕ, ◌∙◌, sym, subst}

pub same_room : (before between after : ℕ) → after ≡ between → between ≡ before → after ≡ before
same_room before between after e h = e ∙ h

pub room_stays : (width before after : ℕ) → after ≡ before → width ≤ before → width ≤ after
room_stays width before after e room = subst (λ n. width ≤ n) (sym e) room
