-- Kinds of faults, and what is read of a line.
use Rattle.std.proofs.Common.{◌≡◌, ℕ, ◌<◌, ◌≤◌, Bool, true, false, ◌&&◌, if◌then◌else◌, List, [], ◌∷◌, Option, None, Some, refl}
use Rattle.std.specs.Prelude.{nat_lt, nat_le, IfSome}
use Rattle.std.specs.List.{list_all}
use Rattle.std.proofs.lemmas.Bool.{ltb-true, leb-true}
use Rattle.cip_text_rules.specs.MpsSayings.{Saying}
use Rattle.cip_text_rules.specs.MpsRules.{Rule, least}
use Rattle.cip_text_rules.specs.MpsState.{State}
use Rattle.cip_text_rules.specs.MpsSteps.{tests}
use Rattle.cip_rational.proofs.InRange.{both_left, both_right}

-- ---- kinds

-- a kind is one of the 21
abbrev pub is_kind : ℕ → Bool
is_kind kind = nat_lt 0 kind && nat_le kind 21

least_is_kind : (rules : List Rule) (kind : ℕ) → list_all (λ r. is_kind r.kind) rules ≡ true → least rules ≡ Some kind → is_kind kind ≡ true
least_is_kind [] kind h e = cc
least_is_kind (r ∷ others) kind h e = go r.broken e (both_left (is_kind r.kind) (list_all (λ r. is_kind r.kind) others) h) (least_is_kind others kind (both_right (is_kind r.kind) (list_all (λ r. is_kind r.kind) others) h))
  where
    go : (b : Bool) → (if b then Some r.kind else least others) ≡ Some kind → is_kind r.kind ≡ true → (least others ≡ Some kind → is_kind kind ≡ true) → is_kind kind ≡ true
    go true e one rest = let same : r.kind ≡ kind = cc e in rw (← same) one
    go false e one rest = rest e

-- the fault of a line is one of the 21 kinds
fault_is_kind : (state : State) (now : Saying) (kind : ℕ) → Some kind ≡ least (tests state now) → is_kind kind ≡ true
fault_is_kind state now kind e = least_is_kind (tests state now) kind refl (cc e)

pub kind_some : (state : State) (now : Saying) (kind : ℕ) → Some kind ≡ least (tests state now) → 0 < kind
kind_some state now kind e = ltb-true 0 kind (both_left (nat_lt 0 kind) (nat_le kind 21) (fault_is_kind state now kind e))

pub kind_few : (state : State) (now : Saying) (kind : ℕ) → Some kind ≡ least (tests state now) → kind ≤ 21
kind_few state now kind e = leb-true kind 21 (both_right (nat_lt 0 kind) (nat_le kind 21) (fault_is_kind state now kind e))

-- the kind of the fault of a line, if it has one
pub kind_to : (state : State) (now : Saying) (kind : Option ℕ) → kind ≡ least (tests state now) → IfSome kind (λ k. (0 < k) × (k ≤ 21))
kind_to state now None e = tt
kind_to state now (Some kind) e = (kind_some state now kind e, kind_few state now kind e)
