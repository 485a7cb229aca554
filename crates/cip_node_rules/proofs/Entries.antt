-- Whether there are too many entries, told part by part.
--     long_test   what is left of the limit is less than the last part, or isn't, as the sum is more than the limit
use Rattle.std.proofs.Common.{◌≡◌, ◌+◌, ◌-◌, ◌<◌, ◌≤◌, ℕ, sym, ◌∙◌, arith, inl, inr}
use Rattle.std.specs.Prelude.{nat_lt}
use Rattle.std.proofs.lemmas.Bool.{lt-ltb, le-ltb, cases_lt}

pub long_test : (a b c : ℕ) → a ≤ 4096 → b ≤ 4096 - a → nat_lt (4096 - a - b) c ≡ nat_lt 4096 (a + b + c)
long_test a b c h k = elim (cases_lt (4096 - a - b) c) [
  | inl l ↦
      lt-ltb (4096 - a - b) c l
      ∙ sym (lt-ltb 4096 (a + b + c) (let m : 4096 < a + b + c = omega (arith, h, k, l) in m))
  | inr l ↦
      le-ltb (4096 - a - b) c l
      ∙ sym (le-ltb 4096 (a + b + c) (let m : a + b + c ≤ 4096 = omega (arith, h, k, l) in m))
]
