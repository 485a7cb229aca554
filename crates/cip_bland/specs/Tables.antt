-- Lists, sums and sequences made from a function of the numbers below n.
--     table n f       f 0, f 1, .., f (n - 1)
--     each n f        the lists f 0, f 1, .., f (n - 1), one after another
--     total n f       f 0 + f 1 + .. + f (n - 1)
--     form n row x    the sum of the products row k * x k
--     least n test    the least number below n that passes a test
use Rattle.std.specs.Prelude.{ℕ, zero, suc, Bool, List, [], ◌++◌, Option, None, Some, if◌then◌else◌}
use Rattle.cip_rational.specs.Rational.{ℚ, ◌+ℚ◌, ◌*ℚ◌, zeroℚ}
unfoldable pub use Rattle.cip_problem.specs.Aggregate.{table}

-- the lists f 0, f 1, .., f (n - 1), one after another
abbrev pub each : {X : Type 0} → ℕ → (ℕ → List X) → List X
each zero f = []
each (suc n) f = each n f ++ f n

-- f 0 + f 1 + .. + f (n - 1), begun with 0
abbrev pub total : ℕ → (ℕ → ℚ) → ℚ
total zero f = zeroℚ
total (suc n) f = total n f +ℚ f n

-- a linear form: the sum of the products of its entries and the values of the first n variables
abbrev pub form : ℕ → (ℕ → ℚ) → (ℕ → ℚ) → ℚ
form n row x = total n (λ k. row k *ℚ x k)

-- the first of two that is there
abbrev pub first_of : {X : Type 0} → Option X → Option X → Option X
first_of None other = other
first_of (Some x) other = Some x

-- the least number below n that passes a test
abbrev pub least : ℕ → (ℕ → Bool) → Option ℕ
least zero test = None
least (suc n) test = first_of (least n test) (if test n then Some n else None)
