-- Numbers of rows, of the objective and of bounds, as they are read.
use Rattle.std.specs.Prelude.{◌≡◌, ℕ, ◌<◌, ◌≤◌, Bool, List}
use Rattle.cip_text_rules.specs.LpPlaces.{Amount, Where, Reads, fails}
use Rattle.cip_text_rules.specs.LpGrammar.{amount_in, limit_in, with_number, with_limit}
use Rattle.cip_lp.specs.declared.numbers.Limit.{Limit}
use Rattle.cip_lp.specs.LpLimits.{limit_shown}

-- a number behind a sign; what is said with it has no fault of its own
pub record IsAmount (minus : Bool) (text : List ℕ) (amount : Amount) : Type 0 where
  pub is : amount ≡ amount_in minus text
  pub some : (w : Where) (reads : Reads) → with_number w text reads ≡ reads

-- a number without value
pub record IsNoAmount (text : List ℕ) (kind : ℕ) : Type 0 where
  pub none : (w : Where) (reads : Reads) → with_number w text reads ≡ fails w kind
  pub some : 0 < kind
  pub few : kind ≤ 11

-- the value of a bound behind a sign
pub record IsLimit (minus : Bool) (text : List ℕ) (limit : Limit) : Type 0 where
  pub is : limit_shown limit ≡ limit_in minus text
  pub some : (w : Where) (reads : Reads) → with_limit w text reads ≡ reads

-- a value of a bound that needs too many digits
abbrev pub IsTooFine : List ℕ → Type 0
IsTooFine text = (w : Where) (reads : Reads) → with_limit w text reads ≡ fails w 5
