-- Texts that begin above 0 have no `+` in front.
use Rattle.std.specs.Prelude.{◌≡◌, ◌==◌, Bool, true, false, cond, ℕ, ◌≤◌, List, [], ◌∷◌, drop, refl}
use Rattle.std.proofs.Common.{arith}
use Rattle.std.specs.Str.Parse.{without_leading_plus}
use Rattle.std.proofs.lemmas.Bool.{eqb-true, leb-true}
use Rattle.clap.proofs.WalkLemmas.{both}
use Rattle.cip_input.specs.Jobs.{begins_above_zero}

plus_kept : (byte : ℕ) (bytes : List ℕ) (same : Bool) → (byte == 43) ≡ same → 49 ≤ byte → drop (cond same 1 0) (byte ∷ bytes) ≡ byte ∷ bytes
plus_kept byte bytes true e h = absurd (omega (arith, eqb-true _ _ e, h))
plus_kept byte bytes false e h = refl

pub no_plus : (text : List ℕ) → begins_above_zero text ≡ true → without_leading_plus text ≡ text
no_plus [] e = absurd (cc)
no_plus (byte ∷ bytes) e = plus_kept byte bytes (byte == 43) refl (leb-true _ _ (both _ _ e).0)
