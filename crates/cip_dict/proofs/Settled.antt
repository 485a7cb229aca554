-- Fractions as whole numbers over one denominator.
use Rattle.std.proofs.Common.{◌≡◌, ℕ, ◌+◌, ◌*◌, ◌<◌, ℤ, pos, ◌*ℤ◌, List, [], ◌∷◌, ◌++◌, length, take, get_or, Option, Some, None, Result, Ok, Err, IfSome, IfOk, sym, ap, ap₂, ◌∙◌, arith}
use Rattle.std.proofs.lemmas.List.{take_more}
use Rattle.cip_rational.specs.Rational.{ℚ, zeroℚ, ratio, numerator, denominator, is_ratio}
use Rattle.cip_rational.proofs.Rational.Lowest.{denominator-pos}
use Rattle.cip_dict.specs.SparseLines.{Kept}
use Rattle.cip_dict.specs.WholeLines.{Whole, over}
use Rattle.cip_dict.proofs.WholeLines.{whole_lines_tell}
use Rattle.cip_dict.proofs.WholeParts.{over_append}

pub some_map : {X : Type 0} (r : Option X) (P Q : X → Type 0) → IfSome r P → ((v : X) → P v → Q v) → IfSome r Q
some_map (Some v) P Q h f = f v h
some_map None P Q h f = tt

pub found_map : {X E : Type 0} (r : Result (Option X) E) (P Q : X → Type 0) → IfOk r (λ found. IfSome found P) → ((v : X) → P v → Q v) → IfOk r (λ found. IfSome found Q)
found_map (Ok found) P Q h f = some_map found P Q h f
found_map (Err e) P Q h f = tt

pub whole_is : (entry : ℚ) (n z : ℤ) (d below f : ℕ) → n ≡ numerator entry → d ≡ denominator entry → 0 < f → below ≡ d * f → z ≡ n *ℤ pos f → ratio z below ≡ entry
whole_is entry n z d below f en ed hf eb ez =
    let hd : 0 < d = (let h : 0 < denominator entry = denominator-pos entry in omega (arith, h, ed)) in
    ap₂ ratio ez eb ∙ whole_lines_tell.divided n d f hd hf ∙ ap₂ ratio en ed ∙ is_ratio entry

pub settled_more : (es : List Kept) (at below : ℕ) (out new : List Whole) (e : Kept) (n : ℤ) → at < length es → over below out ≡ take at es → new ≡ out ++ (e.0, n) ∷ [] → e ≡ get_or es at (0, zeroℚ) → ratio n below ≡ e.1 → over below new ≡ take (at + 1) es
settled_more es at below out new e n l h is read number =
    ap (over below) is ∙ over_append below out ((e.0, n) ∷ [])
    ∙ ap₂ (λ (xs : List Kept) (q : ℚ). xs ++ (e.0, q) ∷ []) h number
    ∙ ap (λ (x : Kept). take at es ++ x ∷ []) read
    ∙ sym (take_more es at (0, zeroℚ) l)
