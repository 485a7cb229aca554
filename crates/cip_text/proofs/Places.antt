-- The first place at which a list passes a test.
use Rattle.std.proofs.Common.{◌≡◌, ℕ, suc, ◌+◌, ◌≤◌, Bool, true, false, not, ◌||◌, leb, ltb, cond, List, [], ◌∷◌, length, refl, ◌∙◌, arith, leb-true, leb-false}
use Rattle.std.specs.List.{list_any, after_first, position_or_len}
use Rattle.std.proofs.lemmas.Bool.{le-leb, lt-leb, ltb-false}
use Rattle.std.proofs.lemmas.List.{drop_all}
use Rattle.std.proofs.lemmas.List.Sums.{prefix_len-le-length}

shift : (a b : ℕ) → ltb (1 + a) (suc b) ≡ ltb a b
shift a b = go (leb (suc a) b) refl
  where
    go : (t : Bool) → leb (suc a) b ≡ t → leb (suc (1 + a)) (suc b) ≡ t
    go true e = le-leb (suc (1 + a)) (suc b) (omega (arith, leb-true _ _ e))
    go false e = lt-leb (suc (1 + a)) (suc b) (omega (arith, leb-false _ _ e))

step : (b : Bool) (p n : ℕ) (any : Bool) → ltb p n ≡ any → ltb (cond (not b) (1 + p) 0) (suc n) ≡ (b || any)
step true p n any h = le-leb 1 (suc n) (omega arith)
step false p n any h = shift p n ∙ h

-- there is such a place exactly where some element passes
pub found : (p : ℕ → Bool) (xs : List ℕ) → ltb (position_or_len p xs) (length xs) ≡ list_any p xs
found p [] = refl
found p (x ∷ xs) = step (p x) (position_or_len p xs) (length xs) (list_any p xs) (found p xs)

pub place_within : (p : ℕ → Bool) (xs : List ℕ) → position_or_len p xs ≤ length xs
place_within p xs = prefix_len-le-length (λ x. not (p x)) xs

-- where none passes, nothing stands behind it
pub none_after : (p : ℕ → Bool) (xs : List ℕ) → list_any p xs ≡ false → after_first p xs ≡ []
none_after p xs e =
    let h : length xs ≤ position_or_len p xs = ltb-false _ _ (found p xs ∙ e) in
    drop_all (position_or_len p xs + 1) xs (omega (arith, h))
