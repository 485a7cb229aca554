-- The first part of an answer, as it is told.
use Rattle.std.proofs.Common.{◌≡◌, ℕ, ◌-◌, List, length, map, take, sym, ◌∙◌, ap}
use Rattle.std.proofs.lemmas.List.{length-map, take-map}
use Rattle.cip_rational.specs.Rational.{ℚ}
use Rattle.cip_plugin.specs.Answers.{cuts, guesses, priced, reductions, told_cut, told_proof, told_reduction}
use Rattle.cip_plugin.specs.Asking.{count_past, first_part}
use Rattle.cip_plugin.specs.Calls.{Cuts, Guesses, Prices, Reductions, ToldCut, ToldReduction}
use Rattle.cip_cert.specs.declared.pricing.BlockPoint.{BlockPoint}
use Rattle.cip_cert.specs.declared.pricing.Priced.{Priced}
use Rattle.cip_plugin.specs.declared.proposals.Cut.{Cut}
use Rattle.cip_plugin.specs.declared.proposals.Guess.{Guess}
use Rattle.cip_plugin.specs.declared.proposals.Reduction.{Reduction}

-- the first 64 of what a list shows
first_seen : {A B : Type 0} (f : A → B) (xs ys : List A) → ys ≡ take 64 xs → map f ys ≡ take 64 (map f xs)
first_seen f xs ys is = ap (map f) is ∙ sym (take-map f 64 xs)

-- how many there are past them
past_seen : {A B : Type 0} (f : A → B) (xs : List A) → length xs - 64 ≡ length (map f xs) - 64
past_seen f xs = ap (λ (n : ℕ). n - 64) (sym (length-map xs f))

-- the first cuts, and how many there are past them
pub cuts_first : (xs ys : List Cut) → ys ≡ take 64 xs → cuts ys ≡ first_part (cuts xs)
cuts_first xs ys is = ap (λ (told : List ToldCut). Cuts told) (first_seen told_cut xs ys is)

pub cuts_past : (xs : List Cut) (n : ℕ) → n ≡ length xs - 64 → n ≡ count_past (cuts xs)
cuts_past xs n is = is ∙ past_seen told_cut xs

-- the first reductions, and how many there are past them
pub reductions_first : (xs ys : List Reduction) → ys ≡ take 64 xs → reductions ys ≡ first_part (reductions xs)
reductions_first xs ys is = ap (λ (told : List ToldReduction). Reductions told) (first_seen told_reduction xs ys is)

pub reductions_past : (xs : List Reduction) (n : ℕ) → n ≡ length xs - 64 → n ≡ count_past (reductions xs)
reductions_past xs n is = is ∙ past_seen told_reduction xs

-- the first guesses, and how many there are past them
pub guesses_first : (xs ys : List Guess) → ys ≡ take 64 xs → guesses ys ≡ first_part (guesses xs)
guesses_first xs ys is =
    ap (λ (told : List (List ℚ)). Guesses told) (first_seen (λ (g : Guess). g.values.items) xs ys is)

pub guesses_past : (xs : List Guess) (n : ℕ) → n ≡ length xs - 64 → n ≡ count_past (guesses xs)
guesses_past xs n is = is ∙ past_seen (λ (g : Guess). g.values.items) xs

-- the first points of a block beside the same proof, and how many there are past them
pub priced_first : (p : Priced) (points : List BlockPoint) → points ≡ take 64 p.points.items
    → Prices (record { points = map (λ (b : BlockPoint). b.values.items) points; tree = told_proof p.tree })
    ≡ first_part (priced p)
priced_first p points is =
    ap (λ (told : List (List ℚ)). Prices (record { points = told; tree = told_proof p.tree }))
    (first_seen (λ (b : BlockPoint). b.values.items) p.points.items points is)

pub priced_past : (p : Priced) (n : ℕ) → n ≡ length p.points.items - 64 → n ≡ count_past (priced p)
priced_past p n is = is ∙ past_seen (λ (b : BlockPoint). b.values.items) p.points.items
