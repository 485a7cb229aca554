-- What plugins hand out as they are asked one after the other, and who is asked.
use Rattle.std.proofs.Common.{◌≡◌, ℕ, ◌+◌, ◌*◌, List, [], ◌∷◌, ◌++◌, replicate, Bool, true, false, eqb, cond, sym, ◌∙◌, ap, refl, arith, add_assoc, zero-add, add-zero, append_assoc}
use Rattle.std.proofs.lemmas.List.Folds.{sum_by-replicate}
use Rattle.std.proofs.lemmas.List.Sums.{sum_by-append}
use Rattle.cip_plugin.specs.Asking.{first_part}
use Rattle.cip_plugin.specs.Calls.{Ask, Separate, Propagate, Price, Search, Branch, Enforce, OnEvent, Answer, Cuts, Reductions, Prices, Guesses, Splits, Says, Wishes, NoAnswer, Call, Init, InitSolve, Asked, ExitSolve, Exit}
use Rattle.cip_plugin.specs.Steps.{calls_of}
use Rattle.cip_plugin.specs.Calling.{is_answer, noted, turn_of, all_turns, given_of}
use Rattle.cip_plugin.proofs.Hearing.{noted_quiet}
use Rattle.cip_plugin.proofs.Running.{calls_of-append}
use Rattle.cip_calls.specs.Served.{count_for, handed_out}
use Rattle.cip_calls.specs.Asked.{proposers, count_of}

-- ---- counts of numbers

pub count_more : (id : ℕ) (xs ys : List ℕ) → count_of id (xs ++ ys) ≡ count_of id xs + count_of id ys
count_more id xs ys = sum_by-append (λ k. cond (eqb k id) 1 0) xs ys

times_one : (b : Bool) (n : ℕ) → n * cond b 1 0 ≡ cond b n 0
times_one true n = grind arith
times_one false n = grind arith

pub count_alike : (id k n : ℕ) → count_of id (replicate n k) ≡ cond (eqb k id) n 0
count_alike id k n = sum_by-replicate (λ j. cond (eqb j id) 1 0) n k ∙ times_one (eqb k id) n

-- ---- what is handed out

pub handed-append : (xs ys : List Call) → handed_out (xs ++ ys) ≡ handed_out xs + handed_out ys
handed-append [] ys = sym (zero-add (handed_out ys))
handed-append (Init was ∷ xs) ys = handed-append xs ys
handed-append (InitSolve was ∷ xs) ys = handed-append xs ys
handed-append (Asked ask given ∷ xs) ys =
    ap (λ n. count_for ask (first_part given) + n) (handed-append xs ys)
    ∙ sym (add_assoc (count_for ask (first_part given)) (handed_out xs) (handed_out ys))
handed-append (ExitSolve ∷ xs) ys = handed-append xs ys
handed-append (Exit ∷ xs) ys = handed-append xs ys

-- a turn hands out what its answer holds
turn_hands : (id k : ℕ) (ask : Ask) (given : Answer)
    → handed_out (calls_of id (turn_of k ask given)) ≡ cond (eqb k id) (count_for ask (first_part given)) 0
turn_hands id k ask given =
    elim (eqb k id) as (λ b.
    handed_out (cond b (Asked ask given ∷ calls_of id (noted k given)) (calls_of id (noted k given)))
    ≡ cond b (count_for ask (first_part given)) 0) [
      | true ↦ ap (λ (calls : List Call). count_for ask (first_part given) + handed_out calls) (noted_quiet id k given)
          ∙ add-zero (count_for ask (first_part given))
      | false ↦ ap handed_out (noted_quiet id k given)
    ]

-- where memory was refused nothing is
count_none : (ask : Ask) → count_for ask NoAnswer ≡ 0
count_none Separate = refl
count_none Propagate = refl
count_none (Price block costs) = refl
count_none Search = refl
count_none Branch = refl
count_none Enforce = refl
count_none (OnEvent event) = refl

no_count : (b : Bool) (n m : ℕ) → n ≡ 0 → cond b n 0 + m ≡ m
no_count true n m e = omega arith
no_count false n m e = omega arith

-- one more that gave
count_gave : (id : ℕ) (ask : Ask) (k n : ℕ) (rest : List ℕ)
    → count_of id (replicate n k ++ rest) ≡ cond (eqb k id) n 0 + count_of id rest
count_gave id ask k n rest = count_more id (replicate n k) rest ∙ ap (λ m. m + count_of id rest) (count_alike id k n)

-- what is given of one turn and others
count_given : (id : ℕ) (ask : Ask) (k : ℕ) (given : Answer) (rest : List (ℕ × Answer))
    → count_of id (proposers ask (cond (is_answer given) ((k, first_part given) ∷ rest) rest))
    ≡ cond (eqb k id) (count_for ask (first_part given)) 0 + count_of id (proposers ask rest)
count_given id ask k (Cuts xs) rest = count_gave id ask k (count_for ask (first_part (Cuts xs))) (proposers ask rest)
count_given id ask k (Reductions xs) rest = count_gave id ask k (count_for ask (first_part (Reductions xs))) (proposers ask rest)
count_given id ask k (Prices brought) rest = count_gave id ask k (count_for ask (first_part (Prices brought))) (proposers ask rest)
count_given id ask k (Guesses xs) rest = count_gave id ask k (count_for ask (first_part (Guesses xs))) (proposers ask rest)
count_given id ask k (Splits split) rest = count_gave id ask k (count_for ask (first_part (Splits split))) (proposers ask rest)
count_given id ask k (Says said) rest = count_gave id ask k (count_for ask (first_part (Says said))) (proposers ask rest)
count_given id ask k (Wishes xs) rest = count_gave id ask k (count_for ask (first_part (Wishes xs))) (proposers ask rest)
count_given id ask k NoAnswer rest = sym (no_count (eqb k id) (count_for ask NoAnswer) (count_of id (proposers ask rest)) (count_none ask))

-- all turns hand out what is given of them
pub turns_hand : (id : ℕ) (ask : Ask) (heard : List (ℕ × Answer))
    → handed_out (calls_of id (all_turns ask heard)) ≡ count_of id (proposers ask (given_of heard))
turns_hand id ask [] = refl
turns_hand id ask (h ∷ heard) =
    ap handed_out (calls_of-append id (turn_of h.0 ask h.1) (all_turns ask heard))
    ∙ handed-append (calls_of id (turn_of h.0 ask h.1)) (calls_of id (all_turns ask heard))
    ∙ ap (λ n. n + handed_out (calls_of id (all_turns ask heard))) (turn_hands id h.0 ask h.1)
    ∙ ap (λ n. cond (eqb h.0 id) (count_for ask (first_part h.1)) 0 + n) (turns_hand id ask heard)
    ∙ sym (count_given id ask h.0 h.1 (given_of heard))

pub proposers-append : (ask : Ask) (xs ys : List (ℕ × Answer)) → proposers ask (xs ++ ys) ≡ proposers ask xs ++ proposers ask ys
proposers-append ask [] ys = refl
proposers-append ask (x ∷ xs) ys = ap (λ (l : List ℕ). replicate (count_for ask x.1) x.0 ++ l) (proposers-append ask xs ys) ∙ sym (append_assoc (replicate (count_for ask x.1) x.0) (proposers ask xs) (proposers ask ys))
