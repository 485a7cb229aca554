-- The word behind BLOCK, and words that are none of the first three.
use Rattle.std.proofs.Common.{◌≡◌, ℕ, zero, suc, ◌-◌, ◌<◌, ◌≤◌, Bool, true, false, if◌then◌else◌, List, length, get_or, set, Option, None, Some, sym, ap, ◌∙◌, arith}
use Rattle.std.proofs.lemmas.List.{get_or_default, get_or_past}
use Rattle.std.proofs.lemmas.Option.{none-some, cond_some}
use Rattle.std.specs.Prelude.{nat_le}
use Rattle.cip_problem.specs.BlockParts.{most_blocks}
use Rattle.cip_problem.specs.Program.{Program}
use Rattle.cip_text_rules.specs.MpsRules.{least}
use Rattle.cip_text_rules.specs.BlockWords.{NamesOf, Number, number_word, from_zero}
use Rattle.cip_text_rules.specs.BlockSteps.{BlockState, is_taken, block_tests, begin_block}
use Rattle.cip_text_rules.specs.BlockStepStatements.{BlockWordsHaveTests}
use Rattle.cip_blocks.specs.SmallNumbers.{small}
use Rattle.cip_blocks.specs.BlockWordsRead.{IsTaken}

-- a word that is none of three, and may be the fourth
pub words_tried : {A : Type 0} (a b c d e : Bool) (w x y z rest : A) → false ≡ a → false ≡ b → false ≡ c → e ≡ d → (if e then z else rest) ≡ (if a then w else (if b then x else (if c then y else (if d then z else rest))))
words_tried a b c d e w x y z rest p q r s =
    ap (λ (t : Bool). if t then z else rest) s
    ∙ ap (λ (t : Bool). if t then y else (if d then z else rest)) r
    ∙ ap (λ (t : Bool). if t then x else (if c then y else (if d then z else rest))) q
    ∙ ap (λ (t : Bool). if t then w else (if b then x else (if c then y else (if d then z else rest)))) p

small_was : (number : Option ℕ) (n : ℕ) → Some n ≡ small number → number ≡ Some n
small_was None n e = absurd (none-some n (sym e))
small_was (Some m) n e = ap (λ (k : ℕ). Some k) (cond_some (nat_le m most_blocks) m n (sym e)).1

from_one : (n : ℕ) → 0 < n → from_zero (Some n) ≡ Some (n - 1)
from_one zero l = absurd (omega (arith, l))
from_one (suc k) l = let same : k ≡ suc k - 1 = omega arith in ap (λ (m : ℕ). Some m) same

module _ (law : BlockWordsHaveTests) (program : Program) (state : BlockState) (word : List ℕ) (n : ℕ) (e : Some n ≡ small (number_word word)) (l : 0 < n) where
  said : from_zero (number_word word) ≡ Some (n - 1)
  said = ap from_zero (small_was (number_word word) n e) ∙ from_one n l

  abbrev kind_by : Bool → Option ℕ
  kind_by taken = if taken then Some 3 else None

  kind_is : least (block_tests program state (Number (number_word word))) ≡ kind_by (is_taken state.begun (Some (n - 1)))
  kind_is = law.number program state (number_word word) ∙ ap (λ (block : Option ℕ). kind_by (is_taken state.begun block)) said

  refused : is_taken state.begun (Some (n - 1)) ≡ true → IsTaken program state state (Number (number_word word)) (Some 3)
  refused taken = record {
    is_kind = sym (kind_is ∙ ap kind_by taken);
    taken = λ none. absurd (none-some 3 (sym none));
  }

  -- there is no such block
  pub number_past : (count : ℕ) → count ≡ length state.begun → count ≤ n - 1 → IsTaken program state state (Number (number_word word)) (Some 3)
  number_past count same past = refused (get_or_past state.begun (n - 1) true (omega (arith, same, past)))

  -- it was begun
  pub number_begun : (found : Bool) → found ≡ get_or state.begun (n - 1) found → found ≡ true → IsTaken program state state (Number (number_word word)) (Some 3)
  number_begun found is begun = refused (ap (get_or state.begun (n - 1)) (sym begun) ∙ sym is ∙ begun)

  abbrev behind : Option ℕ → BlockState
  behind block = record {
    place = NamesOf block;
    count = state.count;
    begun = begin_block state.begun block;
    rows = state.rows;
  }

  -- it begins
  pub number_taken : (count : ℕ) (found : Bool) → count ≡ length state.begun → n - 1 < count → found ≡ get_or state.begun (n - 1) found → found ≡ false → IsTaken program state (record { place = NamesOf (Some (n - 1)); count = state.count; begun = set state.begun (n - 1) true; rows = state.rows }) (Number (number_word word)) None
  number_taken count found same inside is unbegun = record {
    is_kind = sym (kind_is ∙ ap kind_by (get_or_default state.begun (n - 1) true found (omega (arith, same, inside)) ∙ sym is ∙ unbegun));
    taken = λ none. ap behind (sym said);
  }
