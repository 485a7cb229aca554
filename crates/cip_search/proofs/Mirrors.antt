-- Boxes and choices that the log of a search gives over a reduced program, beside those that the log seen gives in the
-- program.
use borrow.Author.Differences.{sum_is_lem, le_out}
use Rattle.std.proofs.Common.{◌≡◌, ◌≢◌, inl, inr, ℕ, ◌<◌, ℤ, pos, ◌+ℤ◌, true, false, List, length, Option, Some, IfSome, slice_set, refl, sym, ap, ◌∙◌, subst, arith, true≢false}
use Rattle.std.proofs.lemmas.Bool.{cases_eq, and_parts}
use Rattle.std.proofs.lemmas.List.{length-set, get_or-set_same, get_or-set_other}
use Rattle.cip_rational.specs.Rational.{ℚ, integer, ◌≤ℚ◌}
use Rattle.cip_rational.proofs.Rational.Order.{≤ℚ_trans}
use Rattle.cip_rational.proofs.Rational.Rounding.{le_integer}
use Rattle.cip_problem.specs.Program.{Sides, Choice, Plain, Open, Program}
use Rattle.cip_problem.specs.Box.{no_sides, sides_at, low_inside, high_inside, sides_inside}
use Rattle.cip_problem.specs.Choices.{choice_at, met, is_open, AreStillOpen}
use Rattle.cip_problem.specs.Wholes.{HasWhole}
use Rattle.cip_problem.specs.Log.{low_half, high_half}
use Rattle.cip_problem.proofs.Box.SideTests.{low_inside_holds, high_inside_holds}
use Rattle.cip_problem.proofs.Log.Given.{open_inside}
use Rattle.cip_search.specs.Pairs.{IsHeldFast, IsPair}
use Rattle.cip_search.proofs.Apart.{kept_apart}
use Rattle.cip_search.proofs.Agreeing.{Agree, agree_first, agree_low, agree_high, agree_met}

-- a box with choices over the reduced program, and one over the program: they agree at each column of the reduced
-- program, and have its own sides where it holds a plain one fast; other columns have the program's sides; and choices
-- are the same, the open ones those of the reduced program
pub record Mirrors (program reduced : Program) (kept : ℕ → ℕ) (box : List Sides) (choices : List Choice) (other : List Sides) (others : List Choice) : Type 0 where
  pub long : length box ≡ length reduced.bounds
  pub other_long : length other ≡ length program.bounds
  pub agree : (column : ℕ) → column < length reduced.bounds → Agree (sides_at reduced.bounds column) (sides_at box column) (sides_at other (kept column))
  pub held : (column : ℕ) → column < length reduced.bounds → is_open (choice_at reduced.choices column) ≡ false → IsHeldFast reduced column → (sides_at box column ≡ sides_at reduced.bounds column) × (sides_at other (kept column) ≡ sides_at program.bounds (kept column))
  pub apart : (column : ℕ) → ((own : ℕ) → own < length reduced.bounds → kept own ≢ column) → sides_at other column ≡ sides_at program.bounds column
  pub same : (column : ℕ) → column < length reduced.bounds → choice_at others (kept column) ≡ choice_at choices column
  pub still : AreStillOpen reduced.choices choices

-- a column that is held fast can't be halved
not_next : (at m n : ℤ) (v : ℚ) → integer m ≤ℚ integer at → v ≤ℚ integer m → integer (at +ℤ pos 1) ≤ℚ integer n → integer n ≤ℚ v → ⊥
not_next at m n v a b c d =
    let over = le_integer (at +ℤ pos 1) at (≤ℚ_trans (≤ℚ_trans c d) (≤ℚ_trans b a)) in
    omega (arith, le_out _ _ over, sum_is_lem at (pos 1))

low_there : (low : Option ℚ) (v value : ℚ) → low_inside low (Some v) ≡ true → IfSome low (λ side. side ≤ℚ value) → v ≤ℚ value
low_there low v value i h = low_inside_holds low (Some v) value i h

high_there : (high : Option ℚ) (v value : ℚ) → high_inside high (Some v) ≡ true → IfSome high (λ side. value ≤ℚ side) → value ≤ℚ v
high_there high v value i h = high_inside_holds high (Some v) value i h

not_halved : (sides : Sides) (v : ℚ) (at : ℤ) → sides_inside sides (record { low = Some v; high = Some v }) ≡ true → HasWhole (record { low = sides.low; high = Some (integer at) }) → HasWhole (record { low = Some (integer (at +ℤ pos 1)); high = sides.high }) → ⊥
not_halved sides v at i a b =
    let p = and_parts (low_inside sides.low (Some v)) (high_inside sides.high (Some v)) i in
    not_next at a.number b.number v a.between.below (low_there sides.low v (integer a.number) p.0 a.between.above) b.between.above (high_there sides.high v (integer b.number) p.1 b.between.below)

module _ (program reduced : Program) (post : List ℚ → List ℚ) (kept : ℕ → ℕ) (pair : IsPair program reduced post kept) where
  -- the program's own
  pub mirrors_first : Mirrors program reduced kept reduced.bounds reduced.choices program.bounds program.choices
  mirrors_first = record {
    long = refl;
    other_long = refl;
    agree = λ column l. agree_first (sides_at reduced.bounds column) (sides_at program.bounds (kept column)) (pair.columns column l).inside;
    held = λ column l o h. (refl, refl);
    apart = λ column f. refl;
    same = λ column l. (pair.columns column l).choice;
    still = λ column o. refl;
  }

  -- other sides at a column, and other choices
  module _ (box : List Sides) (choices : List Choice) (other : List Sides) (others : List Choice) (mirror : Mirrors program reduced kept box choices other others) (at : ℕ) (inside : at < length reduced.bounds) (now then_ : Sides) (agree_now : Agree (sides_at reduced.bounds at) now then_) (free : is_open (choice_at reduced.choices at) ≡ false → IsHeldFast reduced at → ⊥) where
    own_inside : at < length box
    own_inside = let l = mirror.long in omega (arith, l, inside)

    kept_inside : kept at < length other
    kept_inside = let l = mirror.other_long in let w = (pair.columns at inside).within in omega (arith, l, w)

    abbrev box_now : List Sides
    box_now = slice_set box at now

    abbrev other_now : List Sides
    other_now = slice_set other (kept at) then_

    differ : (column : ℕ) → column < length reduced.bounds → column ≢ at → kept column ≢ kept at
    differ column l d e = d (kept_apart program reduced post kept pair column at l inside e)

    own_here : sides_at box_now at ≡ now
    own_here = get_or-set_same box at now no_sides own_inside

    there_here : sides_at other_now (kept at) ≡ then_
    there_here = get_or-set_same other (kept at) then_ no_sides kept_inside

    own_else : (column : ℕ) → column ≢ at → sides_at box_now column ≡ sides_at box column
    own_else column d = get_or-set_other box at column now no_sides d

    there_else : (column : ℕ) → column ≢ kept at → sides_at other_now column ≡ sides_at other column
    there_else column d = get_or-set_other other (kept at) column then_ no_sides d

    pub mirrors_set : (news : List Choice) (olds : List Choice) → ((column : ℕ) → column < length reduced.bounds → choice_at olds (kept column) ≡ choice_at news column) → AreStillOpen reduced.choices news → Mirrors program reduced kept box_now news other_now olds
    mirrors_set news olds same still = record {
      long = length-set box at now ∙ mirror.long;
      other_long = length-set other (kept at) then_ ∙ mirror.other_long;
      agree = λ column l. elim (cases_eq column at) [
        | inl e ↦
            subst (λ c. Agree (sides_at reduced.bounds c) (sides_at box_now c) (sides_at other_now (kept c))) (sym e)
            (subst (λ s. Agree (sides_at reduced.bounds at) s (sides_at other_now (kept at))) (sym own_here)
            (subst (λ s. Agree (sides_at reduced.bounds at) now s) (sym there_here) agree_now))
        | inr d ↦
            subst (λ s. Agree (sides_at reduced.bounds column) s (sides_at other_now (kept column))) (sym (own_else column d))
            (subst (λ s. Agree (sides_at reduced.bounds column) (sides_at box column) s) (sym (there_else (kept column) (differ column l d))) (mirror.agree column l))
      ];
      held = λ column l o h. elim (cases_eq column at) [
        | inl e ↦ absurd (free (subst (λ c. is_open (choice_at reduced.choices c) ≡ false) e o) (subst (IsHeldFast reduced) e h))
        | inr d ↦ let p = mirror.held column l o h in (own_else column d ∙ p.0, there_else (kept column) (differ column l d) ∙ p.1)
      ];
      apart = λ column f. there_else column (λ e. f at inside (sym e)) ∙ mirror.apart column f;
      same = same;
      still = still;
    }

  -- ---- halves

  -- a choice that is made
  module _ (box : List Sides) (choices : List Choice) (other : List Sides) (others : List Choice) (mirror : Mirrors program reduced kept box choices other others) (at : ℕ) (inside : at < length reduced.bounds) (own : Sides) (e : choice_at choices at ≡ Open own) (made : Choice) (closed : is_open made ≡ false) where
    is_there : choice_at others (kept at) ≡ Open own
    is_there = mirror.same at inside ∙ e

    same_made : (column : ℕ) → column < length reduced.bounds → choice_at (slice_set others (kept at) made) (kept column) ≡ choice_at (slice_set choices at made) column
    same_made column l = elim (cases_eq column at) [
      | inl k ↦
          subst (λ c. choice_at (slice_set others (kept at) made) (kept c) ≡ choice_at (slice_set choices at made) c) (sym k)
          (get_or-set_same others (kept at) made Plain (open_inside others (kept at) own is_there) ∙ sym (get_or-set_same choices at made Plain (open_inside choices at own e)))
      | inr d ↦
          get_or-set_other others (kept at) (kept column) made Plain (λ f. d (kept_apart program reduced post kept pair column at l inside f))
          ∙ mirror.same column l ∙ sym (get_or-set_other choices at column made Plain d)
    ]

    still_made : AreStillOpen reduced.choices (slice_set choices at made)
    still_made column o = elim (cases_eq column at) [
      | inl k ↦
          let is : choice_at (slice_set choices at made) column ≡ made = ap (λ c. choice_at (slice_set choices at made) c) k ∙ get_or-set_same choices at made Plain (open_inside choices at own e) in
          absurd (true≢false (sym o ∙ ap is_open is ∙ closed))
      | inr d ↦
          let is = get_or-set_other choices at column made Plain d in
          mirror.still column (ap is_open (sym is) ∙ o) ∙ sym is
    ]

    -- it is open in the reduced program
    was_open : is_open (choice_at reduced.choices at) ≡ true
    was_open = ap is_open (mirror.still at (ap is_open e) ∙ e)

    pub mirrors_made : (sides : Sides) → Mirrors program reduced kept (slice_set box at (met (sides_at box at) sides)) (slice_set choices at made) (slice_set other (kept at) (met (sides_at other (kept at)) sides)) (slice_set others (kept at) made)
    mirrors_made sides =
        mirrors_set box choices other others mirror at inside (met (sides_at box at) sides) (met (sides_at other (kept at)) sides)
        (agree_met (sides_at reduced.bounds at) (sides_at box at) (sides_at other (kept at)) sides (mirror.agree at inside))
        (λ o h. true≢false (sym was_open ∙ o))
        (slice_set choices at made) (slice_set others (kept at) made) same_made still_made

  -- a whole column that is halved
  module _ (box : List Sides) (choices : List Choice) (other : List Sides) (others : List Choice) (mirror : Mirrors program reduced kept box choices other others) (column : ℕ) (inside : column < length reduced.bounds) (at : ℤ) (a : HasWhole (record { low = (sides_at box column).low; high = Some (integer at) })) (b : HasWhole (record { low = Some (integer (at +ℤ pos 1)); high = (sides_at box column).high })) where
    free_here : is_open (choice_at reduced.choices column) ≡ false → IsHeldFast reduced column → ⊥
    free_here o h =
        not_halved (sides_at box column) h.value at
        (subst (λ s. sides_inside s (record { low = Some h.value; high = Some h.value }) ≡ true) (sym (mirror.held column inside o h).0) h.inside) a b

    pub mirrors_low : Mirrors program reduced kept (low_half box column at) choices (low_half other (kept column) at) others
    mirrors_low =
        mirrors_set box choices other others mirror column inside _ _
        (agree_low (sides_at reduced.bounds column) (sides_at box column) (sides_at other (kept column)) at b (mirror.agree column inside))
        free_here choices others mirror.same mirror.still

    pub mirrors_high : Mirrors program reduced kept (high_half box column at) choices (high_half other (kept column) at) others
    mirrors_high =
        mirrors_set box choices other others mirror column inside _ _
        (agree_high (sides_at reduced.bounds column) (sides_at box column) (sides_at other (kept column)) at a (mirror.agree column inside))
        free_here choices others mirror.same mirror.still
