-- The row of a split cut is valid, below each cost where the cut doesn't rest on the cutoff row.
use Rattle.std.proofs.Common.{◌≡◌, ℕ, ◌≤◌, ◌+ℤ◌, pos, Bool, true, false, List, length, Option, None, Result, IfOk, refl, subst, ap₂}
use Rattle.std.proofs.lemmas.Bool.{or_parts}
use Rattle.cip_rational.specs.Rational.{ℚ, negate}
use Rattle.cip_problem.specs.Program.{Sides, Program}
use Rattle.cip_problem.specs.Aggregate.{Inequality}
use Rattle.cip_problem.specs.Improving.{IsValid}
use Rattle.cip_cert.specs.declared.faults.CutFault.{CutFault}
use Rattle.cip_cert.specs.declared.splits.SplitCut.{SplitCut}
use Rattle.cip_cert.specs.declared.splits.SplitFormFault.{SplitFormFault}
use Rattle.cip_cert.specs.declared.splits.SplitFormFault.TheVariants.{Left, Right}
use Rattle.cip_cert.specs.Lent.{Lent, Fits, multiples_of}
use Rattle.cip_cert.specs.Follows.{RowFollows}
use Rattle.cip_cert.specs.Resting.{rests_on_cutoff, lent_released, valid_below, IsLentOf}
use Rattle.cip_split.specs.SplitChecks.{followed, unless, on_side, form_fault, sign_fault, number_of, side_added, joined, split_of}
use Rattle.cip_split.specs.SplitMeaning.{split_rests}
use Rattle.cip_cert.proofs.Released.{same_without, fits_released, lent_without, follows_valid}
use Rattle.cip_split.proofs.SplitRowSums.{ok_less, split_follows}

-- what a split cut comes to by what its combinations come to
split_by : List Bool → SplitCut → Result Inequality CutFault → Result Inequality CutFault → Result Inequality SplitFormFault
split_by integral cut left right =
    unless (form_fault integral cut.form.items)
    (unless (sign_fault cut.left_factor cut.right_factor)
    (followed (number_of (cut.k +ℤ pos 1))
    (λ next. followed (followed (on_side Left left) (side_added (negate cut.left_factor) cut.form.items cut.k))
    (λ row. followed (followed (on_side Right right) (side_added cut.right_factor cut.form.items (cut.k +ℤ pos 1))) (joined row)))))

pub split_same : (lent : Lent) (integral : List Bool) (box : List Sides) (columns : ℕ) (cut : SplitCut) → split_rests lent.pool cut ≡ false → split_of (lent_released lent) integral box columns cut ≡ split_of lent integral box columns cut
unfolding split_by
split_same lent integral box columns cut h =
    let parts = or_parts (rests_on_cutoff lent.pool cut.left.rows.items) (rests_on_cutoff lent.pool cut.right.rows.items) h in
    ap₂ (split_by integral cut) (same_without lent box columns (multiples_of cut.left) parts.0) (same_without lent box columns (multiples_of cut.right) parts.1)

pub split_valid : (program : Program) (held : Option ℚ) (lent : Lent) (box : List Sides) (columns : ℕ) (cut : SplitCut) → Fits (length box) lent → length box ≤ columns → length program.integral ≡ length box → IsLentOf program held box lent → IfOk (split_of lent program.integral box columns cut) (IsValid program (valid_below held (split_rests lent.pool cut)) box)
split_valid program held lent box columns cut fits room flags l = either (split_rests lent.pool cut) refl
  where
    either : (t : Bool) → split_rests lent.pool cut ≡ t → IfOk (split_of lent program.integral box columns cut) (IsValid program (valid_below held t) box)
    either true e =
        ok_less (RowFollows lent program.integral box true) (IsValid program held box) (split_of lent program.integral box columns cut) (λ row f. follows_valid program held box lent true row l f)
        (split_follows lent program.integral box columns cut fits room flags)
    either false e =
        ok_less (RowFollows (lent_released lent) program.integral box true) (IsValid program None box) (split_of lent program.integral box columns cut) (λ row f. follows_valid program None box (lent_released lent) true row (lent_without program held box lent l) f)
        (subst (λ o. IfOk o (RowFollows (lent_released lent) program.integral box true)) (split_same lent program.integral box columns cut e) (split_follows (lent_released lent) program.integral box columns cut (fits_released lent (length box) fits) room flags))
