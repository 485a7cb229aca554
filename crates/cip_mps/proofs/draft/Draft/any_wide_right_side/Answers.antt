use Rattle.std.proofs.lemmas.Grind.{common_steps}
use Rattle.std.specs.Prelude.{IfSome}
use Rattle.std.proofs.Common.{ℕ, ◌<◌, subst, sym, arith}
use Rattle.cip_mps.proofs.draft.Draft.any_wide_right_side.Goals as goal

pub is_wide_with_right_side-requires : goal.is_wide_with_right_side-requires
is_wide_with_right_side-requires c =
    subst (λ (n : ℕ). IfSome c.args.rows.first (λ number. number < n)) (sym c.args.self.now.rows_named) c.requires.first_within

pub is_wide_with_right_side-second-requires : goal.is_wide_with_right_side-second-requires
is_wide_with_right_side-second-requires c = grind (arith, common_steps)
