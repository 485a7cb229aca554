use Rattle.std.proofs.lemmas.Grind.{common_steps}
use Rattle.std.specs.Prelude.{IfSome}
use Rattle.std.proofs.Common.{ℕ, ◌<◌, subst, sym, arith}
use Rattle.cip_mps.proofs.draft.Draft.any_wide_range.Goals as goal

pub is_wide_with_range-requires : goal.is_wide_with_range-requires
is_wide_with_range-requires c =
    subst (λ (n : ℕ). IfSome c.args.rows.first (λ number. number < n)) (sym c.args.self.now.rows_named) c.requires.first_within

pub is_wide_with_range-second-requires : goal.is_wide_with_range-second-requires
is_wide_with_range-second-requires c = grind (arith, common_steps)
