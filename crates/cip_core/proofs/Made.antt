-- A core that was just made.
use Rattle.std.proofs.Common.{◌≡◌, ◌∙◌, ℕ, Bool, false, List, [], length, None, Some, MatchBool, refl, sym, ap, subst, arith}
use Rattle.std.specs.Prelude.{replicate}
use Rattle.std.proofs.lemmas.List.{length-replicate}
use Rattle.cip_rational.specs.Rational.{ℚ, zeroℚ}
use Rattle.cip_problem.specs.Program.{Row, Program}
use Rattle.cip_problem.specs.WellFormed.{columns}
use Rattle.cip_problem.specs.Cuts.{HasWholeCosts, terms_from}
use Rattle.cip_incumbent.specs.HeldPoint.{Holding, nothing_held}
use Rattle.cip_rows.specs.RowPools.{Pool}
use Rattle.cip_search.specs.SearchState.{HasGivenBoxes}
use Rattle.cip_tree.specs.Nodes.{Nodes}
use Rattle.cip_tree.specs.Moves.{IsNew}
use Rattle.cip_presolve.specs.StepsBack.{way_back}
use Rattle.cip_presolve.specs.declared.left_programs.Presolved.{Presolved}
use Rattle.cip_presolve.specs.PresolvedPrograms.{IsPresolved}
use Rattle.cip_core.specs.Beginning.{IsRootBound, HasNotBegun}
use Rattle.cip_core.specs.Entering.{own_region}
use Rattle.cip_core.specs.KeptNodes.{cost_held, state_of, IsKept}
use Rattle.cip_core.specs.CoreStates.{CoreState, IsSound, IsFitted}
use Rattle.cip_core.proofs.LedBack.{presolved_reduces}

abbrev pub no_rows : ℕ → Pool
no_rows width = record { columns = width; rows = []; next = 0 }

-- the cutoff row of these costs, where nothing is held
abbrev pub plain_row : List ℚ → Row
plain_row costs = record { terms = terms_from 0 costs; low = None; high = None }

module _ (program : Program) (presolved : Presolved) (tree : Nodes) where
  abbrev pub made : Pool → Holding → CoreState
  made pool holding =
      record {
        program = program;
        reduced = presolved.reduced;
        steps = presolved.steps;
        pool = pool;
        tree = tree;
        incumbent = holding;
        touched = false;
      }

  -- with an empty pool and no point held
  bare : CoreState
  bare = made (no_rows (columns presolved.reduced)) (nothing_held (columns program))

  bare_sound : IsPresolved program presolved → IsSound bare
  unfolding bare
  bare_sound back =
      record {
        is_held = record { feasible = tt; room = refl };
        valid = λ k d w. absurd (omega (arith, w));
        same = refl;
        bare = λ _. refl;
        back = presolved_reduces program presolved back;
      }

  pub made_sound : (pool : Pool) (holding : Holding) → pool ≡ no_rows (columns presolved.reduced) → holding ≡ nothing_held (columns program) → IsPresolved program presolved → IsSound (made pool holding)
  unfolding bare
  made_sound pool holding e f back =
      subst (λ p. IsSound (made p holding)) (sym e)
      (subst (λ h. IsSound (made (no_rows (columns presolved.reduced)) h)) (sym f) (bare_sound back))

  bare_begun : IsRootBound program tree.root.bound → IsNew tree (own_region presolved.reduced) presolved.reduced.integral tree.root.bound → IsKept program presolved.reduced (way_back presolved.steps) tree None [] → HasGivenBoxes presolved.reduced tree.root.bound (state_of tree None []) → HasNotBegun program presolved.reduced presolved.steps bare
  unfolding bare
  bare_begun root new kept boxes =
      record {
        program_is = refl;
        reduced_is = refl;
        steps_are = refl;
        root = root;
        new = new;
        kept = record { kept = kept; matter = λ node c. refl; boxes = λ _. boxes };
        pool = refl;
        nothing = refl;
        untouched = refl;
      }

  pub made_begun : (pool : Pool) (holding : Holding) → pool ≡ no_rows (columns presolved.reduced) → holding ≡ nothing_held (columns program) → IsRootBound program tree.root.bound → IsNew tree (own_region presolved.reduced) presolved.reduced.integral tree.root.bound → IsKept program presolved.reduced (way_back presolved.steps) tree None [] → HasGivenBoxes presolved.reduced tree.root.bound (state_of tree None []) → HasNotBegun program presolved.reduced presolved.steps (made pool holding)
  unfolding bare
  made_begun pool holding e f root new kept boxes =
      subst (λ p. HasNotBegun program presolved.reduced presolved.steps (made p holding)) (sym e)
      (subst (λ h. HasNotBegun program presolved.reduced presolved.steps (made (no_rows (columns presolved.reduced)) h)) (sym f) (bare_begun root new kept boxes))

-- what is kept beside it fits
pub made_fitted : (program reduced : Program) (holding : Holding) (row : Row) (whole : Bool) (entries : List ℚ) → holding ≡ nothing_held (columns program) → row ≡ plain_row reduced.costs → MatchBool whole (HasWholeCosts reduced) (¬ HasWholeCosts reduced) → entries ≡ replicate (columns reduced) zeroℚ → IsFitted reduced (cost_held holding) (Some row) whole (length entries)
made_fitted program reduced holding row whole entries h r w e =
    subst (λ t. IsFitted reduced (cost_held t) (Some row) whole (length entries)) (sym h)
    (record { cutoff_is = ap (λ t. Some t) r; whole = w; wide = ap length e ∙ length-replicate (columns reduced) zeroℚ })
