use Rattle.std.proofs.lemmas.Grind.{common_steps}
use Rattle.std.proofs.Common.{◌≡◌, ◌<◌, ℕ, length, map, None, MatchResult, ap, ◌∙◌, subst, arith}
use Rattle.std.proofs.lemmas.List.{length-map}
use Rattle.cip_problem.specs.RowTerms.{AreTerms}
use Rattle.cip_problem.specs.Multipliers.{row_sides}
use Rattle.cip_bland.specs.Operations.{first_overflow}
use Rattle.cip_bland.specs.FirstState.{System, first, first_operations}
use Rattle.cip_bland.specs.ProgramState.{terms_at, system_of}
use Rattle.cip_dict.specs.Entries.{system_in, IsFirstFault}
use Rattle.cip_simplex.specs.LpEntries.{entries_in}
use Rattle.cip_simplex.proofs.Systems.{same_system, entries_within}
use Rattle.cip_simplex.proofs.begin.first_state.Goals as goal

pub first-requires-clause-within : goal.first-requires-clause-within
first-requires-clause-within c =
    let lp = c.args.lp.now in
    let e : c.as_slice.result.now ≡ entries_in lp.rows = c.as_slice.ensures.value ∙ c.in_ok-gather.ensures.entries.0 in
    let m : length c.as_slice-2.result.now ≡ length lp.rows = ap length (c.as_slice-2.ensures.value ∙ c.in_ok-gather.ensures.sides) ∙ length-map lp.rows row_sides in
    let n : length c.sides.result.now ≡ length lp.bounds = ap length c.sides.ensures in
    rw (e, m, n) (entries_within lp c.columns-columns.ensures.solvable.proper)

pub returns : goal.returns
returns c =
    let lp = c.args.lp.now in
    let e : c.as_slice.result.now ≡ entries_in lp.rows = c.as_slice.ensures.value ∙ c.in_ok-gather.ensures.entries.0 in
    let s : c.as_slice-2.result.now ≡ map row_sides lp.rows = c.as_slice-2.ensures.value ∙ c.in_ok-gather.ensures.sides in
    let valid : (r : ℕ) → r < length lp.rows → AreTerms (terms_at lp.rows r) = c.in_ok-gather.ensures.entries.1 in
    let b : c.sides.result.now ≡ lp.bounds = c.sides.ensures in
    let k : c.costs.result.now ≡ lp.costs = c.costs.ensures in
    let same : system_in c.as_slice.result.now c.as_slice-2.result.now c.sides.result.now c.costs.result.now ≡ system_of lp = rw (e, s, b, k) (same_system lp valid) in
    subst (λ (p : System). MatchResult c.first.result (λ dict. (first_overflow (first_operations p) ≡ None) × (dict ≡ first p)) (IsFirstFault p)) same c.first.ensures

pub first-requires-clause-costs_long : goal.first-requires-clause-costs_long
first-requires-clause-costs_long c = grind (arith, common_steps)

pub first-requires-clause-few : goal.first-requires-clause-few
first-requires-clause-few c = grind (arith, common_steps)
