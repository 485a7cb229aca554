-- A reduction pair has the old numbers of its columns as a list.
use Rattle.std.proofs.Common.{◌≡◌, ◌⊎◌, ℕ, zero, suc, ◌<◌, true, List, [], ◌∷◌, length, Some, slice_get, sym, ap, ◌∙◌, subst, arith}
use Rattle.std.specs.Prelude.{slice_index_or}
use Rattle.std.proofs.lemmas.Option.{none-some, same_Some, slice_get-get_or}
use Rattle.cip_rational.specs.Rational.{ℚ}
use Rattle.cip_problem.specs.Program.{Program}
use Rattle.cip_problem.specs.WellFormed.{IsWellFormed}
use Rattle.cip_problem.specs.Activity.{value_at}
use Rattle.cip_problem.specs.Box.{sides_at, sides_inside}
use Rattle.cip_problem.specs.Choices.{choice_at}
use Rattle.cip_search.specs.Forms.{kept_at}
use Rattle.cip_search.specs.Pairs.{IsHeldFast, IsPair}
use Rattle.cip_search.proofs.Spreading.{numbers_listed}
use Rattle.cip_solve.specs.Presolved.{Presolved}
use Rattle.cip_solve.specs.PresolvedPrograms.{IsPresolved}
use Rattle.cip_solve.specs.StepsBack.{point_back, old_number}
use Rattle.cip_solve.specs.CoreStates.{CoreState, reduced_of}
use Rattle.cip_solve.specs.Logs.{renamed}
use Rattle.cip_solve.specs.Reducing.{IsOfReduced}
use Rattle.cip_solve.specs.Searching.{CanBeSeen}

-- a pair by numbers is one by others that are the same at each column of the reduced program
other_pair : (program reduced : Program) (post : List ℚ → List ℚ) (kept other : ℕ → ℕ) → ((column : ℕ) → column < length reduced.bounds → kept column ≡ other column) → IsPair program reduced post kept → IsPair program reduced post other
other_pair program reduced post kept other e p = record {
  long = p.long;
  relaxed = p.relaxed;
  cost = p.cost;
  none_lost = λ point f.
      let n = p.none_lost point f in
      record {
        other = n.other;
        feasible = n.feasible;
        no_dearer = n.no_dearer;
        near = λ column l. subst (λ k. (value_at n.other column ≡ value_at point k) ⊎ IsHeldFast reduced column) (e column l) (n.near column l);
        semi = λ column l o. subst (λ k. value_at n.other column ≡ value_at point k) (e column l) (n.semi column l o);
      };
  columns = λ column l.
      let k = p.columns column l in
      record {
        within = subst (λ t. t < length program.bounds) (e column l) k.within;
        whole = subst (λ t. slice_get program.integral t ≡ slice_get reduced.integral column) (e column l) k.whole;
        choice = subst (λ t. choice_at program.choices t ≡ choice_at reduced.choices column) (e column l) k.choice;
        inside = subst (λ t. sides_inside (sides_at reduced.bounds column) (sides_at program.bounds t) ≡ true) (e column l) k.inside;
        value = λ point h. subst (λ t. value_at (post point) t ≡ value_at point column) (e column l) (k.value point h);
      };
  forms = p.forms;
  assigned = p.assigned;
  fewer = p.fewer;
  semi = p.semi;
}

read_at : (xs : List ℕ) (column k : ℕ) → slice_get xs column ≡ Some k → k ≡ renamed xs column
read_at [] column k g = absurd (none-some k g)
read_at (x ∷ xs) zero k g = sym (same_Some x k g)
read_at (x ∷ xs) (suc column) k g = read_or xs column k (suc column) g
  where
    read_or : (xs : List ℕ) (column k d : ℕ) → slice_get xs column ≡ Some k → k ≡ slice_index_or xs column d
    read_or [] column k d g = absurd (none-some k g)
    read_or (x ∷ xs) zero k d g = sym (same_Some x k g)
    read_or (x ∷ xs) (suc column) k d g = read_or xs column k d g

-- the list of old numbers has those of the pair
old_numbers : (program : Program) (presolved : Presolved) → IsPresolved program presolved → IsWellFormed presolved.reduced → (column : ℕ) → column < length presolved.reduced.bounds → old_number presolved.steps column ≡ renamed presolved.kept.items column
old_numbers program presolved b formed column l =
    let forms = presolved.steps.forms in
    let there = slice_get-get_or presolved.reduced.integral column true (omega (arith, l, formed.bounds, formed.integral)) in
    let listed = numbers_listed forms presolved.steps.whole column _ (ap (λ t. slice_get t column) b.numbers.left ∙ there) in
    read_at presolved.kept.items column (kept_at forms column) (ap (λ t. slice_get t column) b.numbers.kept ∙ listed)

-- so the log of a core can be seen by that list
pub of_reduced_seen : (core : CoreState) (presolved : Presolved) → IsOfReduced core presolved → CanBeSeen core.program (reduced_of core) (renamed presolved.kept.items)
of_reduced_seen core presolved o =
    let left : IsWellFormed presolved.reduced = subst IsWellFormed o.reduced_is o.left in
    record {
      post = point_back presolved.steps;
      pair = subst (λ r. IsPair core.program r (point_back presolved.steps) (renamed presolved.kept.items)) (sym o.reduced_is)
          (other_pair core.program presolved.reduced (point_back presolved.steps) (old_number presolved.steps) (renamed presolved.kept.items) (old_numbers core.program presolved o.back left) o.back.pair);
      formed = o.formed;
      left = o.left;
    }
