-- What a search from before a node was taken comes to, once its log has the program's columns.
use Rattle.std.proofs.Common.{◌≡◌, ℕ, Bool, true, false, List, [], ◌∷◌, Option, refl, sym, ap, ◌∙◌, subst, arith}
use Rattle.std.proofs.lemmas.List.Sums.{sum_by-cons}
use Rattle.cip_rational.specs.Rational.{ℚ}
use Rattle.cip_problem.specs.Program.{Program}
use Rattle.cip_problem.specs.WellFormed.{columns}
use Rattle.cip_problem.specs.Log.{End, Split, Closed, Parked, Entry, Node}
use Rattle.cip_search.specs.SearchEnds as ends
use Rattle.cip_search.specs.SeenLogs.{end_seen, entry_seen, log_seen}
use Rattle.cip_solve.specs.Presolved.{Presolved}
use Rattle.cip_solve.specs.Mark.{Mark}
use Rattle.cip_solve.specs.CoreStates.{CoreState, reduced_of, way_of}
use Rattle.cip_solve.specs.Answered.{IsAnswered}
use Rattle.cip_solve.specs.FirstStops.{StopsFirst}
use Rattle.cip_solve.specs.Logs.{renamed}
use Rattle.cip_solve.specs.PresolvedPrograms.{IsUnchanged}
use Rattle.cip_solve.specs.Reducing.{IsOfReduced}
use Rattle.cip_solve.specs.Searching.{IsAtRoot, IsSameSearch, IsWritten, WasShort, CanBeSeen}
use Rattle.cip_solve.specs.Solved.{AreMet, IsSolvedBy}
use Rattle.cip_solve.specs.SplitsServed.{split_count, splits_in}
use Rattle.cip_solve.proofs.KeptPairs.{of_reduced_seen}
use Rattle.cip_solve.proofs.SameColumns.{log_unchanged}
use Rattle.cip_solve.proofs.SeenLaws.{first_seen}

-- ---- splits

split_seen : (kept : ℕ → ℕ) (end : End) → split_count (end_seen kept end) ≡ split_count end
split_seen kept (Split column at low high) = refl
split_seen kept Closed = refl
split_seen kept Parked = refl

-- the log has as many splits
pub splits_seen : (kept : ℕ → ℕ) (log : List Entry) → splits_in (log_seen kept log) ≡ splits_in log
splits_seen kept [] = refl
splits_seen kept (entry ∷ log) =
    let f : Entry → ℕ = λ entry. split_count entry.end in
    let rest = splits_seen kept log in
    omega (arith, rest, split_seen kept entry.end, sum_by-cons f entry log, sum_by-cons f (entry_seen kept entry) (log_seen kept log))

-- ---- the search from its beginning to its end

module _ (old new : CoreState) (presolved : Presolved) (root : IsAtRoot old) (of_them : IsOfReduced old presolved) (same : IsSameSearch old new) where
  abbrev kept : ℕ → ℕ
  kept = renamed presolved.kept.items

  seen_at_first : CanBeSeen old.program (reduced_of old) kept
  seen_at_first = of_reduced_seen old presolved of_them

  seen_at_last : CanBeSeen new.program (reduced_of new) kept
  seen_at_last =
      subst (λ (p : Program). CanBeSeen p (reduced_of new) kept) (sym same.program)
      (subst (λ (r : Program). CanBeSeen old.program r kept) (sym same.reduced) seen_at_first)

  -- where nobody was asked and nothing presolved, marks say what was met
  met_at_last : (asks : Bool) (log : List Entry) (marks : List (ℕ × Mark)) → (asks ≡ false → new.touched ≡ old.touched) → IsWritten new marks → log ≡ new.tree.log → asks ≡ false → IsUnchanged old.program presolved → AreMet old.program old.tree.root.bound (log_seen kept log) marks
  met_at_last asks log marks touched written l unasked p =
      let met = written.met (touched unasked ∙ root.plain) in
      let reduced : reduced_of new ≡ old.program = same.reduced ∙ (of_them.reduced_is ∙ p.reduced) in
      let entries : new.tree.log ≡ log_seen kept log = sym l ∙ sym (log_unchanged presolved.kept.items (columns old.program) log p.kept) in
      subst (λ (r : Program). AreMet r old.tree.root.bound (log_seen kept log) marks) reduced
      (subst (λ (n : Node). AreMet (reduced_of new) n.bound (log_seen kept log) marks) same.root
      (subst (λ t. AreMet (reduced_of new) new.tree.root.bound t marks) entries met))

  pub solved_by : (asks presolve alone : Bool) (nodes : ℕ) (asked : Option ℚ) (log taken : List Entry) (marks last : List (ℕ × Mark)) (answer : ends.Answer) → (asks ≡ false → new.touched ≡ old.touched) → IsWritten new marks → log ≡ new.tree.log → ((kept : ℕ → ℕ) → CanBeSeen new.program (reduced_of new) kept → IsAnswered new.program new.tree.root.bound nodes asked (log_seen kept log) marks answer) → taken ≡ log_seen kept log → last ≡ marks → (presolve ≡ false → IsUnchanged old.program presolved) → (alone ≡ true → asks ≡ false) → IsSolvedBy old.program nodes asked presolve alone taken last answer
  solved_by asks presolve alone nodes asked log taken marks last answer touched written l right t m p q =
      let told : IsAnswered old.program old.tree.root.bound nodes asked (log_seen kept log) marks answer =
      subst (λ (p : Program). IsAnswered p old.tree.root.bound nodes asked (log_seen kept log) marks answer) same.program
      (subst (λ (n : Node). IsAnswered new.program n.bound nodes asked (log_seen kept log) marks answer) same.root (right kept seen_at_last)) in
      subst (λ entries. IsSolvedBy old.program nodes asked presolve alone entries last answer) (sym t)
      (subst (λ of_marks. IsSolvedBy old.program nodes asked presolve alone (log_seen kept log) of_marks answer) (sym m) (record {
        start = old.tree.root.bound;
        root = root.root;
        right = told.right;
        shown = told.shown;
        taken = λ e. told.taken;
        met = λ e a. met_at_last asks log marks touched written l (q a) (p e);
      }))

  pub stops_first : (asked : Option ℚ) (log taken : List Entry) → log ≡ new.tree.log → taken ≡ log_seen kept log → WasShort old.program (reduced_of old) (way_of old) old.tree.root.bound asked new.tree.log → StopsFirst old.program asked taken
  stops_first asked log taken l t s =
      subst (StopsFirst old.program asked) (sym (t ∙ ap (log_seen kept) l)) (record {
        start = old.tree.root.bound;
        root = root.root;
        first = first_seen old.program (reduced_of old) (way_of old) kept old.tree.root.bound asked seen_at_first new.tree.log s;
      })
