-- Lists of moves, one move after another.
use Rattle.std.proofs.Common.{◌≡◌, ℕ, suc, ◌+◌, ◌-◌, ◌<◌, ◌≤◌, List, [], ◌∷◌, ◌++◌, refl, sym, ap, ◌∙◌, arith}
use Rattle.std.proofs.lemmas.List.{append_assoc, append-nil}
use Rattle.cip_bland.specs.Dictionary.{Dictionary, size}
use Rattle.cip_bland.specs.Exchange.{after}
use Rattle.cip_bland.specs.declared.moves.Move.{Move}
use Rattle.cip_bland.specs.Rule.{next}
use Rattle.cip_bland.specs.MoveList as list
use Rattle.cip_bland.specs.declared.steps.Step.{Step}
use Rattle.cip_bland.proofs.RunFacts.{run_end, run_overflow, run_move}
use Rattle.cip_bland.proofs.ListEnds.{size_after}
use Rattle.cip_simplex.specs.Advances.{HasMade, IsWideAt, IsEndAt, run_behind}

pub made_size : (d later : Dictionary) (move : Move) → HasMade d later move → size later ≡ size d
made_size d later move h = ap size h.state ∙ size_after d move

left_over : (limit made : ℕ) → made < limit → limit - made ≡ suc (limit - (made + 1))
left_over limit made l = omega (arith, l)

module _ (limit made : ℕ) (d : Dictionary) (moves : List Move) (all : list.Run) (l : made < limit) (so_far : run_behind moves (list.run (limit - made) d) ≡ all) where
  next_run : run_behind moves (list.run (suc (limit - (made + 1))) d) ≡ all
  next_run = ap (λ n. run_behind moves (list.run n d)) (sym (left_over limit made l)) ∙ so_far

  -- a move was made
  pub one_made : (later : Dictionary) (move : Move) (longer : List Move) → HasMade d later move → longer ≡ moves ++ move ∷ [] → run_behind longer (list.run (limit - (made + 1)) later) ≡ all
  one_made later move longer h e =
      let rest = list.run (limit - (made + 1)) (after d move) in
      ap (λ ms. run_behind ms (list.run (limit - (made + 1)) later)) e
      ∙ ap (λ s. run_behind (moves ++ move ∷ []) (list.run (limit - (made + 1)) s)) h.state
      ∙ ap (λ ms. record { moves = ms; last = rest.last; ending = rest.ending }) (append_assoc moves (move ∷ []) rest.moves)
      ∙ sym (ap (run_behind moves) (run_move (limit - (made + 1)) d move h.is_next h.in_range))
      ∙ next_run

  -- a move is out of range
  pub all_wide : (later : Dictionary) (wide : Move) → IsWideAt d later wide → all ≡ record { moves = moves; last = later; ending = list.Overflows wide }
  all_wide later wide h =
      sym next_run ∙ ap (run_behind moves) (run_overflow (limit - (made + 1)) d h.move wide h.is_next h.out_of_range)
      ∙ ap (λ ms. record { moves = ms; last = d; ending = list.Overflows wide }) (append-nil moves)
      ∙ ap (λ s. record { moves = moves; last = s; ending = list.Overflows wide }) (sym h.state)

  -- the state is an end
  pub all_ended : (later : Dictionary) (step : Step) → IsEndAt d later step → all ≡ record { moves = moves; last = later; ending = list.Ends step }
  all_ended later step h =
      sym next_run ∙ ap (run_behind moves) (run_end (suc (limit - (made + 1))) d (λ move e. h.is_end move (sym h.is_next ∙ e)))
      ∙ ap (λ ms. record { moves = ms; last = d; ending = list.Ends (next d) }) (append-nil moves)
      ∙ ap (λ s. record { moves = moves; last = d; ending = list.Ends s }) h.is_next
      ∙ ap (λ s. record { moves = moves; last = s; ending = list.Ends step }) (sym h.state)

no_limit : (d : Dictionary) → list.run 0 d ≡ list.run_here d (list.ending_at (next d))
unfolding list.run
no_limit d = refl

-- the limit is reached
pub all_stopped : (limit made : ℕ) (d : Dictionary) (moves : List Move) (all : list.Run) (ending : list.Ending) → limit ≤ made → run_behind moves (list.run (limit - made) d) ≡ all → ending ≡ list.ending_at (next d) → all ≡ record { moves = moves; last = d; ending = ending }
all_stopped limit made d moves all ending l so_far e =
    let none : limit - made ≡ 0 = omega (arith, l) in
    sym so_far ∙ ap (λ n. run_behind moves (list.run n d)) none ∙ ap (run_behind moves) (no_limit d)
    ∙ ap (λ ms. record { moves = ms; last = d; ending = list.ending_at (next d) }) (append-nil moves)
    ∙ ap (λ s. record { moves = moves; last = d; ending = s }) (sym e)
