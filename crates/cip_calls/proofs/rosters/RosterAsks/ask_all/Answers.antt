use Rattle.std.proofs.lemmas.Grind.{common_steps}
use Rattle.std.proofs.Common.{ℕ, [], Vec, Global, arith}
use Rattle.std.specs.declared.alloc.AllocError.{AllocError}
use Rattle.cip_plugin.specs.declared.asking.Given.{Given}
use Rattle.cip_plugin.specs.Calls.{Separate, Propagate, Search}
use Rattle.cip_plugin.specs.declared.kinds.Kind.TheVariants as kinds
use Rattle.cip_roster.proofs.Giving.{kind_seated, both_seated}
use Rattle.cip_roster.proofs.Delivery.{ran_same}
use Rattle.cip_calls.proofs.Calling.{both_asked, one_asked, separators, propagators, heuristics, kind_run, both_run, either}
use Rattle.cip_calls.proofs.Serving.{then_ok}
use Rattle.cip_calls.proofs.rosters.RosterAsks.ask_all.Goals as goal

pub returns-in-Cuts-clause-asked : goal.returns-in-Cuts-clause-asked
returns-in-Cuts-clause-asked g c =
    rw c.in-Cuts.is (then_ok {A = Vec (ℕ × Given) Global} {E = AllocError} c.call_separators.result _ _ c.call_separators.ensures.called (λ (gave : Vec (ℕ × Given) Global) h. both_asked kinds.Separator Separate _ _ gave.items _ separators c.requires.sound h))

pub returns-in-Cuts-clause-seated : goal.returns-in-Cuts-clause-seated
returns-in-Cuts-clause-seated g c = then_ok {A = Vec (ℕ × Given) Global} {E = AllocError} c.call_separators.result _ _ c.call_separators.ensures.called (λ (gave : Vec (ℕ × Given) Global) h. both_seated kinds.Separator Separate _ _ gave.items h)

pub returns-in-Cuts-clause-run : goal.returns-in-Cuts-clause-run
returns-in-Cuts-clause-run g c = either {A = Vec (ℕ × Given) Global} {E = AllocError} c.call_separators.result _ _ _ c.call_separators.ensures.called c.call_separators.ensures.err (λ (gave : Vec (ℕ × Given) Global) h. both_run kinds.Separator Separate _ _ gave.items h) (λ ran. ran)

pub returns-in-Sides-clause-asked : goal.returns-in-Sides-clause-asked
returns-in-Sides-clause-asked g c =
    rw c.in-Sides.is (then_ok {A = Vec (ℕ × Given) Global} {E = AllocError} c.call_propagators.result _ _ c.call_propagators.ensures.called (λ (gave : Vec (ℕ × Given) Global) h. both_asked kinds.Propagator Propagate _ _ gave.items _ propagators c.requires.sound h))

pub returns-in-Sides-clause-seated : goal.returns-in-Sides-clause-seated
returns-in-Sides-clause-seated g c = then_ok {A = Vec (ℕ × Given) Global} {E = AllocError} c.call_propagators.result _ _ c.call_propagators.ensures.called (λ (gave : Vec (ℕ × Given) Global) h. both_seated kinds.Propagator Propagate _ _ gave.items h)

pub returns-in-Sides-clause-run : goal.returns-in-Sides-clause-run
returns-in-Sides-clause-run g c = either {A = Vec (ℕ × Given) Global} {E = AllocError} c.call_propagators.result _ _ _ c.call_propagators.ensures.called c.call_propagators.ensures.err (λ (gave : Vec (ℕ × Given) Global) h. both_run kinds.Propagator Propagate _ _ gave.items h) (λ ran. ran)

pub returns-in-Points-clause-asked : goal.returns-in-Points-clause-asked
returns-in-Points-clause-asked g c =
    rw c.in-Points.is (then_ok {A = Vec (ℕ × Given) Global} {E = AllocError} c.call_heuristics.result _ _ c.call_heuristics.ensures.called (λ (gave : Vec (ℕ × Given) Global) h. one_asked kinds.Heuristic Search _ _ gave.items heuristics h))

pub returns-in-Points-clause-seated : goal.returns-in-Points-clause-seated
returns-in-Points-clause-seated g c = then_ok {A = Vec (ℕ × Given) Global} {E = AllocError} c.call_heuristics.result _ _ c.call_heuristics.ensures.called (λ (gave : Vec (ℕ × Given) Global) h. kind_seated kinds.Heuristic Search _ _ gave.items h)

pub returns-in-Points-clause-run : goal.returns-in-Points-clause-run
returns-in-Points-clause-run g c = either {A = Vec (ℕ × Given) Global} {E = AllocError} c.call_heuristics.result _ _ _ c.call_heuristics.ensures.called c.call_heuristics.ensures.err (λ (gave : Vec (ℕ × Given) Global) h. kind_run kinds.Heuristic Search _ _ [] gave.items h) (λ same. ran_same _ _ same)

pub returns-in-Points-clause-sound : goal.returns-in-Points-clause-sound
returns-in-Points-clause-sound g c = c.call_heuristics.ensures.sound

pub returns-in-Sides-clause-sound : goal.returns-in-Sides-clause-sound
returns-in-Sides-clause-sound g c = c.call_propagators.ensures.sound

pub returns-in-Cuts-clause-sound : goal.returns-in-Cuts-clause-sound
returns-in-Cuts-clause-sound g c = c.call_separators.ensures.sound

pub call_heuristics-requires : goal.call_heuristics-requires
call_heuristics-requires g c = grind (arith, common_steps)

pub call_propagators-requires : goal.call_propagators-requires
call_propagators-requires g c = grind (arith, common_steps)

pub call_separators-requires : goal.call_separators-requires
call_separators-requires g c = grind (arith, common_steps)
