-- Steps of a node in work, beside which plugins are asked, one after the other.
use Rattle.std.proofs.Common.{◌≡◌, [], refl, sym, subst}
use Rattle.cip_problem.specs.Program.{Program}
use Rattle.cip_problem.specs.WellFormed.{columns}
use Rattle.cip_plugin.specs.Seats.{State}
use Rattle.cip_roster.specs.KeptRankings.{Room}
use Rattle.cip_roster.specs.Turns.{IsSound}
use Rattle.cip_roster.specs.Wished.{Ran}
use Rattle.cip_tree.specs.Nodes.{TakenNode}
use Rattle.cip_calls.specs.CoreStates.{CoreState, reduced_of}
use Rattle.cip_calls.specs.Later.{IsLaterAt}
use Rattle.cip_calls.proofs.PassedOn.{later_at_itself}
use Rattle.cip_calls.specs.ProposalsJudged.{HaveRoom}
use Rattle.cip_calls.specs.declared.scratches.Scratches.{Scratches}
use Rattle.cip_calls.specs.Noted.{IsReady, HasCome}
use Rattle.cip_calls.proofs.PassedOn.{more_none, more_same}

pub ran_none : (a : State) → Ran a a
ran_none a = record { steps = []; run = refl }

-- steps of the core, beside which nobody is called
pub come_silent : {X : Type 0} (state : X → State) (room : X → Room) (x y : X) (old new : CoreState) (had has : TakenNode) (first second : Scratches) → y ≡ x → second ≡ first → IsLaterAt old had new has → new.pool ≡ old.pool → IsReady old had first → IsSound (state x) (room x) → HasCome old had (state x) new has second (state y) (room y)
come_silent state room x y old new had has first second e s l p ready sound = record {
  later = l;
  ready = record {
    at_work = l.at_work;
    room = subst (λ (q : Program). HaveRoom second (columns q)) (sym l.later.reduced) (subst (λ (t : Scratches). HaveRoom t (columns (reduced_of old))) (sym s) ready.room);
  };
  sound = subst (λ z. IsSound (state z) (room z)) (sym e) sound;
  rows = more_same old.pool new.pool p;
  run = subst (λ z. Ran (state x) (state z)) (sym e) (ran_none (state x));
}

-- calls that leave the core as it is
pub come_told : (core : CoreState) (node : TakenNode) (a b : State) (room : Room) (first second : Scratches) → second ≡ first → IsReady core node first → IsSound b room → Ran a b → HasCome core node a core node second b room
come_told core node a b room first second s ready sound run = record {
  later = later_at_itself core node ready.at_work;
  ready = record { at_work = ready.at_work; room = subst (λ (t : Scratches). HaveRoom t (columns (reduced_of core))) (sym s) ready.room };
  sound = sound;
  rows = more_none core.pool;
  run = run;
}
