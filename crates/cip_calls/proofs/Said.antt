-- What a handler's answer leaves.
use Rattle.std.proofs.Common.{◌≡◌, ℕ, List, length, Option, None, Some, cond, Result, Ok, Err, refl, sym, ap, ◌∙◌, subst}
use Rattle.std.specs.Prelude.{is_some, OnOk}
use Rattle.cip_calls.specs.declared.judged.Judged.{Judged}
use Rattle.cip_calls.specs.KeptRankings.{Room}
use Rattle.cip_calls.specs.Turns.{IsSound}
use Rattle.cip_calls.specs.Wished.{Ran}
use Rattle.cip_plugin.specs.Seats.{State}
use Rattle.cip_tree.specs.Nodes.{TakenNode}
use Rattle.cip_calls.specs.CoreStates.{CoreState}
use Rattle.cip_core.proofs.Relations.{later_at_itself}
use Rattle.cip_calls.specs.declared.scratches.Scratches.{Scratches}
use Rattle.cip_calls.specs.Noted.{IsReady, HasNoted, HasJudged, HasGone, HasCome}
use Rattle.cip_calls.proofs.Noting.{judged_none, gone_by, run_further, come_further, come_gone}
use Rattle.cip_calls.proofs.Pools.{more_none, node_none, node_further}
use Rattle.cip_calls.specs.Enforcing.{IsLeftAlone, IsVerdict}
use Rattle.cip_calls.specs.declared.enforcing.Verdict.{Verdict}
use Rattle.cip_calls.specs.declared.enforcing.Verdict.TheVariants as ends

-- notes alone
pub gone_noted : (core : CoreState) (node : TakenNode) (a b : State) (room : Room) (scratches : Scratches) → IsReady core node scratches → IsSound b room → HasNoted a b
    → HasGone core node a core node scratches b room
gone_noted core node a b room scratches ready sound noted =
    gone_by core core node node a b room scratches (later_at_itself core node ready.at_work) ready.room sound (more_none core.pool) noted

-- other scratches of the same size
pub ready_again : (core : CoreState) (node : TakenNode) (old new : Scratches) → IsReady core node old → length new.first.row.entries ≡ length old.first.row.entries
    → new.second ≡ old.second → IsReady core node new
ready_again core node old new ready first second = record {
  at_work = ready.at_work;
  room = record { first = first ∙ ready.room.first; second = ap (λ s. length s.row.entries) second ∙ ready.room.second };
}

pub ready_same : (core : CoreState) (node : TakenNode) (old new : Scratches) → new ≡ old → IsReady core node old → IsReady core node new
ready_same core node old new e ready = subst (IsReady core node) (sym e) ready

pub alone_none : (core : CoreState) (node : TakenNode) → IsLeftAlone core core node node
alone_none core node = record { same = node_none core node; pool = refl }

pub alone_further : (old mid new : CoreState) (had node has : TakenNode) → IsLeftAlone old mid had node → IsLeftAlone mid new node has → IsLeftAlone old new had has
alone_further old mid new had node has first second = record {
  same = node_further old mid new had node has first.same second.same;
  pool = second.pool ∙ first.pool;
}

-- calls alone
pub come_more : (old mid : CoreState) (had node : TakenNode) (a b c : State) (some room : Room) (scratches : Scratches) → HasCome old had a mid node scratches b some
    → IsSound c room → Ran b c → HasCome old had a mid node scratches c room
come_more old mid had node a b c some room scratches come sound run = record {
  later = come.later;
  ready = come.ready;
  sound = sound;
  rows = come.rows;
  run = run_further a b c come.run run;
}

-- calls, and then steps that call nobody
pub come_went : (old mid new : CoreState) (had node has : TakenNode) (a b c d : State) (some room : Room) (first scratches : Scratches) → HasCome old had a mid node first b some
    → Ran b c → HasGone mid node c new has scratches d room → HasCome old had a new has scratches d room
come_went old mid new had node has a b c d some room first scratches come run gone =
    come_further old mid new had node has a b d some room first scratches come (come_gone mid new node has b c d room scratches run gone)

-- what was come to after a node was left alone
pub verdict_further : (old mid new : CoreState) (had node has : TakenNode) (verdict : Verdict) → IsLeftAlone old mid had node → IsVerdict mid new node has verdict
    → IsVerdict old new had has verdict
verdict_further old mid new had node has ends.Quiet first v = alone_further old mid new had node has first v
verdict_further old mid new had node has ends.Emptied first v = v
verdict_further old mid new had node has ends.Changed first v = tt
verdict_further old mid new had node has (ends.Place split) first v = (alone_further old mid new had node has first v.0, v.1)

-- ---- how many were given

no_given : {A : Type 0} (n : ℕ) (o : Option A) → n ≡ cond (is_some o) 1 0 → o ≡ None → n ≡ 0
no_given n None e f = e
no_given n (Some x) e f = cc

one_given : {A : Type 0} (n : ℕ) (o : Option A) (x : A) → n ≡ cond (is_some o) 1 0 → o ≡ Some x → n ≡ 1
one_given n None x e f = cc
one_given n (Some y) x e f = e

pub none_judged : {A : Type 0} (n id : ℕ) (o : Option A) (a : List (ℕ × Judged)) → n ≡ cond (is_some o) 1 0 → o ≡ None → HasJudged id n a a
none_judged n id o a e f = subst (λ (k : ℕ). HasJudged id k a a) (sym (no_given n o e f)) (judged_none id a)

pub one_judged : {A : Type 0} (n id : ℕ) (o : Option A) (x : A) (a b : List (ℕ × Judged)) → n ≡ cond (is_some o) 1 0 → o ≡ Some x → HasJudged id 1 a b → HasJudged id n a b
one_judged n id o x a b e f h = subst (λ (k : ℕ). HasJudged id k a b) (sym (one_given n o x e f)) h

pub one_judged_on : {A B E : Type 0} (r : Result B E) (n id : ℕ) (o : Option A) (x : A) (a b : List (ℕ × Judged)) → n ≡ cond (is_some o) 1 0 → o ≡ Some x → OnOk r (HasJudged id 1 a b)
    → OnOk r (HasJudged id n a b)
one_judged_on (Ok y) n id o x a b e f h = one_judged n id o x a b e f h
one_judged_on (Err y) n id o x a b e f h = tt
