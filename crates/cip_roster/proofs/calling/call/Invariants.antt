use Rattle.std.proofs.Common.{◌≡◌, ◌+◌, ◌*◌, ◌≤◌, take, All, vec_len, vec_capacity}
use Rattle.cip_plugin.specs.Asking.{ask_of}
use Rattle.cip_plugin.specs.Calling.{ids_of}
use Rattle.cip_roster.specs.Turns.{CanBeAsked}
use Rattle.cip_roster.proofs.Turning.{SoFar}
use Rattle.cip_roster.proofs.calling.call.Given as goal

abbrev pub invariant-loop-key : goal.invariant-loop-key
invariant-loop-key g l = record {
  so_far : SoFar (ask_of l.question) (ids_of (take l.key-index l.keys)) (g.R.Seated.state l.initial.roster)
      (g.R.Seated.state l.roster) l.initial.given.items l.given.items;
  ready : All (λ key. CanBeAsked (g.R.Seated.state l.roster) (ask_of l.question) key.id) l.keys;
  lines : (g.R.Seated.room l.initial.roster).lines ≤ (g.R.Seated.room l.roster).lines + 2 * l.key-index;
  length : vec_len l.given ≤ vec_len l.initial.given + l.key-index;
  capacity : vec_capacity l.given ≡ vec_capacity l.initial.given;
  rankings : (g.R.Seated.room l.roster).rankings ≡ (g.R.Seated.room l.initial.roster).rankings;
}
