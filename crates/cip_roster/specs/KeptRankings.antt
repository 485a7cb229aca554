-- The rankings that a roster keeps between calls.
use Rattle.std.specs.Prelude.{ℕ, List, Option, None, Some, Vec, IfSome}
use Rattle.std.specs.Global.{Global}
use Rattle.std.specs.List.Sorted.{IsPermutation, IsSorted}
use Rattle.cip_plugin.specs.declared.kinds.Kind.{Kind}
use Rattle.cip_plugin.specs.declared.kinds.Kind.TheVariants as kinds
use Rattle.cip_plugin.specs.declared.keys.Key.{Key}
use Rattle.cip_plugin.specs.Calling.{is_ready, keys_from}
use Rattle.cip_plugin.specs.Ranks.{rank_order}
use Rattle.cip_plugin.specs.Seats.{Seat}
use Rattle.cip_roster.specs.declared.rankings.Rankings.{Rankings}

-- the live and enabled plugins of a kind, each once, by falling priority and rising number
pub record IsRanking (kind : Kind) (seats : List Seat) (keys : List Key) : Type 0 where
  pub permutation : IsPermutation (keys_from (is_ready kind) 0 seats) keys
  pub sorted : IsSorted rank_order keys

-- no ranking is kept
abbrev pub no_rankings : Rankings
no_rankings = record {
  separators = None;
  propagators = None;
  pricers = None;
  heuristics = None;
  branchers = None;
  enforcers = None;
  listeners = None;
}

-- the ranking of a kind, if it is kept
abbrev pub ranking_of : Kind → Rankings → Option (Vec Key Global)
ranking_of kinds.Separator kept = kept.separators
ranking_of kinds.Propagator kept = kept.propagators
ranking_of kinds.Pricer kept = kept.pricers
ranking_of kinds.Heuristic kept = kept.heuristics
ranking_of kinds.BranchRule kept = kept.branchers
ranking_of kinds.ConsHandler kept = kept.enforcers
ranking_of kinds.EventHandler kept = kept.listeners

-- that of a kind is kept no more
abbrev pub without_ranking : Kind → Rankings → Rankings
without_ranking kinds.Separator kept = record kept { separators = None }
without_ranking kinds.Propagator kept = record kept { propagators = None }
without_ranking kinds.Pricer kept = record kept { pricers = None }
without_ranking kinds.Heuristic kept = record kept { heuristics = None }
without_ranking kinds.BranchRule kept = record kept { branchers = None }
without_ranking kinds.ConsHandler kept = record kept { enforcers = None }
without_ranking kinds.EventHandler kept = record kept { listeners = None }

-- that of a kind is kept
abbrev pub with_ranking : Kind → Vec Key Global → Rankings → Rankings
with_ranking kinds.Separator keys kept = record kept { separators = Some keys }
with_ranking kinds.Propagator keys kept = record kept { propagators = Some keys }
with_ranking kinds.Pricer keys kept = record kept { pricers = Some keys }
with_ranking kinds.Heuristic keys kept = record kept { heuristics = Some keys }
with_ranking kinds.BranchRule keys kept = record kept { branchers = Some keys }
with_ranking kinds.ConsHandler keys kept = record kept { enforcers = Some keys }
with_ranking kinds.EventHandler keys kept = record kept { listeners = Some keys }

-- each ranking that is kept is that of the seats as they are
pub record AreRanked (seats : List Seat) (kept : Rankings) : Type 0 where
  pub separators : IfSome kept.separators (λ keys. IsRanking kinds.Separator seats keys.items)
  pub propagators : IfSome kept.propagators (λ keys. IsRanking kinds.Propagator seats keys.items)
  pub pricers : IfSome kept.pricers (λ keys. IsRanking kinds.Pricer seats keys.items)
  pub heuristics : IfSome kept.heuristics (λ keys. IsRanking kinds.Heuristic seats keys.items)
  pub branchers : IfSome kept.branchers (λ keys. IsRanking kinds.BranchRule seats keys.items)
  pub enforcers : IfSome kept.enforcers (λ keys. IsRanking kinds.ConsHandler seats keys.items)
  pub listeners : IfSome kept.listeners (λ keys. IsRanking kinds.EventHandler seats keys.items)

-- what a roster has ready: for how many lines it has room, and its rankings
pub record Room : Type 0 where
  pub lines : ℕ
  pub rankings : Rankings

-- nothing
abbrev pub no_room : Room
no_room = record { lines = 0; rankings = no_rankings }
