-- The rankings that are kept stay right, as long as nobody's readiness and priority change.
use Rattle.std.proofs.Common.{◌≡◌, ℕ, ◌+◌, ◌*◌, ◌≤◌, List, [], ◌∷◌, map, Option, None, Some, Vec, Global, Bool, cond, sym, ◌∙◌, ap, subst, refl, arith}
use Rattle.std.specs.Prelude.{◌&&◌, ℤ, IfOk, IfSome, Result, Ok, Err}
use Rattle.std.specs.List.Sorted.{IsPermutation, IsSorted}
use Rattle.cip_plugin.specs.declared.kinds.Kind.{Kind}
use Rattle.cip_plugin.specs.declared.kinds.Kind.TheVariants as kinds
use Rattle.cip_plugin.specs.declared.keys.Key.{Key}
use Rattle.cip_plugin.specs.Calling.{is_ready, keys_from, same_kind}
use Rattle.cip_plugin.specs.Ranks.{rank_order}
use Rattle.cip_plugin.specs.Seats.{Seat, State, is_playing, live_count, held_count}
use Rattle.cip_roster.specs.declared.rankings.Rankings.{Rankings}
use Rattle.cip_roster.specs.KeptRankings.{AreRanked, IsRanking, Room, no_rankings, ranking_of, with_ranking, without_ranking}
use Rattle.cip_roster.specs.Turns.{IsSound}
use Rattle.cip_roster.proofs.Calm.{Face, IsAlike, alike_length, alike_live, face, settled_alike}

-- a live and enabled plugin of a kind, by its face
abbrev ready_face : Kind → Face → Bool
ready_face kind f = (is_playing f.standing.stage && f.standing.on) && same_kind kind f.kind

-- a key by its parts
abbrev key_with : ℤ → ℕ → Key
key_with priority id = record { rank = record { 0 = priority }; id = id }

-- the keys of those of a kind, by their faces
abbrev keys_by_face : Kind → ℕ → List Face → List Key
keys_by_face kind id [] = []
keys_by_face kind id (f ∷ faces) =
    cond (ready_face kind f) (key_with f.priority id ∷ keys_by_face kind (id + 1) faces)
    (keys_by_face kind (id + 1) faces)

keys_faces : (kind : Kind) (id : ℕ) (seats : List Seat)
    → keys_from (is_ready kind) id seats ≡ keys_by_face kind id (map face seats)
keys_faces kind id [] = refl
keys_faces kind id (s ∷ seats) =
    ap (λ (rest : List Key). cond (is_ready kind s) (key_with s.priority id ∷ rest) rest)
    (keys_faces kind (id + 1) seats)

-- seats with the same faces have the same keys
keys_alike : (kind : Kind) (a b : List Seat) → map face b ≡ map face a
    → keys_from (is_ready kind) 0 b ≡ keys_from (is_ready kind) 0 a
keys_alike kind a b same = keys_faces kind 0 b ∙ ap (keys_by_face kind 0) same ∙ sym (keys_faces kind 0 a)

-- a ranking stays right
pub ranking_alike : (kind : Kind) (a b : State) (keys : List Key) → IsAlike a b → IsRanking kind a.seats keys
    → IsRanking kind b.seats keys
ranking_alike kind a b keys alike ranking = record {
  permutation = subst (λ (those : List Key). IsPermutation those keys)
      (sym (keys_alike kind a.seats b.seats alike.faces)) ranking.permutation;
  sorted = ranking.sorted;
}

some_alike : (kind : Kind) (a b : State) (kept : Option (Vec Key Global)) → IsAlike a b
    → IfSome kept (λ keys. IsRanking kind a.seats keys.items) → IfSome kept (λ keys. IsRanking kind b.seats keys.items)
some_alike kind a b None alike is = tt
some_alike kind a b (Some keys) alike is = ranking_alike kind a b keys.items alike is

-- and so do all
pub ranked_alike : (a b : State) (kept : Rankings) → IsAlike a b → AreRanked a.seats kept → AreRanked b.seats kept
ranked_alike a b kept alike are = record {
  separators = some_alike kinds.Separator a b kept.separators alike are.separators;
  propagators = some_alike kinds.Propagator a b kept.propagators alike are.propagators;
  pricers = some_alike kinds.Pricer a b kept.pricers alike are.pricers;
  heuristics = some_alike kinds.Heuristic a b kept.heuristics alike are.heuristics;
  branchers = some_alike kinds.BranchRule a b kept.branchers alike are.branchers;
  enforcers = some_alike kinds.ConsHandler a b kept.enforcers alike are.enforcers;
  listeners = some_alike kinds.EventHandler a b kept.listeners alike are.listeners;
}

-- none is kept, so none is wrong
ranked_none : (seats : List Seat) → AreRanked seats no_rankings
ranked_none seats = record {
  separators = tt;
  propagators = tt;
  pricers = tt;
  heuristics = tt;
  branchers = tt;
  enforcers = tt;
  listeners = tt;
}

pub ranked_as_none : (seats : List Seat) (kept : Rankings) → kept ≡ no_rankings → AreRanked seats kept
ranked_as_none seats kept none = subst (AreRanked seats) (sym none) (ranked_none seats)

-- a ranking as it is made
pub ranking_made : {E : Type 0} (kind : Kind) (a r : State) (result : Result (Vec Key Global) E) → r ≡ a
    → IfOk result (λ keys. IsPermutation (keys_from (is_ready kind) 0 r.seats) keys.items)
    → IfOk result (λ keys. IsSorted rank_order keys.items)
    → IfOk result (λ keys. IsRanking kind a.seats keys.items)
ranking_made kind a r (Ok keys) same permuted sorted = record {
  permutation = subst (λ (s : State). IsPermutation (keys_from (is_ready kind) 0 s.seats) keys.items) same permuted;
  sorted = sorted;
}
ranking_made kind a r (Err error) same permuted sorted = tt

-- what is kept of a kind is its ranking
some_ranked : (kind : Kind) (seats : List Seat) (kept : Option (Vec Key Global)) (keys : Vec Key Global)
    → IfSome kept (λ ks. IsRanking kind seats ks.items) → Some keys ≡ kept → IsRanking kind seats keys.items
some_ranked kind seats kept keys are is =
    subst (λ (o : Option (Vec Key Global)). IfSome o (λ ks. IsRanking kind seats ks.items)) (sym is) are

pub ranked_of : (kind : Kind) (seats : List Seat) (kept : Rankings) (keys : Vec Key Global) → AreRanked seats kept
    → Some keys ≡ ranking_of kind kept → IsRanking kind seats keys.items
ranked_of kinds.Separator seats kept keys are is =
    some_ranked kinds.Separator seats kept.separators keys are.separators is
ranked_of kinds.Propagator seats kept keys are is =
    some_ranked kinds.Propagator seats kept.propagators keys are.propagators is
ranked_of kinds.Pricer seats kept keys are is =
    some_ranked kinds.Pricer seats kept.pricers keys are.pricers is
ranked_of kinds.Heuristic seats kept keys are is =
    some_ranked kinds.Heuristic seats kept.heuristics keys are.heuristics is
ranked_of kinds.BranchRule seats kept keys are is =
    some_ranked kinds.BranchRule seats kept.branchers keys are.branchers is
ranked_of kinds.ConsHandler seats kept keys are is =
    some_ranked kinds.ConsHandler seats kept.enforcers keys are.enforcers is
ranked_of kinds.EventHandler seats kept keys are is =
    some_ranked kinds.EventHandler seats kept.listeners keys are.listeners is

-- those that are left
ranked_without : (kind : Kind) (seats : List Seat) (kept : Rankings) → AreRanked seats kept
    → AreRanked seats (without_ranking kind kept)
ranked_without kinds.Separator seats kept are = record {
  separators = tt;
  propagators = are.propagators;
  pricers = are.pricers;
  heuristics = are.heuristics;
  branchers = are.branchers;
  enforcers = are.enforcers;
  listeners = are.listeners;
}
ranked_without kinds.Propagator seats kept are = record {
  separators = are.separators;
  propagators = tt;
  pricers = are.pricers;
  heuristics = are.heuristics;
  branchers = are.branchers;
  enforcers = are.enforcers;
  listeners = are.listeners;
}
ranked_without kinds.Pricer seats kept are = record {
  separators = are.separators;
  propagators = are.propagators;
  pricers = tt;
  heuristics = are.heuristics;
  branchers = are.branchers;
  enforcers = are.enforcers;
  listeners = are.listeners;
}
ranked_without kinds.Heuristic seats kept are = record {
  separators = are.separators;
  propagators = are.propagators;
  pricers = are.pricers;
  heuristics = tt;
  branchers = are.branchers;
  enforcers = are.enforcers;
  listeners = are.listeners;
}
ranked_without kinds.BranchRule seats kept are = record {
  separators = are.separators;
  propagators = are.propagators;
  pricers = are.pricers;
  heuristics = are.heuristics;
  branchers = tt;
  enforcers = are.enforcers;
  listeners = are.listeners;
}
ranked_without kinds.ConsHandler seats kept are = record {
  separators = are.separators;
  propagators = are.propagators;
  pricers = are.pricers;
  heuristics = are.heuristics;
  branchers = are.branchers;
  enforcers = tt;
  listeners = are.listeners;
}
ranked_without kinds.EventHandler seats kept are = record {
  separators = are.separators;
  propagators = are.propagators;
  pricers = are.pricers;
  heuristics = are.heuristics;
  branchers = are.branchers;
  enforcers = are.enforcers;
  listeners = tt;
}

-- one more
ranked_with : (kind : Kind) (keys : Vec Key Global) (seats : List Seat) (kept : Rankings) → AreRanked seats kept
    → IsRanking kind seats keys.items → AreRanked seats (with_ranking kind keys kept)
ranked_with kinds.Separator keys seats kept are is = record {
  separators = is;
  propagators = are.propagators;
  pricers = are.pricers;
  heuristics = are.heuristics;
  branchers = are.branchers;
  enforcers = are.enforcers;
  listeners = are.listeners;
}
ranked_with kinds.Propagator keys seats kept are is = record {
  separators = are.separators;
  propagators = is;
  pricers = are.pricers;
  heuristics = are.heuristics;
  branchers = are.branchers;
  enforcers = are.enforcers;
  listeners = are.listeners;
}
ranked_with kinds.Pricer keys seats kept are is = record {
  separators = are.separators;
  propagators = are.propagators;
  pricers = is;
  heuristics = are.heuristics;
  branchers = are.branchers;
  enforcers = are.enforcers;
  listeners = are.listeners;
}
ranked_with kinds.Heuristic keys seats kept are is = record {
  separators = are.separators;
  propagators = are.propagators;
  pricers = are.pricers;
  heuristics = is;
  branchers = are.branchers;
  enforcers = are.enforcers;
  listeners = are.listeners;
}
ranked_with kinds.BranchRule keys seats kept are is = record {
  separators = are.separators;
  propagators = are.propagators;
  pricers = are.pricers;
  heuristics = are.heuristics;
  branchers = is;
  enforcers = are.enforcers;
  listeners = are.listeners;
}
ranked_with kinds.ConsHandler keys seats kept are is = record {
  separators = are.separators;
  propagators = are.propagators;
  pricers = are.pricers;
  heuristics = are.heuristics;
  branchers = are.branchers;
  enforcers = is;
  listeners = are.listeners;
}
ranked_with kinds.EventHandler keys seats kept are is = record {
  separators = are.separators;
  propagators = are.propagators;
  pricers = are.pricers;
  heuristics = are.heuristics;
  branchers = are.branchers;
  enforcers = are.enforcers;
  listeners = is;
}

-- what is sound stays so, as faces stay
pub sound_alike : (a b : State) (room later : Room) → IsAlike a b → IsSound a room
    → 2 * live_count a.seats ≤ later.lines → later.rankings ≡ room.rankings → IsSound b later
sound_alike a b room later alike sound fits same =
    let count = alike_length a b alike in
    let live = alike_live a b alike in
    let held = ap held_count alike.places in
    let numbers = sound.numbers in
    record {
      settled = settled_alike a b alike sound.settled;
      numbers = omega arith;
      lasts = omega arith;
      ranked = subst (AreRanked b.seats) (sym same) (ranked_alike a b room.rankings alike sound.ranked);
    }

-- a ranking was taken out
pub sound_without : (kind : Kind) (a b : State) (room later : Room) → b ≡ a → later.lines ≡ room.lines
    → later.rankings ≡ without_ranking kind room.rankings → IsSound a room → IsSound b later
sound_without kind a b room later same lines left sound =
    let lasts = sound.lasts in
    rw same (record {
      settled = sound.settled;
      numbers = sound.numbers;
      lasts = omega arith;
      ranked = subst (AreRanked a.seats) (sym left) (ranked_without kind a.seats room.rankings sound.ranked);
    })

-- a ranking is kept
pub sound_with : (kind : Kind) (keys : Vec Key Global) (a b : State) (room later : Room) → b ≡ a
    → later.lines ≡ room.lines → later.rankings ≡ with_ranking kind keys room.rankings
    → IsRanking kind a.seats keys.items → IsSound a room → IsSound b later
sound_with kind keys a b room later same lines more ranking sound =
    let lasts = sound.lasts in
    rw same (record {
      settled = sound.settled;
      numbers = sound.numbers;
      lasts = omega arith;
      ranked = subst (AreRanked a.seats) (sym more) (ranked_with kind keys a.seats room.rankings sound.ranked ranking);
    })
