use Rattle.std.proofs.lemmas.Result.{IfOk-from_err}
use Rattle.std.proofs.lemmas.Grind.{common_steps}
use Rattle.std.proofs.Common.{ℕ, List, ◌≤◌, ◌∙◌, ap, length, subst, sym, arith}
use Rattle.std.specs.List.Sorted.{IsPermutation, IsSorted}
use Rattle.cip_plugin.specs.declared.keys.Key.{Key}
use Rattle.cip_plugin.specs.Calling.{is_ready, keys_from}
use Rattle.cip_plugin.specs.Ranks.{rank_order}
use Rattle.cip_roster.proofs.Ranking.{ranked_all, ranked_found, ranked_none, ranked_passed, sorted_all}
use Rattle.cip_roster.proofs.calling.ranking.Goals as goal
use Rattle.cip_roster.proofs.calling.ranking.Goals.{in-None, in-Some+in_ok-push-in-Some}

pub loop-id-preserved : goal.loop-id-preserved
loop-id-preserved g c =
    elim c.match-ready_key.branch [
      | in-None w ↦ rw w.keys-is (ranked_passed c.args.kind c.loop-id.id (g.R.Seated.state c.args.roster.now).seats
          c.loop-id.keys.items w.in-None.ensures c.loop-id.invariant)
      | in-Some+in_ok-push-in-Some w ↦ rw w.keys-is (rw w.in_ok-push-in-Some.ensures.items
          (ranked_found c.args.kind c.loop-id.id (g.R.Seated.state c.args.roster.now).seats c.loop-id.keys.items
          w.in-Some.key w.in-Some.ensures c.loop-id.invariant))
    ]

pub loop-id-init : goal.loop-id-init
loop-id-init g c =
    rw c.new-keys.ensures.items (ranked_none (is_ready c.args.kind) (g.R.Seated.state c.args.roster.now).seats)

pub returns-clause-permutation : goal.returns-clause-permutation
returns-clause-permutation g c =
    let seats = (g.R.Seated.state c.args.roster.now).seats in
    let fits = subst (λ (n : ℕ). n ≤ c.loop-id.id) c.count-id-end.ensures c.loop-id-test.false in
    let were = c.as_mut_slice.ensures.value in
    let all = ranked_all (is_ready c.args.kind) c.loop-id.id seats c.loop-id.keys.items fits c.loop-id.invariant in
    subst (λ (keys : List Key). IsPermutation (keys_from (is_ready c.args.kind) 0 seats) keys)
    (sym (sorted_all c.loop-id.keys.items c.sort_unstable.new.self c.loop-id.keys.len c.loop-id.keys.ok.0
    (c.sort_unstable.ensures.len ∙ ap (λ (keys : List Key). length keys) were)))
    (subst (λ (keys : List Key). IsPermutation keys c.sort_unstable.new.self) (were ∙ all)
    c.sort_unstable.ensures.permutation)

pub returns-clause-sorted : goal.returns-clause-sorted
returns-clause-sorted g c =
    subst (λ (keys : List Key). IsSorted rank_order keys)
    (sym (sorted_all c.loop-id.keys.items c.sort_unstable.new.self c.loop-id.keys.len c.loop-id.keys.ok.0
    (c.sort_unstable.ensures.len ∙ ap (λ (keys : List Key). length keys) c.as_mut_slice.ensures.value)))
    c.sort_unstable.ensures.sorted

pub overflow_cast-id : goal.overflow_cast-id
overflow_cast-id g c = grind (arith, common_steps)

pub returns-in_err-push-in-Some-clause-permutation : goal.returns-in_err-push-in-Some-clause-permutation
returns-in_err-push-in-Some-clause-permutation g c =
    IfOk-from_err c.from_residual.result _ c.from_residual.ensures.0

pub returns-in_err-push-in-Some-clause-sorted : goal.returns-in_err-push-in-Some-clause-sorted
returns-in_err-push-in-Some-clause-sorted g c = IfOk-from_err c.from_residual.result _ c.from_residual.ensures.0
