-- A log with other numbers for the columns of its splits.
use Rattle.std.proofs.Common.{◌≡◌, ℕ, zero, suc, ◌+◌, ◌<◌, ◌≤◌, List, [], ◌∷◌, ◌++◌, length, take, drop, Some, slice_get, refl, sym, ap, ◌∙◌, arith, add-one}
use Rattle.std.specs.Prelude.{slice_set}
use Rattle.std.proofs.lemmas.Option.{none-some, same_Some, slice_get_read}
use Rattle.std.proofs.Math.ListN.{get_or}
use Rattle.cip_problem.specs.Log.{Entry}
use Rattle.cip_tree.specs.Entries as tree
use Rattle.cip_tree.specs.Entries.{end_of, entry_of}
use Rattle.cip_tree.specs.declared.logs.End.{End as LoggedEnd}
use Rattle.cip_tree.specs.declared.logs.Logged.{Logged}
use Rattle.cip_search.specs.SeenLogs.{end_seen, entry_seen, log_seen}
use Rattle.cip_solve.specs.Logs.{renamed}
use Rattle.cip_presolve.proofs.MayLeave.{set_long}

-- ---- one entry after the other

-- the first entries have other numbers, the others are as they were
pub record RenamedTo (numbers : List ℕ) (old now : List Logged) (n : ℕ) : Type 0 where
  pub are : tree.entries_of now ≡ log_seen (renamed numbers) (take n (tree.entries_of old)) ++ drop n (tree.entries_of old)
  pub long : length now ≡ length old

pub none_renamed : (numbers : List ℕ) (old : List Logged) → RenamedTo numbers old old 0
none_renamed numbers old = record { are = refl; long = refl }

entry_at : (now : List Logged) (n : ℕ) (logged : Logged) → slice_get now n ≡ Some logged → slice_get (tree.entries_of now) n ≡ Some (entry_of logged)
entry_at [] n logged g = absurd (none-some logged g)
entry_at (l ∷ ls) zero logged g = ap (λ (t : Logged). Some (entry_of t)) (same_Some l logged g)
entry_at (l ∷ ls) (suc n) logged g = entry_at ls n logged g

entries_set : (now : List Logged) (n : ℕ) (logged : Logged) → tree.entries_of (slice_set now n logged) ≡ slice_set (tree.entries_of now) n (entry_of logged)
entries_set [] n logged = refl
entries_set (l ∷ ls) zero logged = refl
entries_set (l ∷ ls) (suc n) logged = ap (λ t. entry_of l ∷ t) (entries_set ls n logged)

module _ (kept : ℕ → ℕ) where
  at_rest : (log : List Entry) (n : ℕ) → slice_get (log_seen kept (take n log) ++ drop n log) n ≡ slice_get log n
  at_rest [] zero = refl
  at_rest [] (suc n) = refl
  at_rest (e ∷ es) zero = refl
  at_rest (e ∷ es) (suc n) = at_rest es n

  set_next : (log : List Entry) (n : ℕ) (entry : Entry) → slice_get log n ≡ Some entry → slice_set (log_seen kept (take n log) ++ drop n log) n (entry_seen kept entry) ≡ log_seen kept (take (suc n) log) ++ drop (suc n) log
  set_next [] n entry g = absurd (none-some entry g)
  set_next (e ∷ es) zero entry g = ap (λ t. entry_seen kept t ∷ es) (sym (same_Some e entry g))
  set_next (e ∷ es) (suc n) entry g = ap (λ t. entry_seen kept e ∷ t) (set_next es n entry g)

  end_of_all : (log : List Entry) (n : ℕ) → length log ≤ n → log_seen kept (take n log) ++ drop n log ≡ log_seen kept log
  end_of_all [] zero l = refl
  end_of_all [] (suc n) l = refl
  end_of_all (e ∷ es) zero l = absurd (omega (arith, l))
  end_of_all (e ∷ es) (suc n) l = ap (λ t. entry_seen kept e ∷ t) (end_of_all es n (omega (arith, l)))

-- the next one gets its number
module _ (numbers : List ℕ) (old now : List Logged) (n : ℕ) (m : RenamedTo numbers old now n) (below : n < length now) where
  put_at : (logged new : Logged) → slice_get now n ≡ Some logged → entry_of new ≡ entry_seen (renamed numbers) (entry_of logged) → RenamedTo numbers old (slice_set now n new) (n + 1)
  put_at logged new g e =
      let kept = renamed numbers in
      let log = tree.entries_of old in
      let was : slice_get log n ≡ Some (entry_of logged) = sym (at_rest kept log n) ∙ (ap (λ (l : List Entry). slice_get l n) (sym m.are) ∙ entry_at now n logged g) in
      record {
        are = entries_set now n new ∙ ap (λ (l : List Entry). slice_set l n (entry_of new)) m.are
            ∙ ap (λ t. slice_set (log_seen kept (take n log) ++ drop n log) n t) e ∙ set_next kept log n (entry_of logged) was ∙ rw add-one refl;
        long = set_long now n new ∙ m.long;
      }

  pub next_renamed : (logged read : Logged) (end : LoggedEnd) → logged ≡ get_or now n logged → read ≡ get_or now n read → end_of end ≡ end_seen (renamed numbers) (end_of read.end) → RenamedTo numbers old (slice_set now n (record { id = logged.id; bound = logged.bound; end = end })) (n + 1)
  next_renamed logged read end is also e =
      let there = slice_get_read now (length now) n logged refl below is in
      let same : read ≡ logged = same_Some read logged (sym (slice_get_read now (length now) n read refl below also) ∙ there) in
      put_at logged (record { id = logged.id; bound = logged.bound; end = end }) there
      (ap (λ t. record { node = logged.id; bound = logged.bound; end = t }) (e ∙ ap (λ (l : Logged). end_seen (renamed numbers) (end_of l.end)) same))

entries_long : (log : List Logged) → length (tree.entries_of log) ≡ length log
entries_long [] = refl
entries_long (l ∷ ls) = ap (λ k. suc k) (entries_long ls)

pub all_renamed : (numbers : List ℕ) (old now : List Logged) (n : ℕ) → RenamedTo numbers old now n → length now ≤ n → tree.entries_of now ≡ log_seen (renamed numbers) (tree.entries_of old)
all_renamed numbers old now n m l =
    let long = m.long in
    m.are ∙ end_of_all (renamed numbers) (tree.entries_of old) n (omega (arith, l, long, entries_long old))

pub ruleset renaming = (none_renamed, all_renamed)
