-- A log whose columns have the numbers that they had.
use Rattle.std.proofs.Common.{◌≡◌, ℕ, zero, suc, ◌+◌, List, [], ◌∷◌, refl, ap, ◌∙◌, subst, arith}
use Rattle.std.specs.Prelude.{slice_index_or}
use Rattle.cip_problem.specs.Log.{End, Split, Closed, Parked, Entry}
use Rattle.cip_search.specs.SeenLogs.{end_seen, log_seen}
use Rattle.cip_solve.specs.PresolvedPrograms.{counted}
use Rattle.cip_solve.specs.Logs.{renamed}

counted_at : (first n column : ℕ) → slice_index_or (counted first n) column (first + column) ≡ first + column
counted_at first zero column = refl
counted_at first (suc n) zero = omega arith
counted_at first (suc n) (suc column) =
    let k : slice_index_or (counted (first + 1) n) column ((first + 1) + column) ≡ (first + 1) + column = counted_at (first + 1) n column in
    let e : (first + 1) + column ≡ first + suc column = omega arith in
    subst (λ t. slice_index_or (counted (first + 1) n) column t ≡ t) e k

-- a column keeps its number by the list of all
renamed_same : (n column : ℕ) → renamed (counted 0 n) column ≡ column
renamed_same n column =
    let same : 0 + column ≡ column = omega arith in
    subst (λ t. slice_index_or (counted 0 n) column t ≡ t) same (counted_at 0 n column)

end_same : (kept : ℕ → ℕ) (end : End) → ((column : ℕ) → kept column ≡ column) → end_seen kept end ≡ end
end_same kept (Split column at low high) h = ap (λ c. Split c at low high) (h column)
end_same kept Closed h = refl
end_same kept Parked h = refl

log_same : (kept : ℕ → ℕ) (log : List Entry) → ((column : ℕ) → kept column ≡ column) → log_seen kept log ≡ log
log_same kept [] h = refl
log_same kept (entry ∷ log) h =
    ap (λ t. record { node = entry.node; bound = entry.bound; end = t } ∷ log_seen kept log) (end_same kept entry.end h) ∙ ap (λ l. entry ∷ l) (log_same kept log h)

pub log_unchanged : (numbers : List ℕ) (n : ℕ) (log : List Entry) → numbers ≡ counted 0 n → log_seen (renamed numbers) log ≡ log
log_unchanged numbers n log e = ap (λ l. log_seen (renamed l) log) e ∙ log_same (renamed (counted 0 n)) log (renamed_same n)
