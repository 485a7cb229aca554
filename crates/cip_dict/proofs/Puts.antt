-- Entries that are put into their rows one after another.
use Rattle.std.proofs.Common.{◌≡◌, ℕ, ◌+◌, ◌-◌, ◌<◌, ◌≤◌, ◌==◌, true, cond, ◌&&◌, List, [], ◌∷◌, length, get_or, set, drop, sym, ap, ◌∙◌, inl, inr, arith, length-set}
use Rattle.std.proofs.lemmas.Bool.{eq-eqb, ne_eqb, cases_eq}
use Rattle.std.proofs.lemmas.List.{get_or-set_same, get_or-set_other, drop_more}
use Rattle.cip_rational.specs.Rational.{ℚ, zeroℚ}
use Rattle.cip_problem.specs.Activity.{value_at}
use Rattle.cip_dict.specs.Row.{row_in}
use Rattle.cip_dict.specs.Entries.{Entry, entry_from}

module _ (columns : ℕ) (e : Entry) (rows : List (List ℚ)) (row_there : columns + e.0 < length rows) (column_there : e.1 < length (row_in rows (columns + e.0))) where
  after : List (List ℚ)
  after = set rows (columns + e.0) (set (row_in rows (columns + e.0)) e.1 e.2)

  -- what is read of the rows then
  put_read : (v k : ℕ) → columns ≤ v → value_at (row_in after v) k ≡ cond (e.0 == (v - columns) && e.1 == k) e.2 (value_at (row_in rows v) k)
  unfolding after
  put_read v k l =
      elim (cases_eq v (columns + e.0)) [
        | inl same ↦ (let row : row_in after v ≡ set (row_in rows (columns + e.0)) e.1 e.2 = ap (row_in after) same ∙ get_or-set_same rows (columns + e.0) (set (row_in rows (columns + e.0)) e.1 e.2) [] row_there in
            let at : (e.0 == (v - columns)) ≡ true = eq-eqb e.0 (v - columns) (omega (arith, same)) in
            ap (λ r. value_at r k) row ∙ elim (cases_eq k e.1) [
              | inl here ↦ ap (value_at (set (row_in rows (columns + e.0)) e.1 e.2)) here ∙ get_or-set_same (row_in rows (columns + e.0)) e.1 e.2 zeroℚ column_there
                  ∙ sym (ap (λ t. cond (t && e.1 == k) e.2 (value_at (row_in rows v) k)) at ∙ ap (λ t. cond t e.2 (value_at (row_in rows v) k)) (eq-eqb e.1 k (sym here)))
              | inr there ↦ get_or-set_other (row_in rows (columns + e.0)) e.1 k e.2 zeroℚ there ∙ ap (λ u. value_at (row_in rows u) k) (sym same)
                  ∙ sym (ap (λ t. cond (t && e.1 == k) e.2 (value_at (row_in rows v) k)) at ∙ ap (λ t. cond t e.2 (value_at (row_in rows v) k)) (ne_eqb e.1 k (λ (h : e.1 ≡ k). there (sym h))))
            ])
        | inr other ↦ ap (λ r. value_at r k) (get_or-set_other rows (columns + e.0) v (set (row_in rows (columns + e.0)) e.1 e.2) [] other)
            ∙ sym (ap (λ t. cond (t && e.1 == k) e.2 (value_at (row_in rows v) k)) (ne_eqb e.0 (v - columns) (λ (h : e.0 ≡ v - columns). other (omega (arith, h, l)))))
      ]

  -- so the entries that come after it find its own
  pub put_more : (entries : List Entry) (i : ℕ) (new : List (List ℚ)) → i < length entries → e ≡ get_or entries i e → new ≡ set rows (columns + e.0) (set (row_in rows (columns + e.0)) e.1 e.2) → (v k : ℕ) → columns ≤ v → entry_from (value_at (row_in new v) k) (drop (i + 1) entries) (v - columns) k ≡ entry_from (value_at (row_in rows v) k) (drop i entries) (v - columns) k
  unfolding after
  put_more entries i new l read is_new v k lv =
      let cut : drop i entries ≡ e ∷ drop (i + 1) entries = drop_more entries i e l ∙ ap (λ x. x ∷ drop (i + 1) entries) (sym read) in
      ap (λ rs. entry_from (value_at (row_in rs v) k) (drop (i + 1) entries) (v - columns) k) is_new
      ∙ ap (λ q. entry_from q (drop (i + 1) entries) (v - columns) k) (put_read v k lv)
      ∙ sym (ap (λ es. entry_from (value_at (row_in rows v) k) es (v - columns) k) cut)

  pub put_rest : (new : List (List ℚ)) → new ≡ set rows (columns + e.0) (set (row_in rows (columns + e.0)) e.1 e.2) → (v : ℕ) → v < columns → row_in new v ≡ row_in rows v
  put_rest new is_new v l = ap (λ rs. row_in rs v) is_new ∙ get_or-set_other rows (columns + e.0) v (set (row_in rows (columns + e.0)) e.1 e.2) [] (λ (h : v ≡ columns + e.0). omega (arith, h, l))

  pub put_long : (new : List (List ℚ)) → new ≡ set rows (columns + e.0) (set (row_in rows (columns + e.0)) e.1 e.2) → (v : ℕ) → length (row_in new v) ≡ length (row_in rows v)
  put_long new is_new v =
      ap (λ rs. length (row_in rs v)) is_new ∙ elim (cases_eq v (columns + e.0)) [
        | inl same ↦ ap (λ u. length (row_in (set rows (columns + e.0) (set (row_in rows (columns + e.0)) e.1 e.2)) u)) same
            ∙ ap length (get_or-set_same rows (columns + e.0) (set (row_in rows (columns + e.0)) e.1 e.2) [] row_there)
            ∙ length-set (row_in rows (columns + e.0)) e.1 e.2 ∙ ap (λ u. length (row_in rows u)) (sym same)
        | inr other ↦ ap length (get_or-set_other rows (columns + e.0) v (set (row_in rows (columns + e.0)) e.1 e.2) [] other)
      ]
