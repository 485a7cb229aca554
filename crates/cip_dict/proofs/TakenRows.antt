-- Rows that are taken from another list, one after another.
use borrow.Author.Count.{below_more}
use Rattle.std.proofs.Common.{◌≡◌, ℕ, ◌+◌, ◌<◌, ◌≤◌, Bool, true, false, cond, List, [], length, get_or, set, Option, sym, ap, ◌∙◌, arith}
use Rattle.std.proofs.lemmas.List.{get_or-set_other, get_or_default}
use Rattle.cip_rational.specs.Rational.{ℚ}
use Rattle.cip_bland.specs.declared.moves.Stand.{Stand}
use Rattle.cip_dict.specs.Row.{row_in, taken_form, HasRows, AreMarked}
use Rattle.cip_dict.proofs.Loops.{written_more}
use Rattle.cip_dict.proofs.RowLists.{HasRows-set}

-- rows below v are taken from `others`, where they change, and the others are as they were
pub record AreTaken (standing : List (Option Stand)) (i j : ℕ) (before others : List (List ℚ)) (v : ℕ) (rows other : List (List ℚ)) : Type 0 where
  pub taken : (m : ℕ) → m < v → get_or rows m [] ≡ taken_form standing i j before others m
  pub rest : (m : ℕ) → v ≤ m → get_or rows m [] ≡ get_or before m []
  pub other_rest : (m : ℕ) → v ≤ m → get_or other m [] ≡ get_or others m []
  pub rows_long : HasRows standing rows
  pub other_long : HasRows standing other

module _ (standing : List (Option Stand)) (i j : ℕ) (before others : List (List ℚ)) (changed : List Bool) (marked : AreMarked standing i j before changed) (v : ℕ) (l : v < length standing) (rows other : List (List ℚ)) (h : AreTaken standing i j before others v rows other) where
  pub taken_more : (x y d e : List ℚ) (rows' other' : List (List ℚ)) → get_or changed v false ≡ true → x ≡ get_or other v d → y ≡ get_or rows v e → rows' ≡ set rows v x → other' ≡ set other v y → AreTaken standing i j before others (v + 1) rows' other'
  taken_more x y d e rows' other' t ex ey er eo =
      let lr : v < length rows = omega (arith, l, h.rows_long.each_one) in
      let lo : v < length other = omega (arith, l, h.other_long.each_one) in
      let x_is : x ≡ row_in other v = ex ∙ get_or_default other v d [] lo in
      let y_is : y ≡ row_in rows v = ey ∙ get_or_default rows v e [] lr in
      let changes = sym t ∙ marked.changes v l in
      let here : x ≡ taken_form standing i j before others v = x_is ∙ h.other_rest v (omega arith) ∙ ap (λ (b : Bool). cond b (row_in others v) (row_in before v)) changes in
      let same = h.other_long.long v l ∙ sym (h.rows_long.long v l) in
      rw (er, eo) (record {
        taken = written_more (taken_form standing i j before others) rows v x [] lr h.taken here;
        rest = λ m lm. get_or-set_other rows v m x [] (λ (s : m ≡ v). omega (arith, lm, s)) ∙ h.rest m (omega (arith, lm));
        other_rest = λ m lm. get_or-set_other other v m y [] (λ (s : m ≡ v). omega (arith, lm, s)) ∙ h.other_rest m (omega (arith, lm));
        rows_long = HasRows-set standing rows v x h.rows_long (ap length x_is ∙ same) lr;
        other_long = HasRows-set standing other v y h.other_long (ap length y_is ∙ sym same) lo;
      })

  pub left_more : (rows' other' : List (List ℚ)) → get_or changed v false ≡ false → rows' ≡ rows → other' ≡ other → AreTaken standing i j before others (v + 1) rows' other'
  left_more rows' other' t er eo =
      let here : get_or rows v [] ≡ taken_form standing i j before others v = h.rest v (omega arith) ∙ ap (λ (b : Bool). cond b (row_in others v) (row_in before v)) (sym t ∙ marked.changes v l) in
      rw (er, eo) (record {
        taken = below_more (λ (m : ℕ). get_or rows m [] ≡ taken_form standing i j before others m) v h.taken here;
        rest = λ m lm. h.rest m (omega (arith, lm));
        other_rest = λ m lm. h.other_rest m (omega (arith, lm));
        rows_long = h.rows_long;
        other_long = h.other_long;
      })
