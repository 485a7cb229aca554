-- Lists of rows, one of which is written.
use Rattle.std.proofs.Common.{◌≡◌, ℕ, ◌<◌, ◌==◌, Bool, true, false, cond, List, [], ◌∷◌, length, get_or, set, take, drop, ◌++◌, Option, refl, sym, ap, ◌∙◌, inl, inr, length-set}
use Rattle.std.proofs.lemmas.Bool.{cases_eq}
use Rattle.std.proofs.lemmas.List.{get_or-set_same, get_or-set_other, get_or_read}
use Rattle.cip_rational.specs.Rational.{ℚ}
use Rattle.cip_bland.specs.declared.moves.Stand.{Stand}
use Rattle.cip_dict.specs.Lists.{basic_in}
use Rattle.cip_dict.specs.Row.{HasRows, HasRowsAfter, row_in, row_length}
use Rattle.cip_dict.specs.Written.{entered_form}

-- what is read at a number is the row of that number
pub row_read : (rows : List (List ℚ)) (v : ℕ) (row : List ℚ) → v < length rows → row ≡ get_or rows v row → row ≡ row_in rows v
row_read rows v row l e = get_or_read rows v row l e []

pub row_read_in : (slice rows : List (List ℚ)) (v : ℕ) (row : List ℚ) → slice ≡ rows → v < length rows → row ≡ get_or slice v row → row ≡ row_in rows v
row_read_in slice rows v row s l e = row_read rows v row l (e ∙ ap (λ xs. get_or xs v row) s)

-- a row of the same length is written
pub HasRows-set : (standing : List (Option Stand)) (rows : List (List ℚ)) (v : ℕ) (row : List ℚ) → HasRows standing rows → length row ≡ length (row_in rows v) → v < length rows → HasRows standing (set rows v row)
HasRows-set standing rows v row h e l = record {
  each_one = length-set rows v row ∙ h.each_one;
  long = λ w lw. elim (cases_eq w v) [
    | inl same ↦ ap (λ u. length (get_or (set rows v row) u [])) same ∙ ap length (get_or-set_same rows v row [] l) ∙ e ∙ ap (λ u. length (row_in rows u)) (sym same) ∙ h.long w lw
    | inr other ↦ ap length (get_or-set_other rows v w row [] other) ∙ h.long w lw
  ];
}

-- how long rows are once two have changed places
chosen_long : (b c : Bool) (x y z : List ℚ) (m n : ℕ) → length x ≡ 0 → length y ≡ m → length z ≡ n → length (cond b x (cond c y z)) ≡ cond b 0 (cond c m n)
chosen_long true c x y z m n hx hy hz = hx
chosen_long false true x y z m n hx hy hz = hy
chosen_long false false x y z m n hx hy hz = hz

pub entered_long : (standing : List (Option Stand)) (i j : ℕ) (rows new : List (List ℚ)) (row : List ℚ) → HasRows standing rows → j < length standing → basic_in standing j ≡ false → length row ≡ length standing → length new ≡ length rows → ((v : ℕ) → v < length rows → row_in new v ≡ entered_form i j rows row v) → HasRowsAfter standing i j new
entered_long standing i j rows new row h lj nonbasic long count e = record {
  each_one = count ∙ h.each_one;
  long = λ v l. ap length (e v (rw h.each_one l)) ∙ chosen_long (v == i) (v == j) (row_in rows j) row (row_in rows v) (length standing) (row_length standing v) (h.long j lj ∙ ap (λ (t : Bool). cond t (length standing) 0) nonbasic) long (h.long v l);
}

take_front : {X : Type 0} (out rest : List X) → take (length out) (out ++ rest) ≡ out
take_front [] rest = refl
take_front (x ∷ xs) rest = ap (λ t. x ∷ t) (take_front xs rest)

-- a part that is written back over the whole is the whole
pub written_back : {X : Type 0} (n m : ℕ) (out old : List X) → n ≡ length out → take n (out ++ drop m old) ≡ out
written_back n m out old e = rw e (take_front out (drop m old))
