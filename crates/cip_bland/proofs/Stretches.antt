-- A stretch of exchanges after which all variables stand as before it: some variable leaves in it and enters in it from
-- where it left to, and no greater one moves. No numbers but those of variables occur here.
use Rattle.std.proofs.Common.{◌≡◌, ℕ, zero, suc, ◌+◌, ◌-◌, ◌<◌, ◌≤◌, Option, None, Some, refl, sym, ap, ◌∙◌, subst, inl, inr, arith, ◌⊎◌}
use Rattle.std.proofs.lemmas.Bool.{cases_eq, cases_lt}
use Rattle.std.proofs.lemmas.Option.{none-some, same_Some}
use Rattle.cip_bland.specs.declared.moves.Stand.{Stand}

-- variable i, which was basic, leaves to there, j enters, and the others stay
pub record IsSwap (count : ℕ) (before after : ℕ → Option Stand) (i j : ℕ) (to : Stand) : Type 0 where
  pub leaving : i < count
  pub entering : j < count
  pub basic : before i ≡ None
  pub left : after i ≡ Some to
  pub where_j_was : Stand
  pub nonbasic : before j ≡ Some where_j_was
  pub entered : after j ≡ None
  pub others : (k : ℕ) → k < count → ¬ (k ≡ i) → ¬ (k ≡ j) → after k ≡ before k

-- the stands at each time, and at each time before `last` the variables of the exchange
module _ (count last : ℕ) (f : ℕ → ℕ → Option Stand) (leaves enters : ℕ → ℕ) (tos : ℕ → Stand) where
  -- a time at which r enters, from there
  pub record EntersFrom (r : ℕ) (at : Stand) : Type 0 where
    pub time : ℕ
    pub early : time < last
    pub is : enters time ≡ r
    pub stood : f time r ≡ Some at

  -- a time at which it leaves, to there
  pub record LeavesTo (r : ℕ) (at : Stand) : Type 0 where
    pub time : ℕ
    pub early : time < last
    pub is : leaves time ≡ r
    pub went : tos time ≡ at

  -- both ways round: a variable that stands somewhere at one time and is basic at another enters from and leaves to one
  -- place, where it is as before at the end
  pub record Turns (r : ℕ) : Type 0 where
    pub place : Stand
    pub exit : LeavesTo r place
    pub entry : EntersFrom r place

  -- at the time named it leaves or enters, and up to that bound no greater one does
  pub record IsGreatest (bound r : ℕ) : Type 0 where
    pub time : ℕ
    pub early : time < bound
    pub moves : (leaves time ≡ r) ⊎ (enters time ≡ r)
    pub leaves_below : (t : ℕ) → t < bound → leaves t ≤ r
    pub enters_below : (t : ℕ) → t < bound → enters t ≤ r

  pub record IsTurn (r : ℕ) : Type 0 where
    pub within : r < count
    pub turns : Turns r
    pub leaves_below : (t : ℕ) → t < last → leaves t ≤ r
    pub enters_below : (t : ℕ) → t < last → enters t ≤ r
    pub stay : (k : ℕ) → r < k → k < count → (t u : ℕ) → t ≤ last → u ≤ last → f t k ≡ f u k

  module _ (swaps : (t : ℕ) → t < last → IsSwap count (f t) (f (suc t)) (leaves t) (enters t) (tos t)) where
    -- a variable that stands somewhere and is basic later enters from there
    enters_later : (r : ℕ) → r < count → (far t : ℕ) (at : Stand) → t + far ≤ last → f t r ≡ Some at → f (t + far) r ≡ None → EntersFrom r at
    enters_later r lr zero t at l e n = let z : t + 0 ≡ t = omega arith in absurd (none-some at (sym n ∙ ap (λ u. f u r) z ∙ e))
    enters_later r lr (suc far) t at l e n =
        let lt : t < last = omega (arith, l) in
        let s = swaps t lt in
        let n' : f (suc t + far) r ≡ None = subst (λ u. f u r ≡ None) (omega arith) n in
        elim (cases_eq (enters t) r) [
          | inl same ↦ record { time = t; early = lt; is = same; stood = e }
          | inr ne ↦
              (let ni : ¬ (r ≡ leaves t) = λ (h : r ≡ leaves t). none-some at (sym s.basic ∙ ap (f t) (sym h) ∙ e) in
              enters_later r lr far (suc t) at (omega (arith, l)) (s.others r lr ni (λ (h : r ≡ enters t). ne (sym h)) ∙ e) n')
        ]

    -- a variable that stands somewhere and was basic before left to there
    left_before : (r : ℕ) → r < count → (far t : ℕ) (at : Stand) → t + far ≤ last → f (t + far) r ≡ Some at → f t r ≡ None → LeavesTo r at
    left_before r lr zero t at l e n = let z : t + 0 ≡ t = omega arith in absurd (none-some at (sym n ∙ sym (ap (λ u. f u r) z) ∙ e))
    left_before r lr (suc far) t at l e n =
        let lt : t + far < last = omega (arith, l) in
        let s = swaps (t + far) lt in
        let e' : f (suc (t + far)) r ≡ Some at = subst (λ u. f u r ≡ Some at) (omega arith) e in
        elim (cases_eq (leaves (t + far)) r) [
          | inl same ↦ record { time = t + far; early = lt; is = same; went = same_Some _ at (sym s.left ∙ ap (f (suc (t + far))) same ∙ e') }
          | inr ne ↦
              (let nj : ¬ (r ≡ enters (t + far)) = λ (h : r ≡ enters (t + far)). none-some at (sym s.entered ∙ ap (f (suc (t + far))) (sym h) ∙ e') in
              left_before r lr far t at (omega (arith, l)) (sym (s.others r lr (λ (h : r ≡ leaves (t + far)). ne (sym h)) nj) ∙ e') n)
        ]

    turns_by : (r : ℕ) → r < count → f 0 r ≡ f last r → (t u : ℕ) (at : Stand) → t ≤ last → u ≤ last → f t r ≡ Some at → f u r ≡ None → (o : Option Stand) → f 0 r ≡ o → Turns r
    turns_by r lr alike t u at lt lu e n None start = record {
      place = at;
      exit = left_before r lr t 0 at (omega (arith, lt)) (subst (λ v. f v r ≡ Some at) (omega arith) e) start;
      entry = enters_later r lr (last - t) t at (omega (arith, lt)) e (subst (λ v. f v r ≡ None) (omega (arith, lt)) (sym alike ∙ start));
    }
    turns_by r lr alike t u at lt lu e n (Some w) start = record {
      place = w;
      exit = left_before r lr (last - u) u w (omega (arith, lu)) (subst (λ v. f v r ≡ Some w) (omega (arith, lu)) (sym alike ∙ start)) n;
      entry = enters_later r lr u 0 w (omega (arith, lu)) start (subst (λ v. f v r ≡ None) (omega arith) n);
    }

    -- ---- the greatest variable that moves

    -- the greater of two, which is one of them
    either : (a b : ℕ) → (r : ℕ) × ((a ≡ r) ⊎ (b ≡ r)) × (a ≤ r) × (b ≤ r)
    either a b =
        elim (cases_lt a b) [
          | inl l ↦ (b, inr refl, omega (arith, l), omega arith)
          | inr g ↦ (a, inl refl, omega arith, g)
        ]

    -- a bound one later
    extend : (bound r : ℕ) → IsGreatest bound r → (m : ℕ) → (leaves bound ≡ m) ⊎ (enters bound ≡ m) → leaves bound ≤ m → enters bound ≤ m → (q : ℕ) × IsGreatest (suc bound) q
    extend bound r g m is l e =
        elim (cases_lt r m) [
          | inl lt ↦ (
            m,
            record {
              time = bound;
              early = omega arith;
              moves = is;
              leaves_below = λ t h. elim (cases_eq t bound) [ inl same ↦ subst (λ u. leaves u ≤ m) (sym same) l | inr ne ↦ omega (arith, g.leaves_below t (omega (arith, h, ne)), lt) ];
              enters_below = λ t h. elim (cases_eq t bound) [ inl same ↦ subst (λ u. enters u ≤ m) (sym same) e | inr ne ↦ omega (arith, g.enters_below t (omega (arith, h, ne)), lt) ];
            },
          )
          | inr ge ↦ (
            r,
            record {
              time = g.time;
              early = omega (arith, g.early);
              moves = g.moves;
              leaves_below = λ t h. elim (cases_eq t bound) [ inl same ↦ subst (λ u. leaves u ≤ r) (sym same) (omega (arith, l, ge)) | inr ne ↦ g.leaves_below t (omega (arith, h, ne)) ];
              enters_below = λ t h. elim (cases_eq t bound) [ inl same ↦ subst (λ u. enters u ≤ r) (sym same) (omega (arith, e, ge)) | inr ne ↦ g.enters_below t (omega (arith, h, ne)) ];
            },
          )
        ]

    greatest : (n : ℕ) → (r : ℕ) × IsGreatest (suc n) r
    greatest zero =
        let m = either (leaves 0) (enters 0) in (
          m.0,
          record {
            time = 0;
            early = omega arith;
            moves = m.1;
            leaves_below = λ t h. (let e : t ≡ 0 = omega (arith, h) in subst (λ u. leaves u ≤ m.0) (sym e) m.2);
            enters_below = λ t h. (let e : t ≡ 0 = omega (arith, h) in subst (λ u. enters u ≤ m.0) (sym e) m.3);
          },
        )
    greatest (suc n) =
        let g = greatest n in
        let m = either (leaves (suc n)) (enters (suc n)) in
        extend (suc n) g.0 g.1 m.0 m.1 m.2 m.3

    -- what is greater stays where it is
    stays_from_start : (r : ℕ) → IsGreatest last r → (k : ℕ) → r < k → k < count → (t : ℕ) → t ≤ last → f t k ≡ f 0 k
    stays_from_start r g k gt lk zero l = refl
    stays_from_start r g k gt lk (suc t) l =
        let s = swaps t (omega (arith, l)) in
        s.others k lk (λ (e : k ≡ leaves t). omega (arith, e, gt, g.leaves_below t (omega (arith, l)))) (λ (e : k ≡ enters t). omega (arith, e, gt, g.enters_below t (omega (arith, l))))
        ∙ stays_from_start r g k gt lk t (omega (arith, l))

    -- ---- the theorem

    turn_by : (r : ℕ) → IsGreatest last r → ((k : ℕ) → k < count → f 0 k ≡ f last k) → (leaves_or_enters : (t : ℕ) → t < last → (leaves t ≡ r) ⊎ (enters t ≡ r) → (r < count) × Turns r) → IsTurn r
    turn_by r g alike by =
        let m = by g.time g.early g.moves in
        record {
          within = m.0;
          turns = m.1;
          leaves_below = g.leaves_below;
          enters_below = g.enters_below;
          stay = λ k gt lk t u lt lu. stays_from_start r g k gt lk t lt ∙ sym (stays_from_start r g k gt lk u lu);
        }

    moved_turns : ((k : ℕ) → k < count → f 0 k ≡ f last k) → (r t : ℕ) → t < last → (leaves t ≡ r) ⊎ (enters t ≡ r) → (r < count) × Turns r
    moved_turns alike r t l (inl e) =
        let s = swaps t l in
        let lr : r < count = subst (λ k. k < count) e s.leaving in
        (lr, turns_by r lr (alike r lr) (suc t) t (tos t) (omega (arith, l)) (omega (arith, l)) (ap (f (suc t)) (sym e) ∙ s.left) (ap (f t) (sym e) ∙ s.basic) (f 0 r) refl)
    moved_turns alike r t l (inr e) =
        let s = swaps t l in
        let lr : r < count = subst (λ k. k < count) e s.entering in
        (lr, turns_by r lr (alike r lr) t (suc t) s.where_j_was (omega (arith, l)) (omega (arith, l)) (ap (f t) (sym e) ∙ s.nonbasic) (ap (f (suc t)) (sym e) ∙ s.entered) (f 0 r) refl)

    pub turn : 0 < last → ((k : ℕ) → k < count → f 0 k ≡ f last k) → (r : ℕ) × IsTurn r
    turn some alike =
        let g = greatest (last - 1) in
        let e : suc (last - 1) ≡ last = omega (arith, some) in
        let g' : IsGreatest last g.0 = subst (λ n. IsGreatest n g.0) e g.1 in
        (g.0, turn_by g.0 g' alike (λ t l m. moved_turns alike g.0 t l m))
