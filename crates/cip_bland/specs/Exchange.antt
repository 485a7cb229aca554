-- The two moves from one state to the next: a basic variable is exchanged with a nonbasic one, and a nonbasic variable
-- is flipped to its other side.
use Rattle.std.specs.Prelude.{◌≡◌, ◌≢◌, ℕ, ◌<◌, ◌==◌, Bool, true, false, ◌||◌, List, [], Option, None, Some, is_some, if◌then◌else◌}
use Rattle.cip_rational.specs.Rational.{ℚ, ◌+ℚ◌, ◌-ℚ◌, ◌*ℚ◌, zeroℚ, negate, inverse}
use Rattle.cip_problem.specs.Box.{sides_at}
use Rattle.cip_bland.specs.Tables.{table}
use Rattle.cip_bland.specs.Dictionary.{Dictionary, size, stand, is_basic, entry, cost_entry, value, standing_value, CanStand}
use Rattle.cip_bland.specs.declared.moves.Stand.{Stand}
use Rattle.cip_bland.specs.declared.moves.Stand.TheVariants.{Low, High, Zero}
use Rattle.cip_bland.specs.declared.moves.Move.{Move}
use Rattle.cip_bland.specs.declared.moves.Move.TheVariants.{Exchange, Flip}

-- ---- rows, where i leaves and j enters, and q is 1 over the entry of i on j

-- whether no entry stands on variable k after the exchange: it is basic and stays so, or enters. (i, which leaves, is
-- asked for before.)
abbrev pub is_absent : (ℕ → Bool) → ℕ → ℕ → Bool
is_absent basic j k = basic k || (k == j)

-- an entry of the row of i solved for j: q on the variable that leaves, and else that of i, a, divided and negated
abbrev pub solved_at : Bool → Bool → ℚ → ℚ → ℚ
solved_at true absent q a = q
solved_at false true q a = zeroℚ
solved_at false false q a = negate a *ℚ q

-- the row of i solved for j
abbrev pub solved : (ℕ → Bool) → ℕ → ℕ → ℚ → (ℕ → ℚ) → ℕ → ℚ
solved basic i j q row k = solved_at (k == i) (is_absent basic j k) q (row k)

-- an entry a of another row, with b on the entering variable, in whose row c stands at that place
abbrev pub substituted_at : Bool → Bool → ℚ → ℚ → ℚ → ℚ → ℚ
substituted_at true absent q a b c = b *ℚ q
substituted_at false true q a b c = zeroℚ
substituted_at false false q a b c = a +ℚ b *ℚ c

-- another row, with the row of the entering variable put in its place
abbrev pub substituted : (ℕ → Bool) → ℕ → ℕ → ℚ → (ℕ → ℚ) → (ℕ → ℚ) → ℕ → ℚ
substituted basic i j q new row k = substituted_at (k == i) (is_absent basic j k) q (row k) (row j) (new k)

-- ---- values

-- the value of a variable after j has moved by t: its own moves by t, and that of a basic one by its entry times t
abbrev pub moved_at : Bool → Bool → ℚ → ℚ → ℚ → ℚ
moved_at true basic t v a = v +ℚ t
moved_at false true t v a = v +ℚ a *ℚ t
moved_at false false t v a = v

abbrev pub moved : Dictionary → ℕ → ℚ → ℕ → ℚ
moved d j t v = moved_at (v == j) (is_basic d v) t (value d v) (entry d v j)

-- the cost after j has moved by t
abbrev pub moved_cost : Dictionary → ℕ → ℚ → ℚ
moved_cost d j t = d.cost +ℚ cost_entry d j *ℚ t

-- ---- the exchange

-- 1 over the entry of i on j
abbrev pub pivot : Dictionary → ℕ → ℕ → ℚ
pivot d i j = inverse (entry d i j)

-- the row of the variable j that enters
abbrev pub entering : Dictionary → ℕ → ℕ → ℕ → ℚ
entering d i j = solved (is_basic d) i j (pivot d i j) (entry d i)

-- another row, after the exchange
abbrev pub exchanged_row : Dictionary → ℕ → ℕ → (ℕ → ℚ) → ℕ → ℚ
exchanged_row d i j = substituted (is_basic d) i j (pivot d i j) (entering d i j)

-- how far i is from where it then stands
abbrev pub distance : Dictionary → ℕ → Stand → ℚ
distance d i to = standing_value (sides_at d.sides i) to -ℚ value d i

-- by how much j moves until i is where it then stands
abbrev pub step : Dictionary → ℕ → ℕ → Stand → ℚ
step d i j to = distance d i to *ℚ pivot d i j

-- where a variable stands after the exchange
abbrev pub exchanged_stand : Bool → Bool → Stand → Option Stand → Option Stand
exchanged_stand true enters to before = Some to
exchanged_stand false true to before = None
exchanged_stand false false to before = before

-- the row of a variable after the exchange: of the one that enters, and of the other basic ones
abbrev pub exchanged_rows : Dictionary → ℕ → ℕ → ℕ → List ℚ
exchanged_rows d i j v =
    if v == i then [] else
    (if v == j then table (size d) (entering d i j)
    else (if is_basic d v then table (size d) (exchanged_row d i j (entry d v)) else []))

-- i leaves to `to`, and j enters
unfoldable pub exchanged : Dictionary → ℕ → ℕ → Stand → Dictionary
exchanged d i j to = record {
  sides = d.sides;
  standing = table (size d) (λ v. exchanged_stand (v == i) (v == j) to (stand d v));
  rows = table (size d) (exchanged_rows d i j);
  costs = table (size d) (exchanged_row d i j (cost_entry d));
  values = table (size d) (moved d j (step d i j to));
  cost = moved_cost d j (step d i j to);
}

-- a basic variable can leave to there, and a nonbasic one enter for it: the entry is not 0
pub record CanExchange (d : Dictionary) (i j : ℕ) (to : Stand) : Type 0 where
  pub leaving : i < size d
  pub basic : is_basic d i ≡ true
  pub entering : j < size d
  pub nonbasic : is_basic d j ≡ false
  pub nonzero : entry d i j ≢ zeroℚ
  pub can_stand : CanStand (sides_at d.sides i) to

-- ---- the flip

-- the other side
abbrev pub other_stand : Option Stand → Stand
other_stand None = Zero
other_stand (Some Low) = High
other_stand (Some High) = Low
other_stand (Some Zero) = Zero

-- the way of j to its other side
abbrev pub way : Dictionary → ℕ → ℚ
way d j = standing_value (sides_at d.sides j) (other_stand (stand d j)) -ℚ value d j

-- where a variable stands after the flip of j
abbrev pub flipped_stand : Bool → Option Stand → Option Stand
flipped_stand true before = Some (other_stand before)
flipped_stand false before = before

-- j goes to its other side
unfoldable pub flipped : Dictionary → ℕ → Dictionary
flipped d j = record {
  sides = d.sides;
  standing = table (size d) (λ v. flipped_stand (v == j) (stand d v));
  rows = d.rows;
  costs = d.costs;
  values = table (size d) (moved d j (way d j));
  cost = moved_cost d j (way d j);
}

-- a variable is nonbasic and has two sides
pub record CanFlip (d : Dictionary) (j : ℕ) : Type 0 where
  pub within : j < size d
  pub nonbasic : is_basic d j ≡ false
  pub low : is_some (sides_at d.sides j).low ≡ true
  pub high : is_some (sides_at d.sides j).high ≡ true

-- ---- moves

-- the state after a move
abbrev pub after : Dictionary → Move → Dictionary
after d (Exchange i j to) = exchanged d i j to
after d (Flip j) = flipped d j

-- a move can be made
abbrev pub CanMove : Dictionary → Move → Type 0
CanMove d (Exchange i j to) = CanExchange d i j to
CanMove d (Flip j) = CanFlip d j
