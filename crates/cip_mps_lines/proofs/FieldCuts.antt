-- The first six words of a line tell what it says.
use Rattle.std.proofs.Common.{◌≡◌, ℕ, ◌<◌, ◌≤◌, Bool, true, false, if◌then◌else◌, List, [], ◌∷◌, ◌++◌, length, take, Option, None, Some, refl, sym, ap, arith}
use Rattle.std.proofs.lemmas.List.{take_all, take_at, append-nil}
use Rattle.cip_text_rules.specs.MpsWords.{Part, NoPart, Title, Sense, Rows, Columns, RightSides, Ranges, Bounds, End, BoundKind, bound_kind_of, has_value}
use Rattle.cip_text_rules.specs.MpsSayings.{LinePlace, Misplaced, Miscounted, sense_said, row_said, column_said, right_side_said, range_said, bound_said, typed_bound, valued_bound, plain_bound, fields_said}

-- all words, where they are six at most
pub all_words : (kept rest fields : List (List ℕ)) → kept ++ rest ≡ fields → rest ≡ [] → length kept ≤ 6 → kept ≡ take 6 fields
all_words kept rest fields joined none few = rw (← joined, none, append-nil kept) (sym (take_all 6 kept few))

-- the first six
pub six_words : (kept rest fields : List (List ℕ)) → kept ++ rest ≡ fields → length kept ≡ 6 → kept ≡ take 6 fields
six_words kept rest fields joined six = rw (← joined) (sym (take_at kept rest 6 six))

-- ---- lines of COLUMNS with a wrong number of words

pub column_few : (whole : Bool) (words : List (List ℕ)) → length words < 3 → Miscounted ≡ column_said whole words
column_few whole [] h = refl
column_few whole (a ∷ []) h = refl
column_few whole (a ∷ b ∷ []) h = refl
column_few whole (a ∷ b ∷ c ∷ words) h = absurd (omega arith)

pub column_four : (whole : Bool) (words : List (List ℕ)) → 4 ≤ length words → length words < 5 → Miscounted ≡ column_said whole words
column_four whole [] h k = refl
column_four whole (a ∷ []) h k = refl
column_four whole (a ∷ b ∷ []) h k = refl
column_four whole (a ∷ b ∷ c ∷ []) h k = absurd (omega arith)
column_four whole (a ∷ b ∷ c ∷ d ∷ []) h k = refl
column_four whole (a ∷ b ∷ c ∷ d ∷ e ∷ words) h k = absurd (omega arith)

pub column_many : (whole : Bool) (words : List (List ℕ)) → 6 ≤ length words → Miscounted ≡ column_said whole words
column_many whole [] h = refl
column_many whole (a ∷ []) h = refl
column_many whole (a ∷ b ∷ []) h = refl
column_many whole (a ∷ b ∷ c ∷ []) h = absurd (omega arith)
column_many whole (a ∷ b ∷ c ∷ d ∷ []) h = refl
column_many whole (a ∷ b ∷ c ∷ d ∷ e ∷ []) h = absurd (omega arith)
column_many whole (a ∷ b ∷ c ∷ d ∷ e ∷ f ∷ words) h = refl

-- ---- six words tell what all do

pub sense_first : (words : List (List ℕ)) → sense_said (take 6 words) ≡ sense_said words
sense_first [] = refl
sense_first (a ∷ []) = refl
sense_first (a ∷ b ∷ words) = refl

pub row_first : (words : List (List ℕ)) → row_said (take 6 words) ≡ row_said words
row_first [] = refl
row_first (a ∷ []) = refl
row_first (a ∷ b ∷ []) = refl
row_first (a ∷ b ∷ c ∷ words) = refl

pub column_first : (whole : Bool) (words : List (List ℕ)) → column_said whole (take 6 words) ≡ column_said whole words
column_first whole [] = refl
column_first whole (a ∷ []) = refl
column_first whole (a ∷ b ∷ []) = refl
column_first whole (a ∷ b ∷ c ∷ []) = refl
column_first whole (a ∷ b ∷ c ∷ d ∷ []) = refl
column_first whole (a ∷ b ∷ c ∷ d ∷ e ∷ []) = refl
column_first whole (a ∷ b ∷ c ∷ d ∷ e ∷ f ∷ words) = refl

pub right_side_first : (first : Option (List ℕ)) (words : List (List ℕ)) → right_side_said first (take 6 words) ≡ right_side_said first words
right_side_first first [] = refl
right_side_first first (a ∷ []) = refl
right_side_first first (a ∷ b ∷ []) = refl
right_side_first first (a ∷ b ∷ c ∷ []) = refl
right_side_first first (a ∷ b ∷ c ∷ d ∷ []) = refl
right_side_first first (a ∷ b ∷ c ∷ d ∷ e ∷ []) = refl
right_side_first first (a ∷ b ∷ c ∷ d ∷ e ∷ f ∷ words) = refl

pub range_first : (first : Option (List ℕ)) (words : List (List ℕ)) → range_said first (take 6 words) ≡ range_said first words
range_first first [] = refl
range_first first (a ∷ []) = refl
range_first first (a ∷ b ∷ []) = refl
range_first first (a ∷ b ∷ c ∷ []) = refl
range_first first (a ∷ b ∷ c ∷ d ∷ []) = refl
range_first first (a ∷ b ∷ c ∷ d ∷ e ∷ []) = refl
range_first first (a ∷ b ∷ c ∷ d ∷ e ∷ f ∷ words) = refl

pub bound_first : (first : Option (List ℕ)) (words : List (List ℕ)) → bound_said first (take 6 words) ≡ bound_said first words
bound_first first [] = refl
bound_first first (a ∷ []) = refl
bound_first first (a ∷ b ∷ []) = refl
bound_first first (a ∷ b ∷ c ∷ []) = refl
bound_first first (a ∷ b ∷ c ∷ d ∷ []) = refl
bound_first first (a ∷ b ∷ c ∷ d ∷ e ∷ []) = refl
bound_first first (kind ∷ b ∷ c ∷ d ∷ e ∷ f ∷ words) = typed (bound_kind_of kind)
  where
    plain : (k : BoundKind) (valued : Bool) → (if valued then valued_bound first k (b ∷ c ∷ d ∷ e ∷ f ∷ []) else plain_bound first k (b ∷ c ∷ d ∷ e ∷ f ∷ [])) ≡ (if valued then valued_bound first k (b ∷ c ∷ d ∷ e ∷ f ∷ words) else plain_bound first k (b ∷ c ∷ d ∷ e ∷ f ∷ words))
    plain k true = refl
    plain k false = refl

    typed : (k : Option BoundKind) → typed_bound first k (b ∷ c ∷ d ∷ e ∷ f ∷ []) ≡ typed_bound first k (b ∷ c ∷ d ∷ e ∷ f ∷ words)
    typed None = refl
    typed (Some k) = plain k (has_value k)

-- in any section
pub fields_first : (part : Part) (place : LinePlace) (words : List (List ℕ)) → fields_said part place (take 6 words) ≡ fields_said part place words
fields_first NoPart place words = refl
fields_first Title place words = refl
fields_first Sense place words = ap (λ saying. if place.sensed then Misplaced else saying) (sense_first words)
fields_first Rows place words = row_first words
fields_first Columns place words = column_first place.whole words
fields_first RightSides place words = right_side_first place.set_name words
fields_first Ranges place words = range_first place.set_name words
fields_first Bounds place words = bound_first place.set_name words
fields_first End place words = refl
