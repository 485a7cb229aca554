-- The lines of a leaf, of its values and of its choices, up to a column and past it.
use Rattle.std.proofs.Common.{◌≡◌, ℕ, zero, suc, ◌+◌, ◌<◌, ◌≤◌, Bool, true, false, List, [], ◌∷◌, ◌++◌, length, map, take, drop, get_or, Some, refl, sym, ap, ◌∙◌, subst, arith, add-one, append_assoc, append-nil, length-append}
use lib.Chars.{codes}
use Rattle.std.specs.Prelude.{slice_get}
use Rattle.std.proofs.lemmas.List.{length-map, take_all}
use Rattle.std.proofs.lemmas.Option.{none-some, same_Some}
use Rattle.cip_rational.specs.Rational.{ℚ}
use Rattle.cip_rational.specs.NumberText.{fraction_text}
use Rattle.cip_search.specs.Leaf.{at_wholes}
use Rattle.cip_problem.specs.Program.{Choice}
use Rattle.cip_problem.specs.Choices.{choice_at, is_open}
use Rattle.cip_search.specs.Figures.{line, point_lines, leaf_name, choice_text, choice_lines}
use Rattle.cip_io.specs.Sink.{SinkTells}
use Rattle.cip_report.specs.Writing.{Passes}
use Rattle.cip_report.proofs.WritingLemmas.{Passes-more}

-- one more whole column
pub wholes_more : (whole : List Bool) (names : List (List ℕ)) (n : ℕ) (name : List ℕ) → n < length whole → get_or whole n false ≡ true → slice_get names n ≡ Some name → at_wholes (take (suc n) whole) (take (suc n) names) ≡ at_wholes (take n whole) (take n names) ++ name ∷ []
wholes_more [] names n name l e f = absurd (omega (arith, l))
wholes_more (w ∷ ws) [] n name l e f = absurd (none-some name f)
wholes_more (true ∷ ws) (x ∷ xs) zero name l e f = ap (λ t. t ∷ []) (same_Some x name f)
wholes_more (false ∷ ws) (x ∷ xs) zero name l e f = absurd (cc)
wholes_more (true ∷ ws) (x ∷ xs) (suc n) name l e f = ap (λ t. x ∷ t) (wholes_more ws xs n name (omega (arith, l)) e f)
wholes_more (false ∷ ws) (x ∷ xs) (suc n) name l e f = wholes_more ws xs n name (omega (arith, l)) e f

-- one more continuous column
pub wholes_same : (whole : List Bool) (names : List (List ℕ)) (n : ℕ) → n < length whole → get_or whole n false ≡ false → at_wholes (take (suc n) whole) (take (suc n) names) ≡ at_wholes (take n whole) (take n names)
wholes_same [] names n l e = absurd (omega (arith, l))
wholes_same (w ∷ ws) [] zero l e = refl
wholes_same (w ∷ ws) [] (suc n) l e = refl
wholes_same (true ∷ ws) (x ∷ xs) zero l e = absurd (cc)
wholes_same (false ∷ ws) (x ∷ xs) zero l e = refl
wholes_same (true ∷ ws) (x ∷ xs) (suc n) l e = ap (λ t. x ∷ t) (wholes_same ws xs n (omega (arith, l)) e)
wholes_same (false ∷ ws) (x ∷ xs) (suc n) l e = wholes_same ws xs n (omega (arith, l)) e

-- the names of the whole columns, around one
pub wholes_parts : (whole : List Bool) (names : List (List ℕ)) (n : ℕ) (name : List ℕ) → n < length whole → get_or whole n false ≡ true → slice_get names n ≡ Some name → at_wholes whole names ≡ at_wholes (take n whole) (take n names) ++ name ∷ at_wholes (drop (suc n) whole) (drop (suc n) names)
wholes_parts [] names n name l e f = absurd (omega (arith, l))
wholes_parts (w ∷ ws) [] n name l e f = absurd (none-some name f)
wholes_parts (true ∷ ws) (x ∷ xs) zero name l e f = ap (λ t. t ∷ at_wholes ws xs) (same_Some x name f)
wholes_parts (false ∷ ws) (x ∷ xs) zero name l e f = absurd (cc)
wholes_parts (true ∷ ws) (x ∷ xs) (suc n) name l e f = ap (λ t. x ∷ t) (wholes_parts ws xs n name (omega (arith, l)) e f)
wholes_parts (false ∷ ws) (x ∷ xs) (suc n) name l e f = wholes_parts ws xs n name (omega (arith, l)) e f

-- there is an item for one more column
pub place_below : {Item : Type 0} (whole : List Bool) (names : List (List ℕ)) (n : ℕ) (name : List ℕ) (place : ℕ) (items : List Item) → n < length whole → get_or whole n false ≡ true → slice_get names n ≡ Some name → place ≡ length (at_wholes (take n whole) (take n names)) → length items ≡ length (at_wholes whole names) → place < length items
place_below whole names n name place items l e f p q =
    let parts = ap length (wholes_parts whole names n name l e f) in
    let long = length-append (at_wholes (take n whole) (take n names)) (name ∷ at_wholes (drop (suc n) whole) (drop (suc n) names)) in
    omega (arith, p, q, parts, long)

-- ---- lines of items

-- a line for each item: its name and its text
pub record AreLines {Item : Type 0} (text : Item → List ℕ) (lines : List (List ℕ) → List Item → List ℕ) : Type 0 where
  pub none : (items : List Item) → lines [] items ≡ []
  pub more : (name : List ℕ) (names : List (List ℕ)) (item : Item) (items : List Item) → lines (name ∷ names) (item ∷ items) ≡ line (leaf_name name) (text item) ++ lines names items

-- so are those of the values and of the choices of a leaf
abbrev pub value_lines : List (List ℕ) → List ℚ → List ℕ
value_lines names values = point_lines (map leaf_name names) values

abbrev pub on_lines : List (List ℕ) → List Bool → List ℕ
on_lines names on = choice_lines (map leaf_name names) on

pub values_are_lines : AreLines fraction_text value_lines
values_are_lines = record { none = λ items. refl; more = λ name names item items. refl }

pub choices_are_lines : AreLines choice_text on_lines
choices_are_lines = record { none = λ items. refl; more = λ name names item items. refl }

module _ {Item : Type 0} (text : Item → List ℕ) (lines : List (List ℕ) → List Item → List ℕ) (are : AreLines text lines) where
  -- the lines up to a name
  leaf_more : (before : List (List ℕ)) (name : List ℕ) (items : List Item) (item : Item) → length before < length items → item ≡ get_or items (length before) item → lines (before ++ name ∷ []) (take (suc (length before)) items) ≡ lines before (take (length before) items) ++ line (leaf_name name) (text item)
  leaf_more before name [] item l e = absurd (omega (arith, l))
  leaf_more [] name (v ∷ vs) item l e =
      are.more name [] v (take zero vs) ∙ ap (λ t. line (leaf_name name) (text v) ++ t) (are.none (take zero vs)) ∙ append-nil (line (leaf_name name) (text v))
      ∙ ap (λ i. line (leaf_name name) (text i)) (sym e) ∙ sym (ap (λ t. t ++ line (leaf_name name) (text item)) (are.none (take zero (v ∷ vs))))
  leaf_more (b ∷ bs) name (v ∷ vs) item l e =
      are.more b (bs ++ name ∷ []) v (take (suc (length bs)) vs)
      ∙ ap (λ t. line (leaf_name b) (text v) ++ t) (leaf_more bs name vs item (omega (arith, l)) e)
      ∙ sym (append_assoc (line (leaf_name b) (text v)) (lines bs (take (length bs) vs)) (line (leaf_name name) (text item)))
      ∙ sym (ap (λ t. t ++ line (leaf_name name) (text item)) (are.more b bs v (take (length bs) vs)))

  -- the lines around a name
  leaf_parts : (before after : List (List ℕ)) (name : List ℕ) (items : List Item) (item : Item) → length before < length items → item ≡ get_or items (length before) item → lines (before ++ name ∷ after) items ≡ lines before (take (length before) items) ++ (line (leaf_name name) (text item) ++ lines after (drop (suc (length before)) items))
  leaf_parts before after name [] item l e = absurd (omega (arith, l))
  leaf_parts [] after name (v ∷ vs) item l e =
      are.more name after v vs ∙ ap (λ i. line (leaf_name name) (text i) ++ lines after vs) (sym e)
      ∙ sym (ap (λ t. t ++ (line (leaf_name name) (text item) ++ lines after vs)) (are.none (take zero (v ∷ vs))))
  leaf_parts (b ∷ bs) after name (v ∷ vs) item l e =
      are.more b (bs ++ name ∷ after) v vs
      ∙ ap (λ t. line (leaf_name b) (text v) ++ t) (leaf_parts bs after name vs item (omega (arith, l)) e)
      ∙ sym (append_assoc (line (leaf_name b) (text v)) (lines bs (take (length bs) vs)) (line (leaf_name name) (text item) ++ lines after (drop (suc (length bs)) vs)))
      ∙ sym (ap (λ t. t ++ (line (leaf_name name) (text item) ++ lines after (drop (suc (length bs)) vs))) (are.more b bs v (take (length bs) vs)))

  -- the lines around a column that has one
  pub lines_around : (whole : List Bool) (names : List (List ℕ)) (n : ℕ) (name : List ℕ) (place : ℕ) (items : List Item) (item : Item) → n < length whole → get_or whole n false ≡ true → slice_get names n ≡ Some name → place ≡ length (at_wholes (take n whole) (take n names)) → place < length items → item ≡ get_or items place item → lines (at_wholes whole names) items ≡ lines (at_wholes (take n whole) (take n names)) (take place items) ++ (line (leaf_name name) (text item) ++ lines (at_wholes (drop (suc n) whole) (drop (suc n) names)) (drop (suc place) items))
  lines_around whole names n name place items item l e f p q v =
      let before = at_wholes (take n whole) (take n names) in
      let after = at_wholes (drop (suc n) whole) (drop (suc n) names) in
      ap (λ t. lines t items) (wholes_parts whole names n name l e f)
      ∙ subst (λ k. lines (before ++ name ∷ after) items ≡ lines before (take k items) ++ (line (leaf_name name) (text item) ++ lines after (drop (suc k) items))) (sym p)
      (leaf_parts before after name items item (omega (arith, p, q)) (v ∙ ap (λ k. get_or items k item) p))

  -- the lines up to a column that has one
  pub lines_more : (whole : List Bool) (names : List (List ℕ)) (n : ℕ) (name : List ℕ) (place : ℕ) (items : List Item) (item : Item) → n < length whole → get_or whole n false ≡ true → slice_get names n ≡ Some name → place ≡ length (at_wholes (take n whole) (take n names)) → place < length items → item ≡ get_or items place item → lines (at_wholes (take (suc n) whole) (take (suc n) names)) (take (suc place) items) ≡ lines (at_wholes (take n whole) (take n names)) (take place items) ++ line (leaf_name name) (text item)
  lines_more whole names n name place items item l e f p q v =
      let before = at_wholes (take n whole) (take n names) in
      ap (λ t. lines t (take (suc place) items)) (wholes_more whole names n name l e f)
      ∙ subst (λ k. lines (before ++ name ∷ []) (take (suc k) items) ≡ lines before (take k items) ++ line (leaf_name name) (text item)) (sym p)
      (leaf_more before name items item (omega (arith, p, q)) (v ∙ ap (λ k. get_or items k item) p))

  -- a line more was written
  pub step_passes : {O : Type 0} (tells : O → SinkTells) (start : SinkTells) (at out new : O) (front held kept buffered shown : List ℕ) (whole : List Bool) (names : List (List ℕ)) (n : ℕ) (name : List ℕ) (place next : ℕ) (items : List Item) (item : Item) → n < length whole → get_or whole n false ≡ true → slice_get names n ≡ Some name → place ≡ length (at_wholes (take n whole) (take n names)) → place < length items → item ≡ get_or items place item → new ≡ out → kept ≡ buffered → next ≡ place + 1 → shown ≡ text item → Passes start (tells at) (front ++ lines (at_wholes (take n whole) (take n names)) (take place items)) held → Passes (tells at) (tells out) (held ++ line (leaf_name name) shown) buffered → Passes start (tells new) (front ++ lines (at_wholes (take (n + 1) whole) (take (n + 1) names)) (take next items)) kept
  step_passes tells start at out new front held kept buffered shown whole names n name place next items item l e f p q v o b x s old step =
      rw (o, b, x, add-one, add-one, lines_more whole names n name place items item l e f p q v, ← append_assoc front (lines (at_wholes (take n whole) (take n names)) (take place items)) (line (leaf_name name) (text item)))
      (Passes-more start (tells at) (tells out) _ held (line (leaf_name name) (text item)) buffered old (subst (λ t. Passes (tells at) (tells out) (held ++ line (leaf_name name) t) buffered) s step))

  -- none was, of a column without one
  pub same_passes : {O : Type 0} (tells : O → SinkTells) (start : SinkTells) (at new : O) (front held kept : List ℕ) (whole : List Bool) (names : List (List ℕ)) (n place next : ℕ) (items : List Item) → n < length whole → get_or whole n false ≡ false → new ≡ at → kept ≡ held → next ≡ place → Passes start (tells at) (front ++ lines (at_wholes (take n whole) (take n names)) (take place items)) held → Passes start (tells new) (front ++ lines (at_wholes (take (n + 1) whole) (take (n + 1) names)) (take next items)) kept
  same_passes tells start at new front held kept whole names n place next items l e o b x old =
      rw (o, b, x, add-one, wholes_same whole names n l e) old

pub place_more : (whole : List Bool) (names : List (List ℕ)) (n : ℕ) (name : List ℕ) (place : ℕ) → n < length whole → get_or whole n false ≡ true → slice_get names n ≡ Some name → place ≡ length (at_wholes (take n whole) (take n names)) → suc place ≡ length (at_wholes (take (suc n) whole) (take (suc n) names))
place_more whole names n name place l e f p =
    let parts = ap length (wholes_more whole names n name l e f) in
    let long = length-append (at_wholes (take n whole) (take n names)) (name ∷ []) in
    omega (arith, p, parts, long)

-- ---- columns whose choice is open

-- whether a choice is open, as one of the flags
flag_is : (choices : List Choice) (n : ℕ) (other : Choice) → n < length choices → get_or (map is_open choices) n false ≡ is_open (get_or choices n other)
flag_is [] n other l = absurd (omega (arith, l))
flag_is (c ∷ cs) zero other l = refl
flag_is (c ∷ cs) (suc n) other l = flag_is cs n other (omega (arith, l))

pub open_flag : (choices : List Choice) (n : ℕ) (choice : Choice) (open_ : Bool) → n < length choices → choice ≡ get_or choices n choice → open_ ≡ is_open choice → get_or (map is_open choices) n false ≡ open_
open_flag choices n choice open_ l e f = flag_is choices n choice l ∙ ap is_open (sym e) ∙ sym f

-- the names of columns past the flags are left out
flags_end : (flags : List Bool) (names : List (List ℕ)) (n : ℕ) → length flags ≤ n → at_wholes (take n flags) (take n names) ≡ at_wholes flags names
flags_end [] names zero l = refl
flags_end [] names (suc n) l = refl
flags_end (f ∷ fs) names zero l = absurd (omega (arith, l))
flags_end (f ∷ fs) [] (suc n) l = refl
flags_end (true ∷ fs) (x ∷ xs) (suc n) l = ap (λ t. x ∷ t) (flags_end fs xs n (omega (arith, l)))
flags_end (false ∷ fs) (x ∷ xs) (suc n) l = flags_end fs xs n (omega (arith, l))

-- past the last choice all lines have been written
pub all_lines : (choices : List Choice) (names : List (List ℕ)) (on : List Bool) (n place : ℕ) → length choices ≤ n → length on ≡ length (at_wholes (map is_open choices) names) → place ≡ length (at_wholes (take n (map is_open choices)) (take n names)) → on_lines (at_wholes (take n (map is_open choices)) (take n names)) (take place on) ≡ on_lines (at_wholes (map is_open choices) names) on
all_lines choices names on n place l e p =
    let end = flags_end (map is_open choices) names n (subst (λ k. k ≤ n) (sym (length-map choices is_open)) l) in
    let all : length on ≤ place = omega (arith, e, p, ap length end) in
    ap (λ t. on_lines t (take place on)) end ∙ ap (on_lines (at_wholes (map is_open choices) names)) (take_all place on all)

pub few_flags : (choices : List Choice) (n : ℕ) → n < length choices → n < length (map is_open choices)
few_flags choices n l = subst (λ k. n < k) (sym (length-map choices is_open)) l

-- an open choice at a column
pub open_at : (choices : List Choice) (n : ℕ) (choice : Choice) (open_ : Bool) → n < length choices → choice ≡ get_or choices n choice → open_ ≡ is_open choice → open_ ≡ true → is_open (choice_at choices n) ≡ true
open_at [] n choice open_ l e f t = absurd (omega (arith, l))
open_at (c ∷ cs) zero choice open_ l e f t = ap is_open (sym e) ∙ sym f ∙ t
open_at (c ∷ cs) (suc n) choice open_ l e f t = open_at cs n choice open_ (omega (arith, l)) e f t

pub step_placed : (whole : List Bool) (names : List (List ℕ)) (n : ℕ) (name : List ℕ) (place next : ℕ) → n < length whole → get_or whole n false ≡ true → slice_get names n ≡ Some name → next ≡ place + 1 → place ≡ length (at_wholes (take n whole) (take n names)) → next ≡ length (at_wholes (take (n + 1) whole) (take (n + 1) names))
step_placed whole names n name place next l e f x p = rw (x, add-one, add-one) (place_more whole names n name place l e f p)

pub same_placed : (whole : List Bool) (names : List (List ℕ)) (n place next : ℕ) → n < length whole → get_or whole n false ≡ false → next ≡ place → place ≡ length (at_wholes (take n whole) (take n names)) → next ≡ length (at_wholes (take (n + 1) whole) (take (n + 1) names))
same_placed whole names n place next l e x p = rw (x, add-one, wholes_same whole names n l e) p

-- ---- the lines of what is lent

pub value_lines_as : (whole whole' : List Bool) (names names' : List (List ℕ)) (leaf leaf' : List ℚ) → whole ≡ whole' → names ≡ names' → leaf ≡ leaf' → value_lines (at_wholes whole names) leaf ≡ value_lines (at_wholes whole' names') leaf'
value_lines_as whole whole' names names' leaf leaf' w n l = rw (w, n, l) refl

pub on_lines_as : (choices choices' : List Choice) (names names' : List (List ℕ)) (on on' : List Bool) → choices ≡ choices' → names ≡ names' → on ≡ on' → on_lines (at_wholes (map is_open choices) names) on ≡ on_lines (at_wholes (map is_open choices') names') on'
on_lines_as choices choices' names names' on on' k n o = rw (k, n, o) refl

pub ray_lines_as : (names names' : List (List ℕ)) (ray ray' : List ℚ) → names ≡ names' → ray ≡ ray' → point_lines (map (λ (name : List ℕ). codes "ray " ++ name) names) ray ≡ point_lines (map (λ (name : List ℕ). codes "ray " ++ name) names') ray'
ray_lines_as names names' ray ray' n r = rw (n, r) refl
