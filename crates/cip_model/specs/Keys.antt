-- What `Names` is to its callers: the names by their numbers.
use Rattle.std.specs.Prelude.{◌≡◌, ℕ, zero, suc, ◌≤◌, ◌+◌, ◌*◌, nat_lt, ◌&&◌, if◌then◌else◌, List, [], ◌∷◌, length, Option, None, Some, option_map, slice_get, slice_index, slice_range}
use Rattle.std.specs.Cmp.Lexicographic.{slice_cmp}
use Rattle.std.specs.Ordering.{nat_cmp}
use Rattle.std.specs.BTreeMap.{get_by}
use Rattle.cip_problem.specs.Names.{number_of}
use Rattle.cip_model.specs.declared.name_order.Order.{Order}
use Rattle.cip_model.specs.declared.names.Names.TheInside.{Inside}

-- the pieces of a list of bytes that stand one behind another from a start, by the place behind each
abbrev pub pieces_from : ℕ → List ℕ → List ℕ → List (List ℕ)
pieces_from start bytes [] = []
pieces_from start bytes (end ∷ ends) = slice_range bytes start end ∷ pieces_from end bytes ends

-- where the piece of this number starts
abbrev pub start_from : ℕ → List ℕ → ℕ → ℕ
start_from start ends zero = start
start_from start ends (suc k) = slice_index ends k

-- no piece ends before it starts, and the last one ends at `last`
abbrev pub AreRising : ℕ → List ℕ → ℕ → Type 0
AreRising start [] last = start ≡ last
AreRising start (end ∷ ends) last = (start ≤ end) × AreRising end ends last

abbrev pub names_of : Inside → List (List ℕ)
names_of names = pieces_from 0 names.bytes.items names.ends.items

-- a number with bytes behind it; none where one byte more would leave 120 bits
abbrev pub key_from : ℕ → List ℕ → Option ℕ
key_from key [] = Some key
key_from key (byte ∷ bytes) =
    if nat_lt byte 256 && nat_lt key 5192296858534827628530496329220096 then key_from (key * 256 + byte) bytes else None

-- the number that has the bytes of a name and how many they are, where these are at most 15
abbrev pub key_of : List ℕ → Option ℕ
key_of name =
    if nat_lt (length name) 16 then option_map (λ key. key * 16 + length name) (key_from 0 name) else None

-- the number of a name in the order of names
abbrev pub number_by : Option ℕ → Order → List ℕ → Option ℕ
number_by None order name = get_by (λ item. slice_cmp nat_cmp name item.items) order.long
number_by (Some key) order name = get_by (λ item. nat_cmp key item) order.short

abbrev pub number_in : Order → List ℕ → Option ℕ
number_in order name = number_by (key_of name) order name

-- the names fill the bytes, the order has each name with its number, and no name stands twice
pub record AreOrdered (names : Inside) : Type 0 where
  pub rising : AreRising 0 names.ends.items (length names.bytes.items)
  pub found : (name : List ℕ) → number_in names.order name ≡ number_of (names_of names) name
  pub apart : (number : ℕ) (name : List ℕ) → slice_get (names_of names) number ≡ Some name
      → number_of (names_of names) name ≡ Some number
