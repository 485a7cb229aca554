-- Looking a name up in files, and the text at an index.
use Rattle.std.proofs.Common.{◌≡◌, ◌<◌, ◌≤◌, ℕ, zero, suc, List, [], ◌∷◌, true, length, get_or, drop, refl, arith, Some}
use Rattle.std.specs.Prelude.{string_bytes}
use Rattle.std.specs.Str.{bytes_eq}
use Rattle.cip_io.specs.declared.shelf.File.{File}
use Rattle.cip_io.specs.Texts.{held, text_at}
use Rattle.cip_io.specs.Shelf.{named}

-- a file that has the name, and stands first from its index on, gives the name its text
pub held_here : (files : List File) (name : List ℕ) (i : ℕ) (file : File) → i < length files → file ≡ get_or files i file → bytes_eq (string_bytes file.name) name ≡ true → held (named (drop i files)) name ≡ Some (text_at (named files) i)
held_here [] name i file within is same = absurd (omega arith)
held_here (f ∷ files) name zero file within is same = let e : bytes_eq (string_bytes f.name) name ≡ true = rw (← is) same in rw e refl
held_here (f ∷ files) name (suc i) file within is same = held_here files name i file (omega arith) is same

-- the bytes that are read at an index are the text there
pub text_at_read : (files : List File) (i : ℕ) (file : File) (bytes : List ℕ) → i < length files → bytes ≡ (get_or files i file).text.items → bytes ≡ text_at (named files) i
text_at_read [] i file bytes within read = absurd (omega arith)
text_at_read (f ∷ files) zero file bytes within read = read
text_at_read (f ∷ files) (suc i) file bytes within read = text_at_read files i file bytes (omega arith) read

pub text_at-past : (files : List File) (i : ℕ) → length files ≤ i → text_at (named files) i ≡ []
text_at-past [] i past = refl
text_at-past (f ∷ files) zero past = absurd (omega arith)
text_at-past (f ∷ files) (suc i) past = text_at-past files i (omega arith)
