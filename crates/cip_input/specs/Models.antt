-- Texts of models, by their names: a text whose name ends in `.lp` is an LP text, any other one is one of free MPS.
--     HasModel name text program      the text of this name describes this program
--     HasModelFault name text line kind      it has its first fault at this line, of this kind
use lib.Chars.{codes}
use Rattle.std.specs.Prelude.{ℕ, ◌==◌, Bool, true, false, List}
use Rattle.std.specs.List.{ends_with}
use Rattle.cip_problem.specs.Program.{Program}
use Rattle.cip_text_rules.specs.MpsOutcome.{HasProgram, HasFault}
use Rattle.cip_text_rules.specs.LpOutcome.{HasLpProgram, HasLpFault}
use Rattle.cip_mps.specs.MpsKindTexts.{kind_number as mps_kind_number, kind_text as mps_kind_text}
use Rattle.cip_lp.specs.LpKindTexts.{kind_number as lp_kind_number, kind_text as lp_kind_text}
use Rattle.cip_input.specs.declared.model_kinds.ModelKind.{ModelKind}
use Rattle.cip_input.specs.declared.model_kinds.ModelKind.TheVariants.{Mps, Lp}

-- a name ends in `.lp`
abbrev pub is_lp_name : List ℕ → Bool
is_lp_name name = ends_with (λ a b. a == b) name (codes ".lp")

-- an LP text describes a program, or one of free MPS
abbrev pub HasProgramAs : (lp : Bool) → (text : List ℕ) → Program → Type 0
HasProgramAs true text program = HasLpProgram text program
HasProgramAs false text program = HasProgram text program

abbrev pub HasFaultAs : (lp : Bool) → (text : List ℕ) → (line kind : ℕ) → Type 0
HasFaultAs true text line kind = HasLpFault text line kind
HasFaultAs false text line kind = HasFault text line kind

-- so does the text of a name
abbrev pub HasModel : (name text : List ℕ) → Program → Type 0
HasModel name text program = HasProgramAs (is_lp_name name) text program

abbrev pub HasModelFault : (name text : List ℕ) → (line kind : ℕ) → Type 0
HasModelFault name text line kind = HasFaultAs (is_lp_name name) text line kind

-- ---- a kind of fault of a text of a model

-- it is one of an LP text
abbrev pub is_lp_kind : ModelKind → Bool
is_lp_kind (Mps kind) = false
is_lp_kind (Lp kind) = true

-- its number
abbrev pub model_kind_number : ModelKind → ℕ
model_kind_number (Mps kind) = mps_kind_number kind
model_kind_number (Lp kind) = lp_kind_number kind

-- its number and its name, as they are printed
abbrev pub model_kind_text : ModelKind → List ℕ
model_kind_text (Mps kind) = mps_kind_text (mps_kind_number kind)
model_kind_text (Lp kind) = lp_kind_text (lp_kind_number kind)
