-- The text of a refusal: which text is faulty, the line of its first fault, and the number and the name of the kind.
--     text_name fault, line_of fault, kind_text fault      the text, the line, and the number and the name of the kind
--     refused_text fault      the text of the refusal
--     RefusalsTell      it determines which text is faulty, the line and the number of the kind
use lib.Chars.{codes}
use Rattle.std.specs.Prelude.{◌≡◌, ℕ, List}
use Rattle.cip_rational.specs.NumberText.{natural_text}
use Rattle.cip_search.specs.Figures.{refusal_text}
use Rattle.cip_input.specs.BlockKindTexts.{kind_number as block_kind_number, kind_text as block_kind_text}
use Rattle.cip_input.specs.PointKindTexts.{kind_number as point_kind_number, kind_text as point_kind_text}
use Rattle.cip_input.specs.Models.{model_kind_number, model_kind_text}
use Rattle.cip_input.specs.declared.refusals.FaultyText.{FaultyText}
use Rattle.cip_input.specs.declared.refusals.FaultyText.TheVariants.{Model, Blocks, Point}

-- ---- a faulty text

-- the word for the text
abbrev pub text_name : FaultyText → List ℕ
text_name (Model fault) = codes "model"
text_name (Blocks fault) = codes "blocks"
text_name (Point fault) = codes "point"

-- the line
abbrev pub line_of : FaultyText → ℕ
line_of (Model fault) = fault.line
line_of (Blocks fault) = fault.line
line_of (Point fault) = fault.line

-- the number of the kind
abbrev pub number_of : FaultyText → ℕ
number_of (Model fault) = model_kind_number fault.kind
number_of (Blocks fault) = block_kind_number fault.kind
number_of (Point fault) = point_kind_number fault.kind

-- the number and the name of the kind
abbrev pub kind_text : FaultyText → List ℕ
kind_text (Model fault) = model_kind_text fault.kind
kind_text (Blocks fault) = block_kind_text (block_kind_number fault.kind)
kind_text (Point fault) = point_kind_text (point_kind_number fault.kind)

-- `status refused`, `text T`, `line L`, `kind K NAME`, `end`
abbrev pub refused_text : FaultyText → List ℕ
refused_text fault = refusal_text (text_name fault) (natural_text (line_of fault)) (kind_text fault)

-- two refusals with one text are of one text, of one line and of one kind
abbrev pub RefusalsTell : Type 0
RefusalsTell =
    (fault other : FaultyText) → refused_text fault ≡ refused_text other
    → (text_name fault ≡ text_name other) × (line_of fault ≡ line_of other) × (number_of fault ≡ number_of other)
