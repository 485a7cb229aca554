-- How the earlier states of a region are kept: for each step what of its column was otherwise.
use Rattle.std.specs.Prelude.{◌<◌, List, [], ◌∷◌, length, Option, None, All}
use Rattle.cip_rational.specs.Rational.{ℚ}
use Rattle.cip_problem.specs.Program.{Sides, Choice, Plain, Open, Off, On as MadeOn}
use Rattle.cip_problem.specs.Box.{sides_at}
use Rattle.cip_problem.specs.Choices.{choice_at}
use Rattle.cip_lin.specs.declared.sides.Side.{Side}
use Rattle.cip_lin.specs.declared.sides.Side.TheVariants.{Low as LowSide, High as HighSide}
use Rattle.cip_domain.specs.declared.stores.Was.{Was}
use Rattle.cip_domain.specs.declared.stores.Was.TheVariants.{Low, High, On, OwnLow, OwnHigh}
use Rattle.cip_domain.specs.declared.stores.Saved.{Saved}
use Rattle.cip_domain.specs.Changes.{Region, with_column}

-- the high one of a choice's own sides, where it is open and has one
abbrev pub own_high : Choice → Option ℚ
own_high Plain = None
own_high (Open own) = own.high
own_high Off = None
own_high MadeOn = None

-- which side it is
abbrev pub kind_of : Side → Was
kind_of LowSide = Low
kind_of HighSide = High

-- its value
abbrev pub value_of : Side → Sides → Option ℚ
value_of LowSide sides = sides.low
value_of HighSide sides = sides.high

-- sides as they were before a step
abbrev pub sides_back : Was → Option ℚ → Sides → Sides
sides_back Low value sides = record { low = value; high = sides.high }
sides_back High value sides = record { low = sides.low; high = value }
sides_back On value sides = sides
sides_back OwnLow value sides = sides
sides_back OwnHigh value sides = sides

-- a choice as it was before a step
abbrev pub choice_back : Was → Option ℚ → Choice → Choice
choice_back Low value choice = choice
choice_back High value choice = choice
choice_back On value choice = MadeOn
choice_back OwnLow value choice = Open (record { low = value; high = own_high choice })
choice_back OwnHigh value choice = Open (record { low = None; high = value })

-- a region with a column put back
abbrev pub undone : Region → Saved → Region
undone region saved =
    with_column region saved.col (sides_back saved.was saved.value (sides_at region.box saved.col))
    (choice_back saved.was saved.value (choice_at region.choices saved.col))

-- a region with all of these put back, the last one first
abbrev pub undone_all : Region → List Saved → Region
undone_all region [] = region
undone_all region (saved ∷ later) = undone (undone_all region later) saved

-- the regions before each of the steps, the oldest first
abbrev pub regions_before : Region → List Saved → List Region
regions_before region [] = []
regions_before region (saved ∷ later) = undone_all region (saved ∷ later) ∷ regions_before region later

-- each column kept is one of the box
abbrev pub StandsIn : List Sides → List Saved → Type 0
StandsIn box trail = All (λ saved. saved.col < length box) trail
