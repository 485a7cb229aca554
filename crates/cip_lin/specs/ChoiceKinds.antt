-- A choice of the code as one of the definitions, and back.
use Rattle.std.specs.Prelude.{◌≡◌, refl}
use Rattle.std.proofs.Common.{ap}
use Rattle.cip_problem.specs.Program.{Choice, Plain, Open, Off, On}
use Rattle.cip_lin.specs.declared.choices.Kind.{Kind}
use Rattle.cip_lin.specs.declared.choices.Kind.TheVariants.{Plain as PlainKind, Open as OpenKind, Off as OffKind, On as OnKind}
use Rattle.cip_lin.specs.declared.choices.Choice.TheInside.{Inside}

abbrev pub choice_of : Kind → Choice
choice_of PlainKind = Plain
choice_of (OpenKind own) = Open own
choice_of OffKind = Off
choice_of OnKind = On

abbrev kind_of : Choice → Kind
kind_of Plain = PlainKind
kind_of (Open own) = OpenKind own
kind_of Off = OffKind
kind_of On = OnKind

abbrev pub inside_of : Choice → Inside
inside_of choice = record { kind = kind_of choice }

kind_back : (kind : Kind) → kind_of (choice_of kind) ≡ kind
kind_back PlainKind = refl
kind_back (OpenKind own) = refl
kind_back OffKind = refl
kind_back OnKind = refl

pub inside_back : (inside : Inside) → inside_of (choice_of inside.kind) ≡ inside
inside_back inside = ap (λ kind. let back : Inside = record { kind = kind } in back) (kind_back inside.kind)
