-- Words and the jobs that they mean, computed.
use Rattle.std.specs.Prelude.{◌≡◌, true, false, [], ◌∷◌, None, Some, refl}
use lib.Chars.{codes}
use Rattle.clap.proofs.OnLiterals.{clap_on_literals}
use Rattle.cip_input.specs.Jobs.{Solve, Check, Generate, cip_command, off_of, are_among, job_of}

-- `solve` and a name ask for the usual number of nodes
pub usual : job_of (codes "solve" ∷ codes "M" ∷ []) ≡ Some (Solve (codes "M") None (record { nodes = 1000000; gap = None; presolved = true; plain = false; off = []; trace = false }))
unfolding clap_on_literals cip_command job_of
usual = refl

-- as many nodes as `--nodes` says, before the name or behind it
pub five : job_of (codes "solve" ∷ codes "--nodes=5" ∷ codes "M" ∷ []) ≡ Some (Solve (codes "M") None (record { nodes = 5; gap = None; presolved = true; plain = false; off = []; trace = false }))
unfolding clap_on_literals cip_command job_of
five = refl

pub most : job_of (codes "solve" ∷ codes "M" ∷ codes "--nodes" ∷ codes "1099511627776" ∷ []) ≡ Some (Solve (codes "M") None (record { nodes = 1099511627776; gap = None; presolved = true; plain = false; off = []; trace = false }))
unfolding clap_on_literals cip_command job_of
most = refl

-- plainly, with a trace, and both
pub plain : job_of (codes "solve" ∷ codes "M" ∷ codes "--plain" ∷ []) ≡ Some (Solve (codes "M") None (record { nodes = 1000000; gap = None; presolved = false; plain = true; off = []; trace = false }))
unfolding clap_on_literals cip_command job_of
plain = refl

pub trace : job_of (codes "solve" ∷ codes "--trace" ∷ codes "M" ∷ []) ≡ Some (Solve (codes "M") None (record { nodes = 1000000; gap = None; presolved = true; plain = false; off = []; trace = true }))
unfolding clap_on_literals cip_command job_of
trace = refl

pub plain_and_trace : job_of (codes "solve" ∷ codes "M" ∷ codes "--trace" ∷ codes "--plain" ∷ []) ≡ Some (Solve (codes "M") None (record { nodes = 1000000; gap = None; presolved = false; plain = true; off = []; trace = true }))
unfolding clap_on_literals cip_command job_of
plain_and_trace = refl

-- names of plugins between commas: one more than there are commas, and a name may be empty
pub cut : off_of (Some (codes "cover,mir,pseudo")) ≡ codes "cover" ∷ codes "mir" ∷ codes "pseudo" ∷ []
cut = refl

pub cut_once : off_of (Some (codes "mir")) ≡ codes "mir" ∷ []
cut_once = refl

pub cut_nothing : off_of (Some []) ≡ [] ∷ []
cut_nothing = refl

pub cut_at_ends : off_of (Some (codes ",a,,")) ≡ [] ∷ codes "a" ∷ [] ∷ [] ∷ []
cut_at_ends = refl

-- they may be named once, beside all else
pub off : job_of (codes "solve" ∷ codes "M" ∷ codes "--off" ∷ codes "mir,cover" ∷ []) ≡ Some (Solve (codes "M") None (record { nodes = 1000000; gap = None; presolved = true; plain = false; off = codes "mir" ∷ codes "cover" ∷ []; trace = false }))
unfolding clap_on_literals cip_command job_of
off = refl

pub off_and_plain : job_of (codes "solve" ∷ codes "--off=mir" ∷ codes "M" ∷ codes "--plain" ∷ []) ≡ Some (Solve (codes "M") None (record { nodes = 1000000; gap = None; presolved = false; plain = true; off = codes "mir" ∷ []; trace = false }))
unfolding clap_on_literals cip_command job_of
off_and_plain = refl

pub off_twice : job_of (codes "solve" ∷ codes "M" ∷ codes "--off=a" ∷ codes "--off=b" ∷ []) ≡ None
unfolding clap_on_literals cip_command job_of
off_twice = refl

-- each of them has to be the name of a plugin
pub all_there : are_among (codes "b" ∷ codes "a" ∷ []) (codes "a" ∷ codes "b" ∷ codes "c" ∷ []) ≡ true
all_there = refl

pub one_missing : are_among (codes "a" ∷ [] ∷ []) (codes "a" ∷ codes "b" ∷ []) ≡ false
one_missing = refl

pub none_named : are_among [] [] ≡ true
none_named = refl

-- a value of `--trace` is refused
pub trace_with_value : job_of (codes "solve" ∷ codes "M" ∷ codes "--trace=true" ∷ []) ≡ None
unfolding clap_on_literals cip_command job_of
trace_with_value = refl

-- no nodes, or more than the most, are refused
pub no_nodes : job_of (codes "solve" ∷ codes "M" ∷ codes "--nodes" ∷ codes "0" ∷ []) ≡ None
unfolding clap_on_literals cip_command job_of
no_nodes = refl

pub past_most : job_of (codes "solve" ∷ codes "M" ∷ codes "--nodes" ∷ codes "1099511627777" ∷ []) ≡ None
unfolding clap_on_literals cip_command job_of
past_most = refl

-- so are a sign and a 0 in front
pub plus : job_of (codes "solve" ∷ codes "M" ∷ codes "--nodes" ∷ codes "+5" ∷ []) ≡ None
unfolding clap_on_literals cip_command job_of
plus = refl

pub zero_in_front : job_of (codes "solve" ∷ codes "M" ∷ codes "--nodes" ∷ codes "05" ∷ []) ≡ None
unfolding clap_on_literals cip_command job_of
zero_in_front = refl

-- and words without a name, a second name, other commands, and the asks for help and version
pub no_word : job_of [] ≡ None
unfolding clap_on_literals cip_command job_of
no_word = refl

pub no_name : job_of (codes "solve" ∷ []) ≡ None
unfolding clap_on_literals cip_command job_of
no_name = refl

pub two_names : job_of (codes "solve" ∷ codes "M" ∷ codes "N" ∷ []) ≡ None
unfolding clap_on_literals cip_command job_of
two_names = refl

pub other_command : job_of (codes "check" ∷ []) ≡ None
unfolding clap_on_literals cip_command job_of
other_command = refl

pub help : job_of (codes "--help" ∷ []) ≡ None
unfolding clap_on_literals cip_command job_of
help = refl

pub help_word : job_of (codes "help" ∷ []) ≡ None
unfolding clap_on_literals cip_command job_of
help_word = refl

pub help_of_solve : job_of (codes "solve" ∷ codes "-h" ∷ []) ≡ None
unfolding clap_on_literals cip_command job_of
help_of_solve = refl

pub version : job_of (codes "--version" ∷ []) ≡ None
unfolding clap_on_literals cip_command job_of
version = refl

-- the blocks of a text, and a point that is to be checked
pub blocks : job_of (codes "solve" ∷ codes "M" ∷ codes "--blocks" ∷ codes "B" ∷ []) ≡ Some (Solve (codes "M") (Some (codes "B")) (record { nodes = 1000000; gap = None; presolved = false; plain = false; off = []; trace = false }))
unfolding clap_on_literals cip_command job_of
blocks = refl

pub check : job_of (codes "check" ∷ codes "M" ∷ codes "P" ∷ []) ≡ Some (Check (codes "M") (codes "P"))
unfolding clap_on_literals cip_command job_of
check = refl

pub check_with_nodes : job_of (codes "check" ∷ codes "M" ∷ codes "P" ∷ codes "--nodes" ∷ codes "1" ∷ []) ≡ None
unfolding clap_on_literals cip_command job_of
check_with_nodes = refl

-- a program that is drawn: 0 is one digit, and each number has its most
pub self : job_of (codes "self" ∷ codes "3" ∷ codes "6" ∷ codes "4" ∷ []) ≡ Some (Generate 3 6 4)
unfolding clap_on_literals cip_command job_of
self = refl

pub self_zeros : job_of (codes "self" ∷ codes "0" ∷ codes "0" ∷ codes "0" ∷ []) ≡ Some (Generate 0 0 0)
unfolding clap_on_literals cip_command job_of
self_zeros = refl

pub self_most : job_of (codes "self" ∷ codes "18446744073709551615" ∷ codes "256" ∷ codes "256" ∷ []) ≡ Some (Generate 18446744073709551615 256 256)
unfolding clap_on_literals cip_command job_of
self_most = refl

pub self_past_seed : job_of (codes "self" ∷ codes "18446744073709551616" ∷ codes "1" ∷ codes "1" ∷ []) ≡ None
unfolding clap_on_literals cip_command job_of
self_past_seed = refl

pub self_past_columns : job_of (codes "self" ∷ codes "1" ∷ codes "257" ∷ codes "1" ∷ []) ≡ None
unfolding clap_on_literals cip_command job_of
self_past_columns = refl

pub self_past_rows : job_of (codes "self" ∷ codes "1" ∷ codes "1" ∷ codes "257" ∷ []) ≡ None
unfolding clap_on_literals cip_command job_of
self_past_rows = refl

pub self_zero_in_front : job_of (codes "self" ∷ codes "1" ∷ codes "01" ∷ codes "1" ∷ []) ≡ None
unfolding clap_on_literals cip_command job_of
self_zero_in_front = refl

pub self_two_zeros : job_of (codes "self" ∷ codes "00" ∷ codes "1" ∷ codes "1" ∷ []) ≡ None
unfolding clap_on_literals cip_command job_of
self_two_zeros = refl

pub self_plus : job_of (codes "self" ∷ codes "+1" ∷ codes "1" ∷ codes "1" ∷ []) ≡ None
unfolding clap_on_literals cip_command job_of
self_plus = refl

pub self_alone : job_of (codes "self" ∷ codes "1" ∷ codes "1" ∷ []) ≡ None
unfolding clap_on_literals cip_command job_of
self_alone = refl
