-- The blocks of columns, as the code keeps them.
use Rattle.cip_text_rules.specs.BlockOwners as plain
use Rattle.cip_blocks.specs.declared.owners.Owners.{Owners}

-- the owners
abbrev pub owners_shown : Owners → plain.Owners
owners_shown owners = record { blocks = owners.blocks.items; links = owners.links }
