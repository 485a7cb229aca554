use Rattle.std.proofs.Common.{◌≡◌, []}
use Rattle.std.proofs.Common.{rules, refl}
use Rattle.cip_io.specs.Texts.{text_at}
use Rattle.cip_io.specs.Shelf.{named}
use Rattle.cip_io.proofs.FilesLemmas.{text_at-past}
use Rattle.cip_io.proofs.shelf.Shelf.choose_none.Goals as goal

pub returns : goal.returns
returns c =
    let none : text_at (named c.self.inside.files.items) c.len-self-inside.result ≡ [] = text_at-past c.self.inside.files.items c.len-self-inside.result (search rules) in
    rw (← c.self.view_is, none) refl
