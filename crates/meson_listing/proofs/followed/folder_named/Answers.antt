use Rattle.std.proofs.Common.{◌++◌, sym, ap, ◌∙◌}
use Rattle.meson_listing.specs.Followed.{file_ending}
use Rattle.meson_listing.proofs.FolderNames.{ends, ends_otherwise}
use Rattle.meson_listing.proofs.followed.folder_named.Goals as goal

pub returns-in-Some : goal.returns-in-Some
returns-in-Some c =
    let split = c.in-Some.ensures.cases in
    ends c.in-Some.folder.now c.args.name.now (split.1.1 ∙ ap (λ t. t ++ file_ending) (sym split.2))

pub returns-in-None : goal.returns-in-None
returns-in-None c = ends_otherwise c.args.name.now c.in-None.ensures.cases
