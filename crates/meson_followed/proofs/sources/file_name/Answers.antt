use Rattle.meson_followed.proofs.MetSources.{name_there, no_name, within_files}
use Rattle.meson_followed.proofs.sources.file_name.Goals as goal

pub returns-then-number-follower : goal.returns-then-number-follower
returns-then-number-follower c = no_name c.args.follower.now.files.now c.args.follower.now.trees.now c.args.number c.requires c.if-number-follower.true

pub name-requires : goal.name-requires
name-requires c = within_files c.args.follower.now.files.now c.args.follower.now.trees.now c.args.number c.requires c.if-number-follower.false

pub returns : goal.returns
returns c =
    name_there c.args.follower.now.files.now c.args.follower.now.trees.now c.args.number c.requires c.name.result.now c.if-number-follower.false c.name.ensures
