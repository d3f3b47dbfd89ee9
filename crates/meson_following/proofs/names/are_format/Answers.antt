use Rattle.meson_following.proofs.NameParts.{no_format}
use Rattle.meson_following.proofs.names.are_format.Goals as goal

pub returns-else-tails-eq1 : goal.returns-else-tails-eq1
returns-else-tails-eq1 c = no_format c.args.source.now c.args.tails.now c.if-tails-eq1.false
