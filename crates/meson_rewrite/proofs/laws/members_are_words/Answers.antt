use Rattle.meson_rewrite.proofs.RefusalMembers.{members_are_words}
use Rattle.meson_rewrite.proofs.laws.members_are_words.Goals as goal

pub returns : goal.returns
returns c = members_are_words
