use Rattle.meson_targets.proofs.Words.{subst, IsUtf8}
use Rattle.meson_targets.proofs.NewTargets.{with_name_text}
use Rattle.meson_targets.proofs.target_adding.checked_texts.Goals as goal

pub returns-clause-utf8 : goal.returns-clause-utf8
returns-clause-utf8 c = with_name_text c.checked_names.result c.args.name.now c.args.sources.now (subst IsUtf8 c.get.ensures c.get.utf8) c.checked_names.ensures.utf8
