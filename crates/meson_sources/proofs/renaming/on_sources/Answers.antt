use Rattle.meson_calls.specs.Searching.{name_at}
use Rattle.meson_sources.proofs.renaming.on_sources.Goals as goal
use Rattle.meson_sources.proofs.Words.{loaded_in}
use Rattle.meson_sources.proofs.commands.Targets.{renamed_mean}

pub returns-clause-plan : goal.returns-clause-plan
returns-clause-plan c =
    renamed_mean (loaded_in c.args.noted.now) c.requires.whole (λ v. v.items) (name_at c.args.target) c.args.names.old.now c.args.names.new.now c.renamed_steps.result c.renamed_steps.ensures.utf8 c.renamed_steps.ensures.meant
