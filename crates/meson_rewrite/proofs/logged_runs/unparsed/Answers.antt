use Rattle.std.proofs.Common.{[], ◌∙◌, ap, inl}
use Rattle.meson_splice.specs.declared.file_set.File.{File}
use Rattle.meson_gathering.proofs.FileNames.{name_of}
use Rattle.meson_rewrite.specs.declared.advice.Advice.TheVariants.{Nothing}
use Rattle.meson_rewrite.specs.declared.stop.FileText.TheVariants.{After}
use Rattle.meson_rewrite.specs.declared.stop.Stop.TheVariants.{Parse}
use Rattle.meson_rewrite.proofs.logged_runs.unparsed.Goals as goal

nobody : File
nobody = record { name = []; bytes = [] }

pub returns-in-Ok : goal.returns-in-Ok
returns-in-Ok c = inl (ap (λ n. Parse n (After c.args.run) c.args.fault Nothing) (c.of.ensures ∙ c.in-Ok.ensures.ok ∙ c.name.ensures nobody ∙ name_of c.args.files.now c.args.place nobody c.requires))
