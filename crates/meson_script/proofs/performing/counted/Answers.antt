use Rattle.std.proofs.Common.{[], sym, ap, ◌∙◌}
use Rattle.meson_splice.specs.Files.{differing}
use Rattle.meson_splice.proofs.Counts.{differing-same}
use Rattle.meson_plan.proofs.SplicesDone.{performs-patch}
use Rattle.meson_script.proofs.RunFacts.{change-names, names}
use Rattle.meson_script.proofs.performing.counted.Goals as goal

pub returns-then-asks-clause-files : goal.returns-then-asks-clause-files
returns-then-asks-clause-files c =
    let old = c.args.project.now.files in
    let same = c.performed.ensures.asking (sym c.asks.ensures ∙ c.if-asks.true) in
    sym (ap (λ p. differing old p.files) same ∙ differing-same old)

pub count_differing-files-requires : goal.count_differing-files-requires
count_differing-files-requires c =
    ap names (c.in_ok-before.ensures.cases ∙ c.files.ensures)
    ∙ change-names c.args.project.now.files c.in_ok-done-2.done.change.splices c.performed-2.new.project.files (performs-patch _ _ _ _ c.in_ok-done-2.ensures.done)
    ∙ ap names (sym c.files-2.ensures)
