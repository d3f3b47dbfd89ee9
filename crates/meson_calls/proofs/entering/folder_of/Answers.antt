use Rattle.meson_calls.proofs.Words.{◌++◌, ◌∙◌, sym, ap, build_file}
use Rattle.meson_calls.proofs.Entered.{folder_before, ends_so}
use Rattle.meson_calls.proofs.entering.folder_of.Goals as goal

pub returns-in-Some : goal.returns-in-Some
returns-in-Some c =
    let split = c.in-Some.ensures.cases in
    folder_before c.args.name.now c.in-Some.folder.now (split.1.1 ∙ ap (λ t. t ++ build_file) (sym split.2)) c.requires

pub returns-in-None : goal.returns-in-None
returns-in-None c = absurd (ends_so c.args.name.now c.requires c.in-None.ensures.cases)
