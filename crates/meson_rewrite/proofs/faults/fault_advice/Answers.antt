use Rattle.std.proofs.Common.{◌∙◌, ℕ, List, None, Some, ap, codes, sym}
use Rattle.meson_rewrite.specs.Faults.{fault_advice, plain_advice}
use Rattle.meson_rewrite.specs.declared.advice.Advice.{Advice}
use Rattle.meson_rewrite.proofs.faults.fault_advice.Goals as goal

pub returns-in_ok-advice-in-TooManyFiles : goal.returns-in_ok-advice-in-TooManyFiles
returns-in_ok-advice-in-TooManyFiles c =
    let help = codes "--sourcedir names a folder below, whose project has fewer" in
    ap (λ (a : Advice). Some a)
    (c.in_ok-advice-in-TooManyFiles.ensures ∙ ap (λ (note : List ℕ). plain_advice c.args.json note None help) c.in_ok-note-in-TooManyFiles.ensures.ok)
    ∙ ap (fault_advice c.args.json) (sym c.in-TooManyFiles.is)

pub returns-in_ok-advice-in-OtherFiles : goal.returns-in_ok-advice-in-OtherFiles
returns-in_ok-advice-in-OtherFiles c =
    let help = codes "sha256sum --check prints which file it is: take that change back, or remove meson.rewrite-log and use git" in
    ap (λ (a : Advice). Some a)
    (c.in_ok-advice-in-OtherFiles.ensures ∙ ap (λ (note : List ℕ). plain_advice c.args.json note None help) c.in_ok-note-in-OtherFiles.ensures.ok)
    ∙ ap (fault_advice c.args.json) (sym c.in-OtherFiles.is)

pub returns-in_ok-advice-in-BadTexts : goal.returns-in_ok-advice-in-BadTexts
returns-in_ok-advice-in-BadTexts c =
    let help = codes "each file has the name of a build file, as list prints it" in
    ap (λ (a : Advice). Some a)
    (c.in_ok-advice-in-BadTexts.ensures ∙ ap (λ (note : List ℕ). plain_advice c.args.json note None help) c.in_ok-note-in-BadTexts.ensures.ok)
    ∙ ap (fault_advice c.args.json) (sym c.in-BadTexts.is)
