use Rattle.std.proofs.Common.{◌++◌, map, ap, ◌∙◌}
use Rattle.std.specs.Prelude.{Some}
use Rattle.meson_steps.specs.ListSteps.{bare}
use Rattle.meson_sources.specs.SourceEdits.{insertion_steps}
use Rattle.meson_followed.proofs.adding.insertions.Goals as goal

pub returns-clause-done : goal.returns-clause-done
returns-clause-done c =
    let home = c.args.list.now in
    let names = map (λ x. x.now) c.args.names.now in
    c.in_ok-insert.ensures.done ∙ ap (λ xs. map Some xs ++ map bare (insertion_steps home c.plain_len-from.result names)) c.new-steps.ensures.items
    ∙ ap (λ n. map bare (insertion_steps home n names)) c.plain_len-from.ensures.counted
