use Rattle.std.proofs.Common.{rules}
use Rattle.std.proofs.lemmas.Result.{err_from_is_err_and, IfErr-weaker}
use Rattle.meson_json.specs.Scripts.{kwargs_entry}
use Rattle.meson_json.proofs.entry.kwargs_entry.Goals as goal

pub returns-in_err-id-clause-refused : goal.returns-in_err-id-clause-refused
unfolding kwargs_entry
returns-in_err-id-clause-refused c =
    let p = err_from_is_err_and c.from_residual-in_err-id.result c.from_residual-in_err-id.ensures.1 in
    rw (p.1, p.2) (λ n. let refused = c.in_err-id.ensures.refused n in search rules)

pub returns-clause-refused : goal.returns-clause-refused
unfolding kwargs_entry
returns-clause-refused c = IfErr-weaker c.kwargs_command.result _ _ (λ e h n. let refused = h n in search rules) c.kwargs_command.ensures.refused

pub returns-in_err-members-clause-refused : goal.returns-in_err-members-clause-refused
unfolding kwargs_entry
returns-in_err-members-clause-refused c =
    let p = err_from_is_err_and c.from_residual-in_err-members.result c.from_residual-in_err-members.ensures.1 in
    rw (p.1, p.2) (λ n. let refused = c.in_err-members.ensures.refused n in search rules)

pub returns-in_err-folder-clause-refused : goal.returns-in_err-folder-clause-refused
unfolding kwargs_entry
returns-in_err-folder-clause-refused c =
    let p = err_from_is_err_and c.from_residual-in_err-folder.result c.from_residual-in_err-folder.ensures.1 in
    rw (p.1, p.2) (λ n. let refused = c.in_err-folder.ensures.refused n in search rules)
