use Rattle.meson_keywords.proofs.Words.{rules, err_from_is_err_and}
use Rattle.meson_keywords.proofs.keyword_steps.delete_steps.Goals as goal

pub returns-in_err-found-clause-refused : goal.returns-in_err-found-clause-refused
returns-in_err-found-clause-refused c =
    let error = err_from_is_err_and c.from_residual.result c.from_residual.ensures.1 in
    rw (error.1, error.2) (search rules)
