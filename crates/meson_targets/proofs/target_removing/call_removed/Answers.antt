use Rattle.meson_targets.proofs.Words.{sym, ap, ◌∙◌, option_map, err_from_is_err_and, project_in, holder_view}
use Rattle.meson_targets.proofs.SetNames.{holder_named}
use Rattle.meson_targets.proofs.StatementsRemoved.{not_held, in_use, removal_meant}
use Rattle.meson_targets.proofs.target_removing.call_removed.Goals as goal

pub returns-in_default-clause-refused : goal.returns-in_default-clause-refused
returns-in_default-clause-refused c = λ other.
    not_held (project_in c.args.noted.now) c.args.call.now (ap (option_map holder_view) (sym c.in_default.is) ∙ c.in_ok-holder.ensures)

pub not_in_use-requires-clause-named : goal.not_in_use-requires-clause-named
not_in_use-requires-clause-named c =
    let n = c.args.noted.now in
    let is_held = ap (option_map holder_view) (sym c.in-Some.is) ∙ c.in_ok-holder.ensures in
    holder_named n.files.now n.trees.now c.requires.parsed c.args.call.now c.in-Some.holder is_held

pub returns-clause-meant : goal.returns-clause-meant
returns-clause-meant c =
    let is_held = ap (option_map holder_view) (sym c.in-Some.is) ∙ c.in_ok-holder.ensures in
    removal_meant (project_in c.args.noted.now) c.args.call.now (holder_view c.in-Some.holder) is_held (λ v. v.items) c.statement_removed.result c.in_ok-not_in_use.ensures.checked c.statement_removed.ensures.done

pub returns-in_err-not_in_use-clause-refused : goal.returns-in_err-not_in_use-clause-refused
returns-in_err-not_in_use-clause-refused c =
    let error = err_from_is_err_and c.from_residual-in_err-not_in_use.result c.from_residual-in_err-not_in_use.ensures.1 in
    rw (error.1, error.2) (λ other.
    let is_held = ap (option_map holder_view) (sym c.in-Some.is) ∙ c.in_ok-holder.ensures in
    in_use (project_in c.args.noted.now) c.args.call.now (holder_view c.in-Some.holder) is_held c.in_err-not_in_use.field-0.0 (c.in_err-not_in_use.ensures.refused other))
