use Rattle.meson_targets.proofs.Words.{ap, ◌∙◌, subst, IfOk, err_from_is_err_and, then_ok, project_in, none_noted, noted_good, same_place, AreMeant}
use Rattle.meson_targets.proofs.Words.{target_removed}
use Rattle.meson_calls.specs.declared.call.Role.TheVariants as role
use Rattle.meson_calls.specs.Refusals.{RefusedAs}
use Rattle.meson_calls.specs.Searching.{name_at}
use Rattle.meson_targets.proofs.StatementsRemoved.{named_at}
use Rattle.meson_targets.proofs.target_removing.target_removed.Goals as goal

pub the_call-requires : goal.the_call-requires
the_call-requires c = noted_good c.args.noted.now c.requires

pub returns-clause-meant : goal.returns-clause-meant
returns-clause-meant c =
    let n = c.args.noted.now in
    let id = name_at c.args.target in
    let same = named_at (project_in n) id c.in_ok-call.call (same_place n role.Target id c.requires ∙ c.in_ok-call.ensures.found) in
    subst (λ m. IfOk c.call_removed.result (λ steps. AreMeant m steps.items)) same c.call_removed.ensures.meant

pub returns-clause-refused : goal.returns-clause-refused
returns-clause-refused c =
    let n = c.args.noted.now in
    let id = name_at c.args.target in
    let same = named_at (project_in n) id c.in_ok-call.call (same_place n role.Target id c.requires ∙ c.in_ok-call.ensures.found) in
    subst (λ m. RefusedAs c.call_removed.result m) same c.call_removed.ensures.refused

pub returns-in_err-call-clause-refused : goal.returns-in_err-call-clause-refused
returns-in_err-call-clause-refused c =
    let error = err_from_is_err_and c.from_residual.result c.from_residual.ensures.1 in
    rw (error.1, error.2) (λ other.
    let n = c.args.noted.now in
    let why = none_noted n role.Target (name_at c.args.target) c.requires c.in_err-call.field-0.0 (c.in_err-call.ensures.refused other) in
    ap (λ r. then_ok r (λ k. target_removed (project_in n) k)) why)
