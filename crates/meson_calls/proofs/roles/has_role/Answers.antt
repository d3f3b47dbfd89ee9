use Rattle.meson_calls.proofs.Words.{◌&&◌, is_some, bytes_eq, ◌∙◌, sym, ap, expr_view, list_view, first_argument, call_with, has_role}
use Rattle.meson_calls.proofs.FirstArguments.{there_alike}
use Rattle.meson_calls.proofs.roles.has_role.Goals as goal

pub returns-then-makes_target : goal.returns-then-makes_target
returns-then-makes_target c = λ source.
    let call = call_with c.args.function.now (list_view source c.args.arguments.now) in
    let is = sym c.makes_target.ensures ∙ c.if-makes_target.true in
    c.is_some.ensures
    ∙ there_alike c.first_argument.result (first_argument call) (λ e. expr_view source e.now) (c.first_argument.ensures source c.args.function.now)
    ∙ sym (ap (λ r. has_role r call) c.in-Target.is ∙ ap (λ b. b && is_some (first_argument call)) is)

pub returns-then-eq : goal.returns-then-eq
returns-then-eq c = λ source.
    let call = call_with c.args.function.now (list_view source c.args.arguments.now) in
    let is = sym (ap (bytes_eq c.args.function.now) c.as_slice.ensures) ∙ sym c.eq.ensures ∙ c.if-eq.true in
    c.is_some-then-eq.ensures
    ∙ there_alike c.first_argument-then-eq.result (first_argument call) (λ e. expr_view source e.now) (c.first_argument-then-eq.ensures source c.args.function.now)
    ∙ sym (ap (λ r. has_role r call) c.in-Dependency.is ∙ ap (λ b. b && is_some (first_argument call)) is)
