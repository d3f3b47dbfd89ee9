use Rattle.std.proofs.Common.{Some, ap, sym, ◌∙◌}
use Rattle.std.specs.Prelude.{option_and_then, option_map}
use Rattle.meson_syntax.specs.View.{expr_view, text_at}
use Rattle.meson_calls.specs.Calls.{call_of}
use Rattle.meson_calls.specs.Project.{placed}
use Rattle.meson_calls.proofs.Nested.{call_view}
use Rattle.meson_following.specs.CodeFollowing.{followed_project}
use Rattle.meson_following.proofs.GoodNodes.{call_good}
use Rattle.meson_explaining.specs.Followed.{is_absent_in}
use Rattle.meson_explaining.proofs.followed.is_absent_at.Goals as goal

pub is_absent_of-requires-clause-good : goal.is_absent_of-requires-clause-good
is_absent_of-requires-clause-good c =
    let v = c.in-Some.value in
    let it = c.in-Call in
    call_good v.source.now v.expr.now it.span it.name it.arguments it.is c.in-Some.ensures.good

pub returns-in_ok-absent-in-Call : goal.returns-in_ok-absent-in-Call
returns-in_ok-absent-in-Call c =
    let p = followed_project c.args.follower.now in
    let call = c.args.call.now in
    let name = c.args.name.now in
    let it = c.in-Call in
    let source = c.in-Some.value.source.now in
    let view = ap (expr_view source) it.is ∙ call_view source it.span it.name it.arguments in
    c.in_ok-absent-in-Call.ensures (text_at source it.name)
    ∙ ap (λ e. is_absent_in p (option_map (placed call) (option_and_then call_of e)) name) (sym (ap Some view) ∙ c.in-Some.ensures.value)
