use Rattle.std.proofs.Common.{rules, ◌≡◌, sym, ap, ◌∙◌}
use Rattle.std.specs.Prelude.{true, ◌&&◌, bytes_eq, codes}
use Rattle.meson_syntax.specs.View.{list_view, text_at}
use Rattle.meson_calls.specs.ChosenNotes.{call_with}
use Rattle.meson_following.specs.Names.{fits, may_be, named_by}
use Rattle.meson_following.proofs.reads.Reader.reads_by_call.Goals as goal

pub returns : goal.returns
returns c =
    let s = c.args.self.now in
    let function = text_at s.source.now c.args.function in
    let named : bytes_eq function (codes "get_variable") ≡ true = search rules in
    c.may_be.ensures ∙ ap may_be (c.in_ok-found.ensures function)
    ∙ sym (ap (λ b. b && fits s.variable.now (named_by (call_with function (list_view s.source.now c.args.arguments.now)))) named)
