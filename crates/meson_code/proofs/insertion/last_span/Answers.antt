use Rattle.std.proofs.Common.{◌-◌, length, sym, ap, ap₂, ◌∙◌}
use Rattle.meson_syntax.specs.View.{view}
use Rattle.meson_edit.specs.Places.{span_of_statement}
use Rattle.meson_code.proofs.Rooms.{count-is}
use Rattle.meson_code.proofs.insertion.last_span.Goals as goal

pub returns : goal.returns
returns c = λ source.
    let f = view source c.args.tree.now in
    let count = c.saturating_sub.ensures ∙ ap (λ n. n - 1) (ap length c.get-count.ensures ∙ sym (count-is source c.args.tree.now)) in
    c.statement_span.ensures source ∙ ap₂ (λ path n. span_of_statement f path n) c.new-steps.ensures count
