use Rattle.std.proofs.Common.{rules, ◌≡◌, ◌<◌, length, get_or, ap, ◌∙◌, arith}
use Rattle.meson_lex.specs.declared.kinds.Span.{Span}
use Rattle.meson_syntax.specs.Furthest.{furthest_span}
use Rattle.meson_syntax.specs.Moving.{span_by, border_by}
use Rattle.meson_syntax.proofs.InPlace.{at_most_greatest, next_exchanged, still_there}
use Rattle.meson_syntax.proofs.shift.shift_spans.Goals as goal

pub shift-requires : goal.shift-requires
shift-requires c =
    let list = c.args.spans.now in
    let i = c.loop-i.i in
    let d : Span = record { from = 0; to = 0 } in
    let within : i < length list = search rules in
    let here = ap (λ xs. get_or xs i d) c.loop-i.invariant ∙ still_there (span_by (border_by c.args.by)) list i d in
    let far = at_most_greatest furthest_span list c.loop-i.spans i d within here in
    omega (arith, far, c.requires)

pub loop-i-preserved : goal.loop-i-preserved
loop-i-preserved c =
    let list = c.args.spans.now in
    let i = c.loop-i.i in
    let d : Span = record { from = 0; to = 0 } in
    let within : i < length list = search rules in
    let as_many : length c.loop-i.spans ≡ length list = search rules in
    let move = span_by (border_by c.args.by) in
    next_exchanged move list c.loop-i.spans i d _ within as_many c.loop-i.invariant c.shift.ensures
