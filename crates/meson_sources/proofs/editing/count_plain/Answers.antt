use Rattle.meson_sources.proofs.editing.count_plain.Goals as goal
use Rattle.meson_sources.proofs.Words.{is_some, ap, arith, sym, ◌∙◌, arg_view, value_without_name}
use Rattle.meson_sources.proofs.added.Counts.{one_plain, not_plain, all_counted}
use Rattle.meson_sources.proofs.editing.count_plain.Goals.{then-is_plain, else-is_plain}

pub loop-i-preserved : goal.loop-i-preserved
loop-i-preserved c =
    let args = c.args.args.now in
    let i = c.loop-i.i in
    elim c.if-is_plain.branch [
      | then-is_plain w ↦ (
        omega (arith, w.count-is),
        λ source.
            let some = ap (λ a. is_some (value_without_name (arg_view source a))) (sym c.index-args-i.is) ∙ sym (c.is_plain.ensures source) ∙ w.if-is_plain.true in
            let more = one_plain source args i c.index-args-i.result c.loop-i-test.true some in
            let before = c.loop-i.invariant.1 source in
            omega (arith, w.count-is, more, before),
      )
      | else-is_plain w ↦ (
        omega (arith, w.count-is),
        λ source.
            let none = ap (λ a. is_some (value_without_name (arg_view source a))) (sym c.index-args-i.is) ∙ sym (c.is_plain.ensures source) ∙ w.if-is_plain.false in
            let more = not_plain source args i c.index-args-i.result c.loop-i-test.true none in
            let before = c.loop-i.invariant.1 source in
            omega (arith, w.count-is, more, before),
      )
    ]

pub returns-clause-counted : goal.returns-clause-counted
returns-clause-counted c = λ source.
    let none = all_counted source c.args.args.now c.loop-i.i c.loop-i-test.false in
    let before = c.loop-i.invariant.1 source in
    omega (arith, none, before)
