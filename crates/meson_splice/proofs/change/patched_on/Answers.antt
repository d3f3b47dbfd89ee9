use Rattle.std.proofs.Common.{◌≤◌, ◌+◌, drop, arith}
use Rattle.std.proofs.lemmas.Result.{err_from_is_err_and}
use Rattle.meson_splice.specs.inside.Borrowed.{splice_of}
use Rattle.meson_splice.specs.inside.Gap.{gap_text}
use Rattle.meson_splice.specs.inside.Ordered.{ordered}
use Rattle.meson_splice.proofs.Leading.{leads-more, leads-refused, same_name}
use Rattle.meson_splice.proofs.change.patched_on.Goals as goal

pub returns-in_err-patch-clause-refused : goal.returns-in_err-patch-clause-refused
returns-in_err-patch-clause-refused c =
    let all = ordered c.args.way c.args.splices.now in
    let text = gap_text c.loop-next.text in
    let same = same_name c.at-splice.result.file.now c.args.file.now c.if-ne.ensures in
    let leads = c.loop-next.invariant.alike in
    let p = err_from_is_err_and c.from_residual.result c.from_residual.ensures.1 in
    rw (p.1, p.2) (λ some.
    leads-refused c.args.file.now c.args.bytes text (drop c.args.done all) (drop c.loop-next.next all) (drop (c.loop-next.next + 1) all)
    (splice_of c.at-splice.result) c.in_err-patch.field-0.0 leads c.at-splice.ensures same (c.in_err-patch.ensures.refused some))

pub loop-next-preserved : goal.loop-next-preserved
loop-next-preserved c =
    let all = ordered c.args.way c.args.splices.now in
    let text = gap_text c.loop-next.text in
    let same = same_name c.at-splice.result.file.now c.args.file.now c.if-ne.ensures in
    let leads = c.loop-next.invariant.alike in
    let further : c.args.done ≤ c.loop-next.next + 1 = omega (arith, c.loop-next.invariant.ahead) in
    record {
      ahead = further;
      alike = leads-more c.args.file.now c.args.bytes text (gap_text c.patch.new.self) (drop c.args.done all) (drop c.loop-next.next all) (drop (c.loop-next.next + 1) all)
          (splice_of c.at-splice.result) leads c.at-splice.ensures same c.in_ok-patch.ensures.done;
    }
