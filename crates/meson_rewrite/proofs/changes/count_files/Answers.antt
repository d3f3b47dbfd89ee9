use Rattle.std.proofs.Common.{◌≡◌, ◌∙◌, ◌∷◌, ◌||◌, ◌<◌, ◌+◌, ◌-◌, true, not, length, drop, sym, ap, arith}
use Rattle.std.specs.Prelude.{bytes_eq, cond, if◌then◌else◌}
use Rattle.meson_rewrite.specs.Changes.{edited_files, is_edited}
use Rattle.meson_rewrite.proofs.EditedFiles.{are-edited, counted-more, edited-more, passed-more}
use Rattle.meson_rewrite.proofs.changes.count_files.Goals as goal
use Rattle.meson_rewrite.proofs.changes.count_files.Goals.{then-branch, else-branch}

pub returns-in_err-insert-clause-edited : goal.returns-in_err-insert-clause-edited
returns-in_err-insert-clause-edited c = are-edited c.args.splices.now

pub returns-clause-edited : goal.returns-clause-edited
returns-clause-edited c = are-edited c.args.splices.now

pub loop-passed-preserved : goal.loop-passed-preserved
loop-passed-preserved c =
    let splices = c.args.splices.now in
    let before = c.loop-passed in
    let s = c.index-splices-splices.result in
    let gone = drop (length splices - before.passed) splices in
    let within : before.passed < length splices = omega arith in
    let more : drop (length splices - (before.passed + 1)) splices ≡ s ∷ gone = passed-more splices before.passed s within (sym c.index-splices-splices.is) in
    let added : c.in_ok-insert.field-0 ≡ not (is_edited s.file gone) =
    c.in_ok-insert.ensures.added ∙ ap not (before.invariant.names c.get.result.now) ∙ ap (λ file. not (is_edited file gone)) c.get.ensures in
    let plus_none : before.files ≡ before.files + 0 = omega arith in
    let grown : c.if-branch.files ≡ before.files + (if c.in_ok-insert.field-0 then 1 else 0) = elim c.if-branch.branch [
      | then-branch w ↦ w.files-is ∙ ap (λ b. before.files + (if b then 1 else 0)) (sym w.if-branch.true)
      | else-branch w ↦ w.files-is ∙ plus_none ∙ ap (λ b. before.files + (if b then 1 else 0)) (sym w.if-branch.false)
    ] in
    let counted = grown ∙ ap (λ n. n + (if c.in_ok-insert.field-0 then 1 else 0)) before.invariant.counted
    ∙ ap (λ b. length (edited_files gone) + (if b then 1 else 0)) added ∙ sym (counted-more s gone) ∙ ap (λ ss. length (edited_files ss)) (sym more) in
    record {
      fits = elim c.if-branch.branch [ then-branch w ↦ omega (arith, w.files-is, before.invariant.fits) | else-branch w ↦ omega (arith, w.files-is, before.invariant.fits) ];
      counted = counted;
      names = λ x.
          let here = bytes_eq c.get.result.now x in
          c.in_ok-insert.ensures.updates.0 (record { ref_ptr = (0, 0); now = x })
          ∙ ap (cond here true) (before.invariant.names x)
          ∙ edited-more here (is_edited x gone)
          ∙ ap (λ file. bytes_eq file x || is_edited x gone) c.get.ensures
          ∙ ap (is_edited x) (sym more);
    }
