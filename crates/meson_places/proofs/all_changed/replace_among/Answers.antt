use Rattle.std.proofs.Common.{◌≡◌, ◌++◌, true, false, sym, ap, ◌∙◌, subst}
use Rattle.meson_calls.specs.Loading.{project}
use Rattle.meson_calls.specs.Project.{expression_at}
use Rattle.meson_steps.specs.ListSteps.{AreBare}
use Rattle.meson_steps.specs.Meanings.{AreMeant}
use Rattle.meson_places.specs.AllAssigned.{replace_among, said_at}
use Rattle.meson_places.specs.Names.{loaded_in}
use Rattle.meson_places.specs.Replacements.{exchange, replace_whole}
use Rattle.meson_places.proofs.AmongSteps.{all_done, bare_with, one_changed, one_passed, one_refused, read_twice}
use Rattle.meson_places.proofs.Meant.{made_passed}
use Rattle.meson_places.proofs.all_changed.replace_among.Goals as goal
use Rattle.meson_places.proofs.all_changed.replace_among.Goals.{then-branch+in_ok-edits+in_ok-append, else-branch}

pub returns-in_err-edits : goal.returns-in_err-edits
returns-in_err-edits c = record {
  made = λ may.
      let l = loaded_in c.args.sources in
      let key = c.args.key.now in
      let x = exchange c.args.pair.old.now c.args.pair.new.now may in
      let cs = c.args.places.now in
      let d = c.index-places-i-then-branch.result in
      let so_far = c.loop-i.invariant may in
      let same = read_twice cs c.loop-i.i d c.index-places-i.result c.loop-i-test.true c.index-places-i-then-branch.is c.index-places-i.is in
      let said : said_at l.files (project l) x.old d ≡ true = ap (said_at l.files (project l) x.old) same ∙ sym c.in_ok-said_at.ensures ∙ c.if-branch.true in
      made_passed _ (replace_among l key x cs) c.from_residual-in_err-edits.result c.in_err-edits.field-0.0 c.from_residual-in_err-edits.ensures.1
      (λ other. one_refused l key x cs c.loop-i.i so_far.0 c.loop-i.steps.items so_far.1 so_far.2 d c.loop-i-test.true c.index-places-i-then-branch.is said c.in_err-edits.field-0.0 (c.in_err-edits.ensures.made may other));
}

pub loop-i-preserved : goal.loop-i-preserved
loop-i-preserved c = λ may.
    let l = loaded_in c.args.sources in
    let key = c.args.key.now in
    let x = exchange c.args.pair.old.now c.args.pair.new.now may in
    let cs = c.args.places.now in
    let i = c.loop-i.i in
    let d = c.index-places-i.result in
    let code = c.loop-i.steps.items in
    let so_far = c.loop-i.invariant may in
    elim c.if-branch.branch [
      | then-branch+in_ok-edits+in_ok-append w ↦
          let e = w.index-places-i-then-branch.result in
          let same = read_twice cs i e d c.loop-i-test.true w.index-places-i-then-branch.is c.index-places-i.is in
          let said : said_at l.files (project l) x.old e ≡ true = ap (said_at l.files (project l) x.old) same ∙ sym c.in_ok-said_at.ensures ∙ w.if-branch.true in
          let m : AreMeant (replace_whole l x key e (expression_at (project l) e)) w.in_ok-edits.edits.items = w.in_ok-edits.ensures.made may in (
            so_far.0 ++ m.steps,
            bare_with l key x cs i so_far.0 code so_far.1 so_far.2 e c.loop-i-test.true w.index-places-i-then-branch.is said w.in_ok-edits.edits.items m c.if-branch.steps.items (ap (λ v. v.items) w.steps-is ∙ w.in_ok-append.ensures.items),
            one_changed l key x cs i so_far.0 code so_far.1 so_far.2 e c.loop-i-test.true w.index-places-i-then-branch.is said w.in_ok-edits.edits.items m,
          )
      | else-branch w ↦
          let said : said_at l.files (project l) x.old d ≡ false = sym c.in_ok-said_at.ensures ∙ w.if-branch.false in
          (so_far.0, subst (λ v. AreBare so_far.0 v.items) (sym w.steps-is) so_far.1, one_passed l key x cs i so_far.0 code so_far.1 so_far.2 d c.loop-i-test.true c.index-places-i.is said)
    ]

pub returns : goal.returns
returns c = record {
  made = λ may.
      let so_far = c.loop-i.invariant may in
      all_done (loaded_in c.args.sources) c.args.key.now (exchange c.args.pair.old.now c.args.pair.new.now may) c.args.places.now c.loop-i.i so_far.0 c.loop-i.steps.items so_far.1 so_far.2 c.loop-i-test.false;
}
