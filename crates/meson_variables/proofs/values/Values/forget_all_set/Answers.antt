use Rattle.meson_variables.proofs.Words.{◌≤◌, length, take, take_all, ◌∙◌, sym, ap, subst, arith, if◌then◌else◌, None, note_view, note_views, AreGood}
use Rattle.meson_variables.proofs.Words.{note_words, good_at, value_in, note_sets, is_set_by}
use Rattle.meson_variables.proofs.Anys.{any_more}
use Rattle.meson_variables.proofs.Assignments.{forgotten}
use Rattle.meson_variables.proofs.values.Values.forget_all_set.Goals as goal

pub forget_set-requires : goal.forget_set-requires
forget_set-requires c =
    subst (λ n. AreGood (note_words (note_view n).it)) (sym c.index-notes-i.is)
    (good_at c.args.notes.now c.loop-i.i c.index-notes-i.result c.loop-i-test.true c.requires)

pub loop-i-preserved : goal.loop-i-preserved
loop-i-preserved c = λ x.
    let notes = c.args.notes.now in
    let i = c.loop-i.i in
    let n = c.index-notes-i.result in
    let start = value_in c.args.self.now x in
    let before = value_in c.loop-i.self x in
    forgotten (is_set_by x (note_views (take i notes))) _ start before (value_in c.forget_set.new.self x) (c.loop-i.invariant x)
    (c.in_ok-forget_set.ensures x ∙ ap (λ m. if note_sets x (note_view m).it then None else before) c.index-notes-i.is)
    ∙ ap (λ b. if b then None else start) (sym (any_more (λ m. note_sets x m.it) note_view notes i n c.loop-i-test.true))

pub returns : goal.returns
returns c = λ x.
    let notes = c.args.notes.now in
    let past : length notes ≤ c.loop-i.i = omega arith in
    c.loop-i.invariant x ∙ ap (λ ns. if is_set_by x (note_views ns) then None else value_in c.args.self.now x) (take_all c.loop-i.i notes past)
