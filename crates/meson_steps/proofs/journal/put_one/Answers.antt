use Rattle.meson_steps.proofs.Words.{◌∙◌, ◌≤◌, ap, length, sym, arith, slice_set, list_exchanged, Parsed, put_one}
use Rattle.meson_steps.proofs.Restoring.{changed_is, changed_past}
use Rattle.meson_steps.proofs.journal.put_one.Goals as goal

pub returns-then-place-len : goal.returns-then-place-len
returns-then-place-len c =
    let trees = c.args.trees.now.items in
    let s = c.in-List.field-0 in
    let change : Parsed → Parsed = list_exchanged s.place.path.steps s.from s.now s.was s.list in
    let t = c.index_mut-then-place-len.result.now in
    ap (slice_set trees s.place.file) (c.put_in.ensures.is ∙ ap change c.index_mut-then-place-len.ensures.value)
    ∙ sym (changed_is s.place.file change trees t) ∙ ap (λ x. put_one x trees) (sym c.in-List.is)

pub returns : goal.returns
returns c =
    let trees = c.args.trees.now.items in
    let s = c.in-List.field-0 in
    let past : length trees ≤ s.place.file = omega (arith, c.if-place-len.false, c.len-in-List.ensures) in
    sym (changed_past s.place.file (list_exchanged s.place.path.steps s.from s.now s.was s.list) trees past) ∙ ap (λ x. put_one x trees) (sym c.in-List.is)
