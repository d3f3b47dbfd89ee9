use Rattle.std.proofs.Common.{◌+◌, ◌<◌, ◌^◌, [], arith, length, ap, ◌∙◌}
use Rattle.std.proofs.lemmas.Result.{IfOk-weaker}
use Rattle.meson_lex.specs.Items.{joined}
use Rattle.meson_lex.proofs.OneList.{one_list}
use Rattle.meson_layout.specs.Layout.{before_len, layout_of}
use Rattle.meson_layout.proofs.Fronts.{laid-by-front, up_to}
use Rattle.meson_layout.proofs.Near.{items-good}
use Rattle.meson_layout.proofs.Places.{first_fits}
use Rattle.meson_layout.proofs.Texts.{joined_take}
use Rattle.meson_layout.proofs.edits.layout.Goals as goal

pub end_of-requires : goal.end_of-requires
end_of-requires c =
    let size = ap length c.requires.are_items.joins in
    let fits : length (joined c.requires.items) + 1 < 2 ^ 64 = omega arith in
    first_fits c.args.primitive.now c.requires.items c.requires.placed fits

pub layout_items-requires-clause-fits : goal.layout_items-requires-clause-fits
layout_items-requires-clause-fits c =
    let size = ap length c.requires.are_items.joins in
    let short = joined_take (before_len c.end_of.result c.requires.items) c.requires.items in
    let read = ap (λ xs. length (joined xs)) (c.as_slice.ensures.value ∙ c.in_ok-items.ensures.done c.requires.items c.requires.are_items) in
    omega arith

pub layout_items-requires-clause-bracket : goal.layout_items-requires-clause-bracket
layout_items-requires-clause-bracket c =
    let size = ap length c.requires.are_items.joins in
    let fits : length (joined c.requires.items) + 1 < 2 ^ 64 = omega arith in
    first_fits c.args.primitive.now c.requires.items c.requires.placed fits

pub returns-clause-done : goal.returns-clause-done
returns-clause-done c =
    let size = ap length c.requires.are_items.joins in
    let fits : length (joined c.requires.items) + 1 < 2 ^ 64 = omega arith in
    let read = c.as_slice.ensures.value ∙ c.in_ok-items.ensures.done c.requires.items c.requires.are_items ∙ ap (λ n. up_to n c.requires.items) c.end_of.ensures in
    IfOk-weaker c.layout_items.result _ _ (λ v is items list.
    is
    ∙ ap (λ xs. layout_of c.args.file.now xs c.args.primitive.now) read
    ∙ laid-by-front c.args.file.now c.requires.items c.args.primitive.now c.requires.placed (items-good c.requires.items [] c.requires.are_items.each) fits
    ∙ ap (λ xs. layout_of c.args.file.now xs c.args.primitive.now) (one_list c.args.src.now c.requires.items items c.requires.are_items list)) c.layout_items.ensures.done
