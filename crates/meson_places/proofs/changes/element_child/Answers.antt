use Rattle.std.proofs.Common.{◌<◌, length, sym, ap, ◌∙◌, arith}
use Rattle.std.specs.Prelude.{option_and_then}
use Rattle.meson_splice.specs.Files.{bytes_at}
use Rattle.meson_syntax.specs.View.{expr_view}
use Rattle.meson_calls.proofs.Loads.{as_many}
use Rattle.meson_places.specs.Slots.{elements_in, nth_child}
use Rattle.meson_places.proofs.Refused.{always}
use Rattle.meson_places.proofs.Standing.{past_all, stands, value_good}
use Rattle.meson_places.proofs.changes.element_child.Goals as goal

pub returns-then-list-sources-clause-child : goal.returns-then-list-sources-clause-child
returns-then-list-sources-clause-child c =
    sym (ap (option_and_then (λ e. nth_child 0 (elements_in e) c.args.number)) (past_all c.args.sources.files.now c.args.sources.trees.now c.args.list.now c.if-list-sources.true))

pub returns-in-Some-clause-child : goal.returns-in-Some-clause-child
returns-in-Some-clause-child c =
    let files = c.args.sources.files.now in
    let trees = c.args.sources.trees.now in
    let at_ = c.args.list.now in
    let bytes = bytes_at at_.file files in
    c.nth_child.ensures.child bytes ∙ ap (λ xs. nth_child 0 xs c.args.number) (c.elements_in.ensures.elements bytes)
    ∙ sym (ap (option_and_then (λ e. nth_child 0 (elements_in e) c.args.number))
    (stands files trees at_ c.index-sources-list.result (as_many files trees c.requires) c.if-list-sources.false ∙ sym (c.in-Some.ensures bytes)))

pub returns-in-Some-clause-good : goal.returns-in-Some-clause-good
returns-in-Some-clause-good c =
    let files = c.args.sources.files.now in
    let trees = c.args.sources.trees.now in
    let at_ = c.args.list.now in
    let bytes = bytes_at at_.file files in
    c.nth_child.ensures.good bytes (c.elements_in.ensures.good bytes
    (value_good files trees at_ c.index-sources-list.result (as_many files trees c.requires) c.if-list-sources.false (expr_view bytes c.in-Some.value.now) c.requires (c.in-Some.ensures bytes)))

pub returns-in-Some-clause-file : goal.returns-in-Some-clause-file
returns-in-Some-clause-file c =
    let many = as_many c.args.sources.files.now c.args.sources.trees.now c.requires in
    let within : c.args.list.now.file < length c.args.sources.files.now = omega arith in
    always c.nth_child.result (c.args.list.now.file < length c.args.sources.files.now) within

pub returns-in-None-clause-child : goal.returns-in-None-clause-child
returns-in-None-clause-child c =
    let files = c.args.sources.files.now in
    let trees = c.args.sources.trees.now in
    let at_ = c.args.list.now in
    let bytes = bytes_at at_.file files in
    sym (ap (option_and_then (λ e. nth_child 0 (elements_in e) c.args.number))
    (stands files trees at_ c.index-sources-list.result (as_many files trees c.requires) c.if-list-sources.false ∙ sym (c.in-None.ensures bytes)))
