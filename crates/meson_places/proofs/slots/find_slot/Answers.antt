use Rattle.std.proofs.Common.{sym, ap, ◌∙◌, subst, arith}
use Rattle.meson_splice.specs.Files.{bytes_at}
use Rattle.meson_syntax.specs.Grammar.{expression_words}
use Rattle.meson_syntax.specs.View.{expr_view}
use Rattle.meson_calls.specs.Loading.{project}
use Rattle.meson_calls.specs.Strings.{AreGood}
use Rattle.meson_calls.proofs.Loads.{as_many}
use Rattle.meson_places.specs.declared.slots.Slot.TheVariants as slot
use Rattle.meson_places.specs.Names.{loaded_in}
use Rattle.meson_places.specs.Slots.{slot_in, the_slot}
use Rattle.meson_places.proofs.Refused.{refused_as, found_as}
use Rattle.meson_places.proofs.Standing.{no_slot, past_files, slot_there, value_good}
use Rattle.meson_places.proofs.slots.find_slot.Goals as goal

pub returns-then-place-sources-clause-refused : goal.returns-then-place-sources-clause-refused
returns-then-place-sources-clause-refused c = λ other.
    past_files c.args.sources.files.now c.args.sources.trees.now c.args.place.now c.args.keys.now c.if-place-sources.true

pub bytes-source-requires : goal.bytes-source-requires
bytes-source-requires c =
    let many = as_many c.args.sources.files.now c.args.sources.trees.now c.requires in
    omega arith

pub slot_in-requires : goal.slot_in-requires
slot_in-requires c =
    let files = c.args.sources.files.now in
    let trees = c.args.sources.trees.now in
    let at_ = c.args.place.now in
    let bytes = bytes_at at_.file files in
    let is = c.in-Some.ensures bytes in
    subst (λ s. AreGood (expression_words (expr_view s c.in-Some.value.now))) (sym c.bytes-source.ensures)
    (value_good files trees at_ c.index-sources-place.result (as_many files trees c.requires) c.if-place-sources.false (expr_view bytes c.in-Some.value.now) c.requires is)

pub returns-in_ok-copy_place-in-Some-clause-found : goal.returns-in_ok-copy_place-in-Some-clause-found
returns-in_ok-copy_place-in-Some-clause-found c =
    let files = c.args.sources.files.now in
    let trees = c.args.sources.trees.now in
    let at_ = c.args.place.now in
    let keys = c.args.keys.now in
    let bytes = bytes_at at_.file files in
    let value = c.in-Some.value.now in
    let is = c.in-Some.ensures bytes in
    let e = expr_view c.bytes-source.result.now value in
    let whole = c.in_ok-whole-in-Some.whole in
    found_as c.slot_in.result (the_slot (project (loaded_in c.args.sources)) at_ keys) (slot_in c.in_ok-copy_place-in-Some.field-0 e (slot.Whole whole) keys)
    (slot_there files trees at_ c.index-sources-place.result (as_many files trees c.requires) c.if-place-sources.false keys (expr_view bytes value) is
    ∙ ap (λ s. slot_in at_ (expr_view s value) (slot.Whole at_) keys) (sym c.bytes-source.ensures)
    ∙ ap (λ q. slot_in at_ e (slot.Whole q) keys) (sym c.in_ok-whole-in-Some.ensures)
    ∙ ap (λ q. slot_in q e (slot.Whole whole) keys) (sym c.in_ok-copy_place-in-Some.ensures))
    c.slot_in.ensures.found

pub returns-in_ok-copy_place-in-Some-clause-refused : goal.returns-in_ok-copy_place-in-Some-clause-refused
returns-in_ok-copy_place-in-Some-clause-refused c =
    let files = c.args.sources.files.now in
    let trees = c.args.sources.trees.now in
    let at_ = c.args.place.now in
    let keys = c.args.keys.now in
    let bytes = bytes_at at_.file files in
    let value = c.in-Some.value.now in
    let is = c.in-Some.ensures bytes in
    let e = expr_view c.bytes-source.result.now value in
    let whole = c.in_ok-whole-in-Some.whole in
    refused_as c.slot_in.result (the_slot (project (loaded_in c.args.sources)) at_ keys) (slot_in c.in_ok-copy_place-in-Some.field-0 e (slot.Whole whole) keys)
    (slot_there files trees at_ c.index-sources-place.result (as_many files trees c.requires) c.if-place-sources.false keys (expr_view bytes value) is
    ∙ ap (λ s. slot_in at_ (expr_view s value) (slot.Whole at_) keys) (sym c.bytes-source.ensures)
    ∙ ap (λ q. slot_in at_ e (slot.Whole q) keys) (sym c.in_ok-whole-in-Some.ensures)
    ∙ ap (λ q. slot_in q e (slot.Whole whole) keys) (sym c.in_ok-copy_place-in-Some.ensures))
    c.slot_in.ensures.refused

pub returns-in-None-clause-refused : goal.returns-in-None-clause-refused
returns-in-None-clause-refused c = λ other.
    let files = c.args.sources.files.now in
    let trees = c.args.sources.trees.now in
    let at_ = c.args.place.now in
    let bytes = bytes_at at_.file files in
    no_slot files trees at_ c.index-sources-place.result (as_many files trees c.requires) c.if-place-sources.false c.args.keys.now
    (c.in-None.ensures bytes)
