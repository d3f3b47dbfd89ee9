use Rattle.std.proofs.Common.{◌<◌, ◌≤◌, length, ◌∙◌, sym, ap, subst, arith}
use Rattle.meson_splice.specs.Files.{bytes_at}
use Rattle.meson_syntax.specs.Reads.{IsSpanned}
use Rattle.meson_syntax.specs.View.{view}
use Rattle.meson_calls.specs.Parts.{parts_of_file}
use Rattle.meson_calls.proofs.CallsAt.{spanned_at}
use Rattle.meson_calls.proofs.Loads.{as_many}
use Rattle.meson_inventory.specs.Assignments.{assignments_among}
use Rattle.meson_inventory.proofs.AssignmentsListed.{all_added, file_added}
use Rattle.meson_inventory.proofs.assignments.assignments_of.Goals as goal

pub bytes-requires : goal.bytes-requires
bytes-requires c = omega (arith, c.loop-i-test.true, as_many c.args.files.now c.args.trees.now c.requires)

pub assignments_in-requires : goal.assignments_in-requires
assignments_in-requires c =
    let files = c.args.files.now in
    let i = c.loop-i.i in
    subst (λ bytes. IsSpanned bytes (view bytes c.index-trees-i.result)) (sym c.bytes.ensures)
    (subst (λ t. IsSpanned (bytes_at i files) (view (bytes_at i files) t)) (sym c.index-trees-i.is) (spanned_at files c.args.trees.now i c.index-trees-i.result c.loop-i-test.true c.requires))

pub loop-i-preserved : goal.loop-i-preserved
loop-i-preserved c =
    let files = c.args.files.now in
    let i = c.loop-i.i in
    let within : i < length files = omega (arith, c.loop-i-test.true, as_many files c.args.trees.now c.requires) in
    file_added files c.args.trees.now i c.index-trees-i.result c.loop-i.all.items c.in_ok-held.held.items _ _ within c.loop-i-test.true
    (c.in_ok-held.ensures
    ∙ ap (λ bytes. assignments_among (parts_of_file i (view bytes c.index-trees-i.result))) c.bytes.ensures
    ∙ ap (λ t. assignments_among (parts_of_file i (view (bytes_at i files) t))) c.index-trees-i.is)
    c.in_ok-append.ensures.items
    c.loop-i.invariant

pub returns : goal.returns
returns c =
    let past : length c.args.files.now ≤ c.loop-i.i = omega (arith, as_many c.args.files.now c.args.trees.now c.requires) in
    all_added c.args.files.now c.args.trees.now c.loop-i.i _ _ past c.loop-i.invariant
