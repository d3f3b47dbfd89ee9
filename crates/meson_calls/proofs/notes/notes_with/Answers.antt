use Rattle.meson_calls.proofs.Words.{if◌then◌else◌, ◌<◌, ◌≤◌, ◌++◌, [], length, ◌∙◌, sym, ap, subst, arith, bytes_at, IsSpanned, view, noted, taken_view}
use Rattle.meson_calls.proofs.Words.{parts_of_file, HasNoneOf}
use Rattle.meson_calls.proofs.CallsAt.{spanned_at}
use Rattle.meson_calls.proofs.Loads.{as_many}
use Rattle.meson_calls.proofs.NoteTurns.{GoesOn, all_files, goes_on, next_file}
use Rattle.meson_calls.proofs.notes.notes_with.Goals as goal

pub bytes-source-requires : goal.bytes-source-requires
bytes-source-requires c = omega (arith, c.loop-i-test.true, as_many c.args.files.now c.args.trees.now c.requires)

pub with_file-requires : goal.with_file-requires
with_file-requires c =
    let files = c.args.files.now in
    let i = c.loop-i.i in
    subst (λ bytes. IsSpanned bytes (view bytes c.index-trees-i.result)) (sym c.bytes-source.ensures)
    (subst (λ t. IsSpanned (bytes_at i files) (view (bytes_at i files) t)) (sym c.index-trees-i.is) (spanned_at files c.args.trees.now i c.index-trees-i.result c.loop-i-test.true c.requires))

pub loop-i-init : goal.loop-i-init
loop-i-init c = subst (GoesOn c.args.words.now.words.items c.args.files.now c.args.trees.now 0) (sym c.new-taken.ensures) (goes_on c.args.words.now.words.items c.args.files.now c.args.trees.now)

pub loop-i-preserved : goal.loop-i-preserved
loop-i-preserved c =
    let words = c.args.words.now.words.items in
    let files = c.args.files.now in
    let i = c.loop-i.i in
    let within : i < length files = omega (arith, as_many files c.args.trees.now c.requires) in
    let asked = c.may_stand_in-asked.result in
    let before = taken_view c.loop-i.taken in
    next_file words files c.args.trees.now i (record { name = []; bytes = [] }) c.index-trees-i.result before within c.loop-i-test.true c.loop-i.invariant asked _
    (λ no. subst (HasNoneOf words) c.bytes-source.ensures (c.may_stand_in-asked.ensures no))
    (c.in_ok-taken.ensures
    ∙ ap (λ b. if asked then before ++ noted (parts_of_file i (view b c.index-trees-i.result)) else before) c.bytes-source.ensures
    ∙ ap (λ t. if asked then before ++ noted (parts_of_file i (view (bytes_at i files) t)) else before) c.index-trees-i.is)

pub returns : goal.returns
returns c =
    let past : length c.args.files.now ≤ c.loop-i.i = omega (arith, as_many c.args.files.now c.args.trees.now c.requires) in
    all_files c.args.words.now.words.items c.args.files.now c.args.trees.now c.loop-i.i (taken_view c.loop-i.taken) past c.loop-i.invariant
