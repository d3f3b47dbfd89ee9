use Rattle.meson_calls.proofs.Words.{◌<◌, ◌≤◌, length, ◌∙◌, sym, ap, subst, arith, bytes_at, IsSpanned, view, parts_of_file, keeper_view, with_parts}
use Rattle.meson_calls.proofs.CallsAt.{spanned_at}
use Rattle.meson_calls.proofs.Loads.{as_many}
use Rattle.meson_calls.proofs.FileTurns.{file_turn, files_ended}
use Rattle.meson_calls.proofs.walk_statements.walk_files.Goals as goal

pub bytes-requires : goal.bytes-requires
bytes-requires c = omega (arith, c.loop-i-test.true, as_many c.args.files.now c.args.trees.now c.requires)

pub walk_file-requires : goal.walk_file-requires
walk_file-requires c =
    let files = c.args.files.now in
    let i = c.loop-i.i in
    subst (λ bytes. IsSpanned bytes (view bytes c.index-trees-i.result)) (sym c.bytes.ensures)
    (subst (λ t. IsSpanned (bytes_at i files) (view (bytes_at i files) t)) (sym c.index-trees-i.is) (spanned_at files c.args.trees.now i c.index-trees-i.result c.loop-i-test.true c.requires))

pub loop-i-preserved : goal.loop-i-preserved
loop-i-preserved c =
    let within : c.loop-i.i < length c.args.files.now = omega (arith, as_many c.args.files.now c.args.trees.now c.requires) in
    let before = keeper_view c.loop-i.keeper in
    file_turn c.args.files.now c.args.trees.now c.loop-i.i c.index-trees-i.result before _ _ within c.loop-i-test.true
    (c.in_ok-walk_file.ensures
    ∙ ap (λ bytes. with_parts before (parts_of_file c.loop-i.i (view bytes c.index-trees-i.result))) c.bytes.ensures
    ∙ ap (λ t. with_parts before (parts_of_file c.loop-i.i (view (bytes_at c.loop-i.i c.args.files.now) t))) c.index-trees-i.is)
    c.loop-i.invariant

pub returns : goal.returns
returns c =
    let past : length c.args.files.now ≤ c.loop-i.i = omega (arith, as_many c.args.files.now c.args.trees.now c.requires) in
    files_ended c.args.files.now c.args.trees.now c.loop-i.i _ _ past c.loop-i.invariant
