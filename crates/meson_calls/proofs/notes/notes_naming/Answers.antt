use Rattle.meson_calls.proofs.Words.{MatchOption, ⊤, ◌<◌, ◌≤◌, [], length, sym, subst, arith, bytes_at, IsSpanned, view, taken_view, parts_of_file, IsKept}
use Rattle.meson_calls.proofs.Words.{ComeBehind}
use Rattle.meson_calls.proofs.CallsAt.{spanned_at}
use Rattle.meson_calls.proofs.Loads.{as_many}
use Rattle.meson_calls.proofs.SetterTurns.{SettersGoOn, all_setters, setters_go_on, next_setters}
use Rattle.meson_calls.proofs.SettersKept.{entry_kept}
use Rattle.meson_calls.proofs.notes.notes_naming.Goals as goal

pub bytes-source-requires : goal.bytes-source-requires
bytes-source-requires c = omega (arith, c.loop-i-test.true, as_many c.args.files.now c.args.trees.now c.requires.parsed)

pub with_kept-requires-clause-spanned : goal.with_kept-requires-clause-spanned
with_kept-requires-clause-spanned c =
    let files = c.args.files.now in
    let i = c.loop-i.i in
    subst (λ bytes. IsSpanned bytes (view bytes c.index-trees-i.result)) (sym c.bytes-source.ensures)
    (subst (λ t. IsSpanned (bytes_at i files) (view (bytes_at i files) t)) (sym c.index-trees-i.is) (spanned_at files c.args.trees.now i c.index-trees-i.result c.loop-i-test.true c.requires.parsed))

pub with_kept-requires-clause-kept : goal.with_kept-requires-clause-kept
with_kept-requires-clause-kept c =
    let files = c.args.files.now in
    let i = c.loop-i.i in
    let t = c.index-trees-i.result in
    let e = c.entry.result in
    subst (λ bytes. MatchOption e ⊤ (λ k. IsKept k.now (parts_of_file i (view bytes t)))) (sym c.bytes-source.ensures)
    (subst (λ u. MatchOption e ⊤ (λ k. IsKept k.now (parts_of_file i (view (bytes_at i files) u)))) (sym c.index-trees-i.is)
    (entry_kept c.args.kept.now files c.args.trees.now i t c.requires.kept e c.entry.ensures))

pub loop-i-init : goal.loop-i-init
loop-i-init c = subst (SettersGoOn c.args.names.now c.args.files.now c.args.trees.now 0) (sym c.new-taken.ensures) (setters_go_on c.args.names.now c.args.files.now c.args.trees.now)

pub loop-i-preserved : goal.loop-i-preserved
loop-i-preserved c =
    let names = c.args.names.now in
    let files = c.args.files.now in
    let i = c.loop-i.i in
    let within : i < length files = omega (arith, as_many files c.args.trees.now c.requires.parsed) in
    let before = taken_view c.loop-i.taken in
    let after = taken_view c.in_ok-taken.taken in
    let t = c.index-trees-i.result in
    let come = subst (λ u. ComeBehind names i (bytes_at i files) u before after) c.index-trees-i.is
    (subst (λ bytes. ComeBehind names i bytes t before after) c.bytes-source.ensures c.in_ok-taken.ensures) in
    next_setters names files c.args.trees.now i (record { name = []; bytes = [] }) t before within c.loop-i-test.true c.loop-i.invariant come.all after come.few come.are

pub returns : goal.returns
returns c =
    let past : length c.args.files.now ≤ c.loop-i.i = omega (arith, as_many c.args.files.now c.args.trees.now c.requires.parsed) in
    all_setters c.args.names.now c.args.files.now c.args.trees.now c.loop-i.i (taken_view c.loop-i.taken) past c.loop-i.invariant
