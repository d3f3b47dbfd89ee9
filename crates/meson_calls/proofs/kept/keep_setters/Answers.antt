use Rattle.meson_calls.proofs.Words.{◌+◌, ◌<◌, ◌∙◌, length, sym, subst, arith, bytes_at, IsSpanned, view, parts_of_file, IsKept}
use Rattle.meson_calls.proofs.CallsAt.{spanned_at}
use Rattle.meson_calls.proofs.Loads.{as_many}
use Rattle.meson_calls.proofs.SettersKept.{KeptUpTo, next_known, next_read}
use Rattle.meson_calls.proofs.kept.keep_setters.Goals.{then-not-is_known+in_ok-kept+in-Assignments-1, then-not-is_known+in_ok-kept+in-Unknown-1}
use Rattle.meson_calls.proofs.kept.keep_setters.Goals.{else-not-is_known}
use Rattle.meson_calls.proofs.kept.keep_setters.Goals as goal

pub bytes-requires : goal.bytes-requires
bytes-requires c = omega (arith, c.loop-i-test.true, as_many c.args.files.now c.args.trees.now c.requires.parsed)

pub read-requires-clause-spanned : goal.read-requires-clause-spanned
read-requires-clause-spanned c =
    let files = c.args.files.now in
    let i = c.loop-i.i in
    let t = c.index-trees-i.result in
    subst (λ bytes. IsSpanned bytes (view bytes t)) (sym c.bytes.ensures)
    (subst (λ u. IsSpanned (bytes_at i files) (view (bytes_at i files) u)) (sym c.index-trees-i.is) (spanned_at files c.args.trees.now i t c.loop-i-test.true c.requires.parsed))

pub loop-i-preserved : goal.loop-i-preserved
loop-i-preserved c =
    let files = c.args.files.now in
    let trees = c.args.trees.now in
    let i = c.loop-i.i in
    let so_far = c.loop-i.invariant in
    let inside : i < length trees = c.loop-i-test.true in
    elim c.if-not-is_known.branch [
      | then-not-is_known+in_ok-kept+in-Assignments-1 w ↦
          let t = w.index-trees-i.result in
          let e = w.in_ok-kept.field-0 in
          let here = subst (λ bytes. IsKept e (parts_of_file i (view bytes t))) w.bytes.ensures w.in_ok-kept.ensures.kept in
          subst (λ ks. KeptUpTo (i + 1) files trees ks.items) (sym w.kept-is)
          (next_read files trees i c.loop-i.kept.items inside so_far t w.index-trees-i.is e w.in_ok-kept.ensures.known here)
      | then-not-is_known+in_ok-kept+in-Unknown-1 w ↦
          let t = w.index-trees-i.result in
          let e = w.in_ok-kept.field-0 in
          let here = subst (λ bytes. IsKept e (parts_of_file i (view bytes t))) w.bytes.ensures w.in_ok-kept.ensures.kept in
          subst (λ ks. KeptUpTo (i + 1) files trees ks.items) (sym w.kept-is)
          (next_read files trees i c.loop-i.kept.items inside so_far t w.index-trees-i.is e w.in_ok-kept.ensures.known here)
      | else-not-is_known w ↦
          subst (λ ks. KeptUpTo (i + 1) files trees ks.items) (sym w.kept-is)
          (next_known files trees i c.loop-i.kept.items inside so_far c.index.result.now c.index.ensures (sym c.is_known.ensures ∙ w.if-not-is_known.false))
    ]

pub returns-clause-known : goal.returns-clause-known
returns-clause-known c = λ k within.
    let below : k < c.loop-i.i = omega (arith, within, c.loop-i-test.false, as_many c.args.files.now c.args.trees.now c.requires.parsed) in
    c.loop-i.invariant.known k below
