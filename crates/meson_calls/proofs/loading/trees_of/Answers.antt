use Rattle.meson_calls.proofs.Words.{◌+◌, ◌<◌, ◌≤◌, length, take, sym, subst, arith, [], take_all, File, MayNotRead, IsSpanned, view, AreParsed}
use Rattle.meson_calls.proofs.Loads.{parsed_more, have_trees, told_fault}
use Rattle.meson_calls.proofs.loading.trees_of.Goals as goal

nobody : File
nobody = record { name = []; bytes = [] }

pub returns-in-Err : goal.returns-in-Err
returns-in-Err c =
    let within : c.loop-index.index < length c.args.files.now = omega arith in
    let why = subst (λ bytes. MayNotRead bytes c.in-Err.fault) c.bytes.ensures c.in-Err.ensures.refused in
    record { ok = tt; err = told_fault c.args.files.now c.loop-index.index c.in-Err.fault _ c.told.ensures within (have_trees _ _ c.loop-index.invariant) why }

pub loop-index-preserved : goal.loop-index-preserved
loop-index-preserved c =
    let within : c.loop-index.index < length c.args.files.now = omega arith in
    let spanned = subst (λ bytes. IsSpanned bytes (view bytes c.in-Ok.tree)) c.bytes.ensures c.in-Ok.ensures.reads in
    let more = parsed_more c.args.files.now c.loop-index.trees.items c.loop-index.index nobody c.in-Ok.tree within c.loop-index.invariant spanned in
    subst (AreParsed (take (c.loop-index.index + 1) c.args.files.now)) (sym c.in_ok-push-in-Ok.ensures.items) more

pub returns-clause-ok : goal.returns-clause-ok
returns-clause-ok c =
    let past : length c.args.files.now ≤ c.loop-index.index = omega arith in
    subst (λ files. AreParsed files c.loop-index.trees.items) (take_all c.loop-index.index c.args.files.now past) c.loop-index.invariant
