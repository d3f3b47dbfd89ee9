use Rattle.meson_calls.proofs.Words.{All, ◌<◌, ◌≤◌, length, sym, ◌∙◌, subst, arith, [], take_all, File, IsFileName, HasFileName}
use Rattle.meson_calls.proofs.Loads.{all_more, nth_name}
use Rattle.meson_calls.proofs.loading.first_bad_name.Goals as goal

nobody : File
nobody = record { name = []; bytes = [] }

pub returns-then-not-is_file_name : goal.returns-then-not-is_file_name
returns-then-not-is_file_name c =
    let within : c.loop-i.i < length c.args.files.now = omega arith in
    let is = c.as_bytes.ensures.value ∙ c.name.ensures nobody ∙ sym (nth_name c.args.files.now c.loop-i.i nobody within) in
    record { below = within; before = c.loop-i.invariant; bad = λ name. let so = c.is_file_name.ensures.1 (subst IsFileName (sym is) name) in cc }

pub loop-i-preserved : goal.loop-i-preserved
loop-i-preserved c =
    let within : c.loop-i.i < length c.args.files.now = omega arith in
    let is = c.as_bytes.ensures.value ∙ c.name.ensures nobody in
    all_more HasFileName c.args.files.now c.loop-i.i nobody within c.loop-i.invariant (subst IsFileName is (c.is_file_name.ensures.0 c.if-not-is_file_name.false))

pub returns : goal.returns
returns c =
    let past : length c.args.files.now ≤ c.loop-i.i = omega arith in
    subst (All HasFileName) (take_all c.loop-i.i c.args.files.now past) c.loop-i.invariant
