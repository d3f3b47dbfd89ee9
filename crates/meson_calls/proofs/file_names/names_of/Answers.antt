use Rattle.meson_calls.proofs.Words.{false, cond, ◌||◌, bytes_eq, ◌≡◌, ◌<◌, ◌≤◌, [], length, take, refl, sym, ap, ◌∙◌, arith, Bool, true, list_any_more, File}
use Rattle.meson_calls.proofs.Words.{is_file}
use Rattle.std.proofs.Common.{take_all}
use Rattle.meson_calls.proofs.file_names.names_of.Goals as goal

nobody : File
nobody = record { name = []; bytes = [] }

either : (b had : Bool) → cond b true had ≡ (had || b)
either true true = refl
either true false = refl
either false true = refl
either false false = refl

pub loop-i-preserved : goal.loop-i-preserved
loop-i-preserved c = λ x.
    let files = c.args.files.now in
    let i = c.loop-i.i in
    let within : i < length files = omega arith in
    let before = take i files in
    let here = bytes_eq c.name.result.now x in
    c.in_ok-insert.ensures.updates.0 (record { ref_ptr = (0, 0); now = x })
    ∙ ap (cond here true) (c.loop-i.invariant x)
    ∙ either here (is_file before x)
    ∙ ap (λ name. is_file before x || bytes_eq name x) (c.name.ensures nobody)
    ∙ sym (list_any_more (λ f. bytes_eq f.name x) files i nobody within)

pub returns : goal.returns
returns c =
    let files = c.args.files.now in
    let past : length files ≤ c.loop-i.i = omega arith in
    record { same = λ x. c.loop-i.invariant x ∙ ap (λ fs. is_file fs x) (take_all c.loop-i.i files past) }
