use Rattle.std.proofs.Common.{rules, ◌≡◌, ◌<◌, ◌≤◌, [], None, length, arith, ap, sym, ◌∙◌, string_bytes}
use Rattle.std.specs.Prelude.{option_map}
use Rattle.std.specs.List.{cons_option, filter_map}
use Rattle.meson_calls.specs.Entering.{folder_file}
use Rattle.meson_entering.proofs.Turns.{chosen_through, ended, next, optional, with_none, with_one}
use Rattle.meson_entering.proofs.entering.files_meant.Goals as goal
use Rattle.meson_entering.proofs.entering.files_meant.Goals.{in-Some+in_ok-push, in_default}

pub loop-i-preserved : goal.loop-i-preserved
loop-i-preserved c =
    let file = folder_file c.args.reading c.args.file.name.now in
    let folders = c.in_ok-folders.folders.items in
    let within : c.loop-i.i < length folders = omega (arith, c.loop-i-test.true, c.len-i-end.ensures) in
    let is = sym (c.in_ok-name.ensures ∙ ap file c.as_str.ensures.value ∙ ap (λ s. file (string_bytes s)) c.index.ensures) in
    let turn = next (λ folder. cons_option (file (string_bytes folder)) []) folders c.loop-i.i c.index.result.now in
    elim c.match-branch-3.branch [
      | in-Some+in_ok-push w ↦
          turn _ _ _ within (with_one string_bytes _ _ _ w.in-Some.name (is ∙ ap (option_map string_bytes) w.in-Some.is) (ap (λ v. v.items) w.names-is ∙ w.in_ok-push.ensures.items)) c.loop-i.invariant
      | in_default w ↦
          let none : c.in_ok-name.field-0 ≡ None = search rules in
          turn _ _ _ within (with_none string_bytes _ _ _ (is ∙ ap (option_map string_bytes) none) (ap (λ v. v.items) w.names-is)) c.loop-i.invariant
    ]

pub returns : goal.returns
returns c = λ function.
    let file = folder_file c.args.reading c.args.file.name.now in
    let folders = c.in_ok-folders.folders.items in
    let past : length folders ≤ c.loop-i.i = omega (arith, c.loop-i-test.false, c.len-i-end.ensures) in
    ended (λ folder. cons_option (file (string_bytes folder)) []) folders c.loop-i.i _ _ past c.loop-i.invariant
    ∙ sym (optional (λ folder. file (string_bytes folder)) folders) ∙ chosen_through file string_bytes folders ∙ ap (filter_map file) (c.in_ok-folders.ensures function)
