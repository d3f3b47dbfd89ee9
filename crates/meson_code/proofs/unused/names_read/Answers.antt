use Rattle.std.proofs.Common.{◌≡◌, ◌<◌, ◌∷◌, ◌++◌, [], length, sym, ap, ap₂, ◌∙◌, arith}
use Rattle.std.specs.Prelude.{true, false}
use Rattle.meson_calls.specs.Loading.{project}
use Rattle.meson_calls.specs.Notes.{note_view}
use Rattle.meson_targets.specs.inside.TargetViews.{place_view}
use Rattle.meson_places.specs.Names.{loaded_in}
use Rattle.meson_code.specs.Unused.{assigned_name, is_read_within}
use Rattle.meson_code.proofs.Gathered.{none_more, not_more, one_more}
use Rattle.meson_code.proofs.unused.names_read.Goals as goal
use Rattle.meson_code.proofs.unused.names_read.Goals.{then-branch+in_ok-from_slice+in_ok-push, else-branch}

pub loop-i-preserved-in_default : goal.loop-i-preserved-in_default
loop-i-preserved-in_default c =
    let notes = c.in_ok-notes.notes.items in
    let reads = is_read_within (project (loaded_in c.args.sources)) (place_view c.args.statement.now) in
    let within : c.loop-i.i < length notes = omega (arith, c.loop-i-test.true, c.len-i-end.ensures) in
    c.loop-i.invariant ∙ none_more reads notes c.loop-i.i c.index.result.now within (c.in_default.ensures ∙ ap (λ n. assigned_name (note_view n).it) c.index.ensures)

pub loop-i-preserved : goal.loop-i-preserved
loop-i-preserved c =
    let notes = c.in_ok-notes.notes.items in
    let p = project (loaded_in c.args.sources) in
    let a = place_view c.args.statement.now in
    let reads = is_read_within p a in
    let x = c.in-Some.name.now in
    let within : c.loop-i.i < length notes = omega (arith, c.loop-i-test.true, c.len-i-end.ensures) in
    let is = c.in-Some.ensures ∙ ap (λ n. assigned_name (note_view n).it) c.index.ensures in
    elim c.if-branch.branch [
      | then-branch+in_ok-from_slice+in_ok-push w ↦
          let read : is_read_within p a x ≡ true = sym c.in_ok-is_read_within.ensures ∙ w.if-branch.true in
          let it : w.of.result ≡ x = w.of.ensures ∙ w.in_ok-from_slice.ensures.items in
          ap (λ v. v.items) w.names-is ∙ w.in_ok-push.ensures.items ∙ ap₂ (λ ns y. ns ++ y ∷ []) c.loop-i.invariant it
          ∙ one_more reads notes c.loop-i.i c.index.result.now within x is read
      | else-branch w ↦
          let read : is_read_within p a x ≡ false = sym c.in_ok-is_read_within.ensures ∙ w.if-branch.false in
          ap (λ v. v.items) w.names-is ∙ c.loop-i.invariant ∙ not_more reads notes c.loop-i.i c.index.result.now within x is read
    ]
