use Rattle.std.proofs.Common.{◌++◌, refl, ap, ◌∙◌}
use Rattle.std.specs.Prelude.{flat_map}
use Rattle.meson_calls.specs.Notes.{note_view, note_views}
use Rattle.meson_places.specs.Colons.{keyword_ends}
use Rattle.meson_places.proofs.Pushed.{pushed_more}
use Rattle.meson_places.proofs.colon.all_keyword_ends.Goals as goal

pub loop-i-preserved : goal.loop-i-preserved
loop-i-preserved c =
    let old = c.loop-i.ends.items in
    pushed_more (λ ns. flat_map (λ m. keyword_ends m.it) (note_views ns)) (λ n. keyword_ends (note_view n).it) (λ n ns. refl) c.args.notes.now c.loop-i.i c.index-notes-i.result c.loop-i-test.true old
    c.push_keyword_ends.new.ends.items (c.in_ok-push_keyword_ends.ensures ∙ ap (λ n. old ++ keyword_ends (note_view n).it) c.index-notes-i.is)
    ∙ c.loop-i.invariant
