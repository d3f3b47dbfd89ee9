use Rattle.std.proofs.Common.{sym, ap, ap₂, ◌∙◌, subst}
use Rattle.meson_calls.specs.Setters.{AreKept}
use Rattle.meson_calls.specs.Notes.{note_views, taken_view}
use Rattle.meson_calls.specs.Spelling.{AreNotesWith, sought_words}
use Rattle.meson_plan.specs.inside.Orders.{sought}
use Rattle.meson_plan.proofs.planning.planned.Goals as goal

pub steps_of-requires : goal.steps_of-requires
steps_of-requires c =
    let files = c.args.files.now in
    let trees = c.args.trees.now in
    let words = sought_words (sought c.args.plan).0 (sought c.args.plan).1 in
    record {
      whole = c.requires.project;
      taken = subst (AreNotesWith words 0 files trees) (sym (ap note_views c.as_slice-2.ensures.value ∙ c.in_ok-notes.ensures))
          (subst (λ ws. AreNotesWith ws 0 files trees (taken_view c.in_ok-taken.taken)) (ap₂ sought_words c.sought-role.ensures.0 c.sought-role.ensures.1) c.in_ok-taken.ensures);
      kept = subst (λ ks. AreKept ks files trees) (sym c.as_slice.ensures.value) c.keep_for.ensures;
    }
