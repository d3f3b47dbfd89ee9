use Rattle.std.proofs.Common.{get_or, sym, ap, ◌∙◌, is_some}
use Rattle.meson_lex.specs.declared.kinds.Span.{Span}
use Rattle.meson_splice.specs.Files.{bytes_at}
use Rattle.meson_syntax.specs.View.{expr_view, view}
use Rattle.meson_edit.specs.Assigned.{AssignedAt, assigned_at}
use Rattle.meson_calls.proofs.Loads.{as_many}
use Rattle.meson_places.proofs.AssignedPlaces.{assigned_there, not_past, some_mapped}
use Rattle.meson_places.proofs.assigned.is_assigned.Goals as goal

pub returns-then-place-sources : goal.returns-then-place-sources
returns-then-place-sources c = not_past c.args.sources.files.now c.args.sources.trees.now c.args.place.now c.if-place-sources.true

pub returns : goal.returns
returns c =
    let files = c.args.sources.files.now in
    let trees = c.args.sources.trees.now in
    let at_ = c.args.place.now in
    let source = bytes_at at_.file files in
    let d = c.index-sources-place.result in
    let tree = view source (get_or trees at_.file d) in
    c.is_some.ensures
    ∙ sym (some_mapped (λ e. expr_view source e.now) c.assigned_at.result)
    ∙ ap is_some (c.assigned_at.ensures source)
    ∙ some_mapped (λ (p : AssignedAt Span). p.value) _
    ∙ ap (λ s. is_some (assigned_at tree s)) (ap (λ q. q.path.steps) c.in_ok-statement.ensures)
    ∙ assigned_there files trees at_ d (as_many files trees c.requires) c.if-place-sources.false
