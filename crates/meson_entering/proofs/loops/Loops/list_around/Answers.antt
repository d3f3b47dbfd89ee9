use Rattle.std.proofs.Common.{◌≡◌, ap, sym, ◌∙◌, true, nat_eq}
use Rattle.std.specs.List.{starts_with}
use Rattle.meson_syntax.specs.Paths.{expression_on_path}
use Rattle.meson_syntax.specs.View.{names_at, view}
use Rattle.meson_calls.specs.Notes.{what_view}
use Rattle.meson_entering.specs.Loops.{is_first, is_in_body}
use Rattle.meson_entering.proofs.Around.{around_is}
use Rattle.meson_entering.proofs.loops.Loops.list_around.Goals as goal

pub returns : goal.returns
returns c =
    let source = c.args.self.now.source.now in
    let tree = view source c.args.self.now.tree.now in
    let note = c.args.note.now in
    let loop = note.place.path.now in
    let path = c.args.path.now in
    let first : is_first c.args.name.now (names_at note.source.now c.in-Loop.names.now) ≡ true = sym c.is_first.ensures ∙ c.if-not-is_first.false in
    let inside : is_in_body loop path ≡ true = ap (starts_with nat_eq path) (sym (c.as_slice.ensures.value ∙ c.in_ok-body.ensures)) ∙ sym c.starts_with.ensures.value ∙ c.if-not-starts_with.false in
    c.expr_at.ensures source ∙ ap (expression_on_path tree) (c.of.ensures ∙ c.in_ok-child_of.ensures)
    ∙ sym (around_is tree c.args.name.now path loop (what_view note.source.now note.what) _ true true (ap (what_view note.source.now) c.in-Loop.is) first inside)
