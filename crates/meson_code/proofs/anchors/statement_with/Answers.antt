use Rattle.std.proofs.Common.{◌≡◌, ◌∙◌, Some, sym, ap}
use Rattle.std.specs.Prelude.{option_map}
use Rattle.meson_splice.specs.Files.{bytes_at}
use Rattle.meson_syntax.specs.View.{stmt_view}
use Rattle.meson_calls.specs.Loading.{project}
use Rattle.meson_calls.proofs.Loads.{as_many}
use Rattle.meson_targets.specs.TargetEdits.{statement_of}
use Rattle.meson_targets.specs.inside.TargetViews.{place_view}
use Rattle.meson_places.specs.Names.{loaded_in}
use Rattle.meson_code.proofs.WithValue.{found_there, no_statement, none_there, with_value, without_value}
use Rattle.meson_code.proofs.anchors.statement_with.Goals.{in_default-stmt_at-via-in-Some-stmt_at+else-holds_value, in_default-stmt_at-via-in_default-stmt_at}
use Rattle.meson_code.proofs.anchors.statement_with.Goals as goal

pub returns-then-found-sources : goal.returns-then-found-sources
returns-then-found-sources c =
    let a = place_view c.in-Some.found in
    let of : Some a ≡ statement_of c.args.place.now = ap (option_map place_view) (sym c.in-Some.is) ∙ c.in_ok-found.ensures in
    no_statement (project (loaded_in c.args.sources)) c.args.place.now a of (none_there c.args.sources.files.now c.args.sources.trees.now a c.if-found-sources.true)

pub returns-in-Some-stmt_at : goal.returns-in-Some-stmt_at
returns-in-Some-stmt_at c =
    let files = c.args.sources.files.now in
    let trees = c.args.sources.trees.now in
    let a = place_view c.in-Some.found in
    let of : Some a ≡ statement_of c.args.place.now = ap (option_map place_view) (sym c.in-Some.is) ∙ c.in_ok-found.ensures in
    let bytes = bytes_at a.block.file files in
    let there =
    found_there files trees a c.index-sources-found.result (as_many files trees c.requires) c.if-found-sources.false
    ∙ sym (c.in-Some-stmt_at.ensures bytes) in
    with_value (project (loaded_in c.args.sources)) c.args.place.now a of (stmt_view bytes c.in-Some-stmt_at.stmt.now) there (sym (c.holds_value.ensures bytes) ∙ c.if-holds_value.true)

pub returns-in_default-stmt_at : goal.returns-in_default-stmt_at
returns-in_default-stmt_at c =
    let files = c.args.sources.files.now in
    let trees = c.args.sources.trees.now in
    let a = place_view c.in-Some.found in
    let of : Some a ≡ statement_of c.args.place.now = ap (option_map place_view) (sym c.in-Some.is) ∙ c.in_ok-found.ensures in
    let bytes = bytes_at a.block.file files in
    let whole = found_there files trees a c.index-sources-found.result (as_many files trees c.requires) c.if-found-sources.false in
    elim c.in_default-stmt_at.branch [
      | in_default-stmt_at-via-in-Some-stmt_at+else-holds_value w ↦
          without_value (project (loaded_in c.args.sources)) c.args.place.now a of (stmt_view bytes w.in-Some-stmt_at.stmt.now) (whole ∙ sym (w.in-Some-stmt_at.ensures bytes)) (sym (w.holds_value.ensures bytes) ∙ w.if-holds_value.false)
      | in_default-stmt_at-via-in_default-stmt_at w ↦
          no_statement (project (loaded_in c.args.sources)) c.args.place.now a of (whole ∙ sym (ap (option_map (λ s. stmt_view bytes s.now)) (sym w.in_default-stmt_at.is) ∙ c.stmt_at.ensures bytes))
    ]
