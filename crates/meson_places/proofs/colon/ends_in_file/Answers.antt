use Rattle.std.proofs.Common.{◌≡◌, ℕ, List, ◌++◌, ◌∙◌, get_or, sym, ap, subst, arith}
use Rattle.std.specs.Prelude.{flat_map}
use Rattle.meson_splice.specs.Files.{bytes_at}
use Rattle.meson_syntax.specs.Reads.{IsSpanned}
use Rattle.meson_syntax.specs.View.{view}
use Rattle.meson_lex.specs.declared.kinds.Span.{Span}
use Rattle.meson_calls.specs.declared.keeper.Opened.{Opened}
use Rattle.meson_calls.specs.Notes.{Note, note_views, noted}
use Rattle.meson_calls.specs.Project.{Placed}
use Rattle.meson_calls.specs.Parts.{parts_of_file}
use Rattle.meson_calls.specs.Walks.{lists_opened}
use Rattle.meson_calls.proofs.CallsAt.{spanned_at}
use Rattle.meson_calls.proofs.Loads.{as_many}
use Rattle.meson_calls.proofs.Standing.{nth_past, nth_there}
use Rattle.meson_places.specs.Colons.{ends_among, entry_ends, keyword_ends}
use Rattle.meson_places.proofs.colon.ends_in_file.Goals as goal

pub returns-then-file-sources : goal.returns-then-file-sources
returns-then-file-sources c =
    let files = c.args.sources.files.now in
    let file = c.args.file in
    c.new.ensures.items ∙ sym (ap (ends_among file) (nth_past files c.args.sources.trees.now file c.if-file-sources.true))

pub bytes-source-requires : goal.bytes-source-requires
bytes-source-requires c =
    let many = as_many c.args.sources.files.now c.args.sources.trees.now c.requires in
    omega arith

pub notes_in-requires : goal.notes_in-requires
notes_in-requires c =
    let files = c.args.sources.files.now in
    let trees = c.args.sources.trees.now in
    let file = c.args.file in
    let there = c.index-sources-file.result in
    subst (λ bytes. IsSpanned bytes (view bytes (get_or trees file there))) (sym c.bytes-source.ensures) (spanned_at files trees file there c.if-file-sources.false c.requires)

pub lists_of-requires : goal.lists_of-requires
lists_of-requires c =
    let files = c.args.sources.files.now in
    let trees = c.args.sources.trees.now in
    let file = c.args.file in
    let there = c.index-sources-file.result in
    subst (λ bytes. IsSpanned bytes (view bytes (get_or trees file there))) (sym c.bytes-source.ensures) (spanned_at files trees file there c.if-file-sources.false c.requires)

pub returns : goal.returns
returns c =
    let files = c.args.sources.files.now in
    let trees = c.args.sources.trees.now in
    let file = c.args.file in
    let there = c.index-sources-file.result in
    let bytes = bytes_at file files in
    let tree = get_or trees file there in
    let all : List ℕ → List Opened → List ℕ = λ ns ls. ns ++ flat_map (entry_ends (view bytes tree)) ls in
    let kept : List (Placed (Note Span)) → List ℕ = λ ns. flat_map (λ m. keyword_ends m.it) ns in
    let keywords : c.in_ok-ends.ends.items ≡ kept (noted (parts_of_file file (view bytes tree))) =
    c.in_ok-ends.ensures ∙ ap (λ ns. kept (note_views ns)) c.as_slice.ensures.value ∙ ap kept (c.in_ok-notes.ensures ∙ c.in_ok-taken.ensures)
    ∙ ap (λ b. kept (noted (parts_of_file file (view b tree)))) c.bytes-source.ensures in
    let lists : c.as_slice-2.result.now ≡ lists_opened (parts_of_file file (view bytes tree)) =
    c.as_slice-2.ensures.value ∙ c.in_ok-lists.ensures ∙ ap (λ b. lists_opened (parts_of_file file (view b tree))) c.bytes-source.ensures in
    c.in_ok-push_all_entry_ends.ensures bytes ∙ ap (λ ns. all ns c.as_slice-2.result.now) keywords ∙ ap (all (kept (noted (parts_of_file file (view bytes tree))))) lists
    ∙ sym (ap (ends_among file) (nth_there files trees file there (as_many files trees c.requires) c.if-file-sources.false))
