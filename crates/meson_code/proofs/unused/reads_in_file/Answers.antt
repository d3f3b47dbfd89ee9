use Rattle.std.proofs.Common.{◌≡◌, [], Some, None, get_or, sym, ap, ◌∙◌, subst, arith}
use Rattle.std.specs.Option.{option_map_or}
use Rattle.meson_lex.specs.declared.kinds.Span.{Span}
use Rattle.meson_syntax.specs.Reads.{IsSpanned}
use Rattle.meson_syntax.specs.View.{view}
use Rattle.meson_syntax.proofs.parsing.Steps.{some-injective}
use Rattle.meson_calls.specs.Parts.{parts_of_file}
use Rattle.meson_calls.specs.Project.{BuildFile}
use Rattle.meson_calls.specs.Walks.{keeper_view, read_in, reads_kept, with_parts}
use Rattle.meson_calls.proofs.CallsAt.{spanned_at}
use Rattle.meson_calls.proofs.Loads.{as_many}
use Rattle.meson_calls.proofs.Standing.{nth_past, nth_there}
use Rattle.meson_calls.proofs.Visits.{all_read}
use Rattle.meson_code.proofs.unused.reads_in_file.Goals as goal

pub returns-then-file-sources : goal.returns-then-file-sources
returns-then-file-sources c =
    let files = c.args.sources.files.now in
    let trees = c.args.sources.trees.now in
    c.new.ensures.items ∙ sym (ap (λ o. read_in c.args.name.now (option_map_or (λ (f : BuildFile Span). parts_of_file c.args.file f.tree) o [])) (nth_past files trees c.args.file c.if-file-sources.true))

pub bytes-source-requires : goal.bytes-source-requires
bytes-source-requires c =
    let inside = c.if-file-sources.false in
    let many = as_many c.args.sources.files.now c.args.sources.trees.now c.requires in
    omega (arith, inside, many)

pub walk_file-requires : goal.walk_file-requires
walk_file-requires c =
    let files = c.args.sources.files.now in
    let trees = c.args.sources.trees.now in
    let there = c.index-sources-file.result in
    subst (λ bytes. IsSpanned bytes (view bytes (get_or trees c.args.file there))) (sym c.bytes-source.ensures) (spanned_at files trees c.args.file there c.if-file-sources.false c.requires)

pub unreachable-requires : goal.unreachable-requires
unreachable-requires c =
    let ps = parts_of_file c.args.file (view c.bytes-source.result.now (get_or c.args.sources.trees.now c.args.file c.index-sources-file.result)) in
    let none : None ≡ Some (read_in c.args.name.now ps) =
    all_read c.args.name.now None (keeper_view c.walk_file.new.keeper) ps c.in-None.ensures (c.in_ok-walk_file.ensures ∙ ap (λ cs. with_parts (reads_kept c.args.name.now cs) ps) c.new-2.ensures.items) in
    absurd cc

pub returns : goal.returns
returns c =
    let files = c.args.sources.files.now in
    let trees = c.args.sources.trees.now in
    let file = c.args.file in
    let d = c.index-sources-file.result in
    let ps = parts_of_file file (view c.bytes-source.result.now (get_or trees file d)) in
    let there = nth_there files trees file d (as_many files trees c.requires) c.if-file-sources.false in
    some-injective _ _
    (all_read c.args.name.now (Some c.in-Some.found.items) (keeper_view c.walk_file.new.keeper) ps c.in-Some.ensures
    (c.in_ok-walk_file.ensures ∙ ap (λ cs. with_parts (reads_kept c.args.name.now cs) ps) c.new-2.ensures.items))
    ∙ ap (λ bytes. read_in c.args.name.now (parts_of_file file (view bytes (get_or trees file d)))) c.bytes-source.ensures
    ∙ sym (ap (λ o. read_in c.args.name.now (option_map_or (λ (f : BuildFile Span). parts_of_file file f.tree) o [])) there)
