use Rattle.std.proofs.Common.{length, get_or, sym, ap, ◌∙◌, subst, arith}
use Rattle.std.specs.Prelude.{option_and_then}
use Rattle.meson_lex.specs.declared.kinds.Span.{Span}
use Rattle.meson_splice.specs.Files.{bytes_at}
use Rattle.meson_syntax.specs.View.{view}
use Rattle.meson_calls.specs.Project.{BuildFile}
use Rattle.meson_calls.proofs.CallsAt.{spanned_at}
use Rattle.meson_calls.proofs.Loads.{as_many}
use Rattle.meson_calls.proofs.Standing.{nth_past, nth_there}
use Rattle.meson_statements.specs.Places.{IsBeside}
use Rattle.meson_statements.proofs.CodeTexts.{lexemes-are-items}
use Rattle.meson_lex.specs.Items.{IsItemList}
use Rattle.meson_statements.specs.CodeTexts.{lexemes_of}
use Rattle.meson_statements.specs.Places.{text_at}
use Rattle.meson_code.specs.Insertion.{side_in, text_on}
use Rattle.meson_code.proofs.Sides.{beside-within}
use Rattle.meson_code.proofs.insertion.FileLines.text.Goals as goal

pub returns-then-file-sources : goal.returns-then-file-sources
returns-then-file-sources c =
    let files = c.args.sources.files.now in
    let lines = c.args.self.now in
    let file = lines.block.file in
    c.of.ensures ∙ c.new.ensures.items
    ∙ sym (ap (λ o. text_on (bytes_at file files) c.args.blank c.args.code.now (option_and_then (λ (f : BuildFile Span). side_in f.tree lines.block.path.steps lines.side) o)) (nth_past files c.args.sources.trees.now file c.if-file-sources.true))

pub bytes-source-requires : goal.bytes-source-requires
bytes-source-requires c =
    let inside = c.if-file-sources.false in
    let many = as_many c.args.sources.files.now c.args.sources.trees.now c.requires.parsed in
    omega (arith, inside, many)

pub placed-requires : goal.placed-requires
placed-requires c =
    let files = c.args.sources.files.now in
    let trees = c.args.sources.trees.now in
    let lines = c.args.self.now in
    let file = lines.block.file in
    let d = c.index-sources-file.result in
    let source = bytes_at file files in
    let s = spanned_at files trees file d c.if-file-sources.false c.requires.parsed in
    subst (λ b. IsBeside c.in-Some.side (length b)) (sym c.bytes-source.ensures)
    (beside-within source (view source (get_or trees file d)) s lines.block.path.steps lines.side c.in-Some.side (sym (c.in-Some.ensures source)))

pub returns-in_ok-placed-in-Some : goal.returns-in_ok-placed-in-Some
returns-in_ok-placed-in-Some c =
    let files = c.args.sources.files.now in
    let trees = c.args.sources.trees.now in
    let lines = c.args.self.now in
    let file = lines.block.file in
    let blank = c.args.blank in
    let code = c.args.code.now in
    let side = c.in-Some.side in
    let d = c.index-sources-file.result in
    let source = bytes_at file files in
    let s = (spanned_at files trees file d c.if-file-sources.false c.requires.parsed).reads.spells in
    let t = c.requires.code.reads.spells in
    let there = nth_there files trees file d (as_many files trees c.requires.parsed) c.if-file-sources.false in
    let given = c.in_ok-placed-in-Some.ensures.bytes s.items t.items (subst (λ b. IsItemList b s.items) (sym c.bytes-source.ensures) s.are_items) t.are_items in
    let meant =
    ap (λ o. text_on source blank code (option_and_then (λ (f : BuildFile Span). side_in f.tree lines.block.path.steps lines.side) o)) there
    ∙ ap (text_on source blank code) (sym (c.in-Some.ensures source))
    ∙ ap (λ us. text_at source us blank code (lexemes_of code) side) (lexemes-are-items source s.items s.are_items)
    ∙ ap (λ us. text_at source s.items blank code us side) (lexemes-are-items code t.items t.are_items) in
    c.of-in-Some.ensures ∙ given ∙ ap (λ b. text_at b s.items blank code t.items side) c.bytes-source.ensures ∙ sym meant

pub returns-in-None : goal.returns-in-None
returns-in-None c =
    let files = c.args.sources.files.now in
    let trees = c.args.sources.trees.now in
    let lines = c.args.self.now in
    let file = lines.block.file in
    let source = bytes_at file files in
    let there = nth_there files trees file c.index-sources-file.result (as_many files trees c.requires.parsed) c.if-file-sources.false in
    c.of-in-None.ensures ∙ c.new-in-None.ensures.items
    ∙ sym (ap (λ o. text_on source c.args.blank c.args.code.now (option_and_then (λ (f : BuildFile Span). side_in f.tree lines.block.path.steps lines.side) o)) there
    ∙ ap (text_on source c.args.blank c.args.code.now) (sym (c.in-None.ensures source)))
