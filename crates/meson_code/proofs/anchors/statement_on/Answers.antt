use Rattle.std.proofs.Common.{◌∙◌, get_or, sym, ap, subst, arith}
use Rattle.std.proofs.lemmas.Result.{IfOk-weaker}
use Rattle.meson_splice.specs.Files.{bytes_at}
use Rattle.meson_syntax.specs.Reads.{IsSpanned}
use Rattle.meson_syntax.specs.View.{view}
use Rattle.meson_calls.proofs.CallsAt.{spanned_at}
use Rattle.meson_calls.proofs.Loads.{as_many}
use Rattle.meson_calls.proofs.Standing.{nth_past, nth_there}
use Rattle.meson_code.specs.Anchors.{first_among}
use Rattle.meson_code.specs.Statements.{first_on, statements_of_file}
use Rattle.meson_code.proofs.anchors.statement_on.Goals as goal

pub returns-then-file-sources : goal.returns-then-file-sources
returns-then-file-sources c =
    let files = c.args.sources.files.now in
    let file = c.args.file in
    sym (ap (first_among (bytes_at file files) file c.args.line) (nth_past files c.args.sources.trees.now file c.if-file-sources.true))

pub bytes-requires : goal.bytes-requires
bytes-requires c =
    let inside = c.if-file-sources.false in
    let many = as_many c.args.sources.files.now c.args.sources.trees.now c.requires in
    omega (arith, inside, many)

pub first_on-requires : goal.first_on-requires
first_on-requires c =
    let files = c.args.sources.files.now in
    let trees = c.args.sources.trees.now in
    let file = c.args.file in
    let there = c.index-sources-file.result in
    subst (λ bytes. IsSpanned bytes (view bytes (get_or trees file there))) (sym (c.find-line.ensures.source ∙ c.bytes.ensures)) (spanned_at files trees file there c.if-file-sources.false c.requires)

pub returns : goal.returns
returns c =
    let files = c.args.sources.files.now in
    let trees = c.args.sources.trees.now in
    let file = c.args.file in
    let tree = get_or trees file c.index-sources-file.result in
    let bytes = bytes_at file files in
    let same =
    ap (λ n. first_on c.find-line.result.source.now n (statements_of_file file (view c.find-line.result.source.now tree))) c.find-line.ensures.number
    ∙ ap (λ b. first_on b c.args.line (statements_of_file file (view b tree))) (c.find-line.ensures.source ∙ c.bytes.ensures)
    ∙ sym (ap (first_among bytes file c.args.line) (nth_there files trees file c.index-sources-file.result (as_many files trees c.requires) c.if-file-sources.false)) in
    IfOk-weaker c.first_on.result _ _ (λ found is. is ∙ same) c.first_on.ensures
