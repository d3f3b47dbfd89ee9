use Rattle.std.proofs.Common.{◌≡◌, ◌∙◌, get_or, sym, ap, subst, arith}
use Rattle.std.specs.List.{filter_map}
use Rattle.std.proofs.lemmas.Result.{IfOk-weaker}
use Rattle.meson_splice.specs.Files.{bytes_at}
use Rattle.meson_syntax.specs.Reads.{IsSpanned}
use Rattle.meson_syntax.specs.View.{view}
use Rattle.meson_calls.specs.Parts.{parts_of_file}
use Rattle.meson_calls.specs.Walks.{lists_opened}
use Rattle.meson_calls.proofs.CallsAt.{spanned_at}
use Rattle.meson_calls.proofs.Loads.{as_many}
use Rattle.meson_calls.proofs.Standing.{nth_past, nth_there}
use Rattle.meson_places.specs.Names.{lists_among, lists_on, loaded_in, opens_on}
use Rattle.meson_places.proofs.lookup.lists_on.Goals as goal

pub returns-then-file-sources : goal.returns-then-file-sources
returns-then-file-sources c =
    let files = c.args.sources.files.now in
    let file = c.args.file in
    c.new.ensures.items ∙ sym (ap (lists_among (bytes_at file files) file c.args.line) (nth_past files c.args.sources.trees.now file c.if-file-sources.true))

pub bytes-source-requires : goal.bytes-source-requires
bytes-source-requires c =
    let many = as_many c.args.sources.files.now c.args.sources.trees.now c.requires in
    omega arith

pub lists_of-requires : goal.lists_of-requires
lists_of-requires c =
    let files = c.args.sources.files.now in
    let trees = c.args.sources.trees.now in
    let file = c.args.file in
    let there = c.index-sources-file.result in
    subst (λ bytes. IsSpanned bytes (view bytes (get_or trees file there))) (sym c.bytes-source.ensures) (spanned_at files trees file there c.if-file-sources.false c.requires)

pub returns : goal.returns
returns c =
    let files = c.args.sources.files.now in
    let trees = c.args.sources.trees.now in
    let file = c.args.file in
    let line = c.args.line in
    let tree = get_or trees file c.index-sources-file.result in
    let bytes = bytes_at file files in
    let whole : lists_on (loaded_in c.args.sources) file line ≡ filter_map (opens_on bytes line) (lists_opened (parts_of_file file (view bytes tree))) =
    ap (lists_among bytes file line) (nth_there files trees file c.index-sources-file.result (as_many files trees c.requires) c.if-file-sources.false) in
    let opened : c.in_ok-lists.lists.items ≡ lists_opened (parts_of_file file (view bytes tree)) =
    c.in_ok-lists.ensures ∙ ap (λ b. lists_opened (parts_of_file file (view b tree))) c.bytes-source.ensures in
    let same : filter_map (opens_on c.find.result.source.now c.find.result.number) c.in_ok-lists.lists.items ≡ lists_on (loaded_in c.args.sources) file line =
    ap (λ n. filter_map (opens_on c.find.result.source.now n) c.in_ok-lists.lists.items) c.find.ensures.number
    ∙ ap (λ b. filter_map (opens_on b line) c.in_ok-lists.lists.items) (c.find.ensures.source ∙ c.bytes-source.ensures) ∙ ap (filter_map (opens_on bytes line)) opened ∙ sym whole in
    IfOk-weaker c.opened_on.result _ _ (λ found is. is ∙ same) c.opened_on.ensures
