use Rattle.std.proofs.Common.{sym, ap, ◌∙◌, string_bytes}
use Rattle.meson_calls.specs.FileNames.{is_file}
use Rattle.meson_variables.proofs.Anys.{any_here}
use Rattle.meson_inventory.proofs.holdings.is_any.Goals as goal

pub returns-then-contains : goal.returns-then-contains
returns-then-contains c all are =
    let name = c.index-names-i.result in
    let is =
    ap (λ n. is_file all (string_bytes n)) (sym c.index-names-i.is) ∙ ap (is_file all) (sym c.as_str.ensures.value)
    ∙ sym (are.same c.as_str.result.now) ∙ sym c.contains.ensures ∙ c.if-contains.true
    in
    sym (any_here (is_file all) string_bytes c.args.names.now c.loop-i.i name c.loop-i-test.true is)
