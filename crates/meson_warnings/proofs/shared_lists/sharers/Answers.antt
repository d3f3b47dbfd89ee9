use Rattle.std.proofs.Common.{◌≡◌, ap, ◌∙◌, sym}
use Rattle.std.specs.Prelude.{flat_map, map, take}
use Rattle.std.proofs.lemmas.Result.{IfOk-weaker}
use Rattle.meson_calls.specs.Searching.{name_at}
use Rattle.meson_steps.specs.Names.{distinct}
use Rattle.meson_warnings.specs.Reads.{reads}
use Rattle.meson_warnings.specs.SharedLists.{sharers_at}
use Rattle.meson_warnings.proofs.SomeNames.{some_sharers}
use Rattle.meson_warnings.proofs.shared_lists.sharers.Goals as goal

pub returns : goal.returns
returns c =
    let l = c.args.project.now in
    let target = name_at c.args.target in
    let xs = c.args.variables.now in
    let some : c.as_slice-2.result.now ≡ take 5000 (flat_map (reads l) (distinct xs)) =
    c.as_slice-2.ensures.value ∙ c.truncate.ensures.items
    ∙ ap (take 5000) (c.in_ok-reads.ensures ∙ ap (λ ys. flat_map (reads l) (map (λ x. x.now) ys)) c.as_slice.ensures.value ∙ ap (flat_map (reads l)) c.in_ok-names.ensures) in
    IfOk-weaker c.sharers_at.result _ _ (λ notes is. is ∙ ap (sharers_at l target) some ∙ some_sharers l target xs (sym c.is_empty.ensures ∙ c.if-is_empty.false)) c.sharers_at.ensures
