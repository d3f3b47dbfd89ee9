use Rattle.std.proofs.Common.{◌++◌, sym, ap, ◌∙◌}
use Rattle.std.proofs.lemmas.List.{append-nil}
use Rattle.std.proofs.lemmas.Result.{on_ok_weaker}
use Rattle.meson_places.specs.Colons.{ends_of, key_ends}
use Rattle.meson_places.proofs.colon.push_entry_ends.Goals as goal

pub returns-in-Some : goal.returns-in-Some
returns-in-Some c = λ source.
    let old = c.args.ends.now.items in
    on_ok_weaker c.push_key_ends.result (λ is.
    is ∙ ap (λ xs. old ++ key_ends xs) (c.elements_in.ensures.elements source) ∙ ap (λ o. old ++ ends_of o) (c.in-Some.ensures source)) (c.push_key_ends.ensures source)

pub returns-in-None : goal.returns-in-None
returns-in-None c = λ source.
    let old = c.args.ends.now.items in
    sym (append-nil old) ∙ ap (λ o. old ++ ends_of o) (c.in-None.ensures source)
