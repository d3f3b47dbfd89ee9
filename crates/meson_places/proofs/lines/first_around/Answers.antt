use Rattle.std.proofs.Common.{Ok, Err, sym, ap, ◌∙◌}
use Rattle.std.specs.Prelude.{if◌then◌else◌}
use Rattle.meson_calls.specs.declared.refusal.Refusal.TheVariants.{Ambiguous}
use Rattle.meson_places.proofs.Around.{by_others}
use Rattle.meson_places.proofs.lines.first_around.Goals as goal

pub returns-then-not-are_in-clause-refused : goal.returns-then-not-are_in-clause-refused
returns-then-not-are_in-clause-refused c = λ other.
    by_others c.args.places.now c.first-item.result c.in-len1-up.len_at_least c.first-item.is
    ∙ ap (λ b. if b then Ok c.first-item.result else Err Ambiguous) (sym c.are_in.ensures ∙ c.if-not-are_in.true)

pub returns-in_ok-copy_place-in-len1-up-clause-found : goal.returns-in_ok-copy_place-in-len1-up-clause-found
returns-in_ok-copy_place-in-len1-up-clause-found c =
    by_others c.args.places.now c.first-item.result c.in-len1-up.len_at_least c.first-item.is
    ∙ ap (λ b. if b then Ok c.first-item.result else Err Ambiguous) (sym c.are_in.ensures ∙ c.if-not-are_in.false)
    ∙ ap Ok (sym c.in_ok-copy_place-in-len1-up.ensures)
