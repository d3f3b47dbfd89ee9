-- The order on small values.
use Rattle.std.proofs.Common.{refl, sym, ◌∙◌}
use Rattle.std.specs.Prelude.{[], ◌∷◌}
use Rattle.std.proofs.lemmas.Bool.{false≢true}
use Rattle.meson_flow_order.specs.Rows.{EitherIsAbove, NoneIsOverlooked, SureSaysMore, UnsetIsApart, alone, surely}
use Rattle.meson_flow_order.proofs.Among.{none_sure}
use Rattle.meson_flow_order.proofs.Below.{first_below, second_below}

pub either_is_above : EitherIsAbove
either_is_above e =
    let one = alone (surely e 1 ∷ surely e 2 ∷ []) in
    let two = alone (surely e 2 ∷ surely e 3 ∷ []) in
    (refl, first_below one two, second_below one two)

pub sure_says_more : SureSaysMore
sure_says_more e =
    (λ told. record { makers = λ x is. is; sure = λ x is. absurd (false≢true (sym (none_sure (surely e 1 ∷ []) x) ∙ is)); unknown = λ is. is }, λ below. absurd (false≢true ((below refl).sure (surely e 1) refl)))

pub none_is_overlooked : NoneIsOverlooked
none_is_overlooked e = (
  λ below. absurd (false≢true ((below refl).makers (surely e 2) refl)),
  λ told. record { makers = λ x is. is; sure = λ x is. is; unknown = λ is. refl },
  λ below. absurd (false≢true ((below refl).unknown refl)),
)

pub unset_is_apart : UnsetIsApart
unset_is_apart e = (tt, λ below. absurd (false≢true ((below refl).sure (surely e 1) refl)))
