use Rattle.meson_layout.proofs.ValueLaws.{wrap-law, wrap-keeps}
use Rattle.meson_layout.proofs.laws.wrapped_values.Goals as goal

pub returns : goal.returns
returns c = record { list = wrap-law; bytes = wrap-keeps }
