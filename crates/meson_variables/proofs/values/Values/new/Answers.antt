use Rattle.meson_variables.proofs.Words.{ap, bytes_eq, looked_up}
use Rattle.std.specs.Map.{lookup}
use Rattle.meson_variables.proofs.values.Values.new.Goals as goal

pub returns : goal.returns
returns c = λ x. ap (λ es. looked_up (lookup (λ k. bytes_eq x k.now) es)) c.new.ensures.empty
