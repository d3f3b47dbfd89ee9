use Rattle.meson_keywords.proofs.RequestsLeave.{requests-leave}
use Rattle.meson_keywords.proofs.laws.requests_leave.Goals as goal

pub returns : goal.returns
returns c = requests-leave
