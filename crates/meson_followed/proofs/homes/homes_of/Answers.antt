use Rattle.std.proofs.Common.{List, ap₂}
use Rattle.meson_followed.specs.Homes.{Home, Homes}
use Rattle.meson_followed.proofs.homes.homes_of.Goals as goal

pub returns : goal.returns
returns c =
    let of : List Home → List Home → Homes = λ hs es. record { holding = hs; empties = es } in
    ap₂ of c.in_ok-holding.ensures c.in_ok-empties.ensures
