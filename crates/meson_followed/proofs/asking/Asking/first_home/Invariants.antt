use Rattle.std.proofs.Common.{◌≡◌, drop, map}
use Rattle.meson_followed.specs.CodeEdits.{IsAnswer, asked, home_view}
use Rattle.meson_followed.specs.Homes.{by_maker, first_home}
use Rattle.meson_followed.proofs.asking.Asking.first_home.Given as goal

abbrev pub invariant-loop-i : goal.invariant-loop-i
invariant-loop-i l = record {
  first : first_home (λ h. by_maker (asked l.self) h.maker) (map home_view (drop l.i l.homes))
      ≡ first_home (λ h. by_maker (asked l.self) h.maker) (map home_view l.homes);
  answer : IsAnswer l.self l.last;
}
