use Rattle.std.proofs.Common.{◌≡◌, ◌++◌, drop, map}
use Rattle.std.specs.Prelude.{filter}
use Rattle.meson_followed.specs.CodeEdits.{is_missing, met_view, name_now}
use Rattle.meson_followed.proofs.named.missing_among.Given as goal

abbrev pub invariant-loop-i : goal.invariant-loop-i
invariant-loop-i l =
    map (λ x. x.now) l.new.items ++ map name_now (filter (is_missing (map met_view l.sources)) (drop l.i l.named))
    ≡ map name_now (filter (is_missing (map met_view l.sources)) l.named)
