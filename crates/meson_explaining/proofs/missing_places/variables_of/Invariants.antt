use Rattle.std.proofs.Common.{◌≡◌, ◌++◌, drop, map}
use Rattle.std.specs.Borrow.{Bor}
use Rattle.std.specs.Prelude.{ℕ, List}
use Rattle.meson_inventory.specs.declared.assignments.HeldAssignment.{HeldAssignment}
use Rattle.meson_explaining.proofs.missing_places.variables_of.Given as goal

abbrev pub invariant-loop-i : goal.invariant-loop-i
invariant-loop-i l =
    let text = λ (k : Bor (List ℕ)). k.now in
    let variable = λ (a : HeldAssignment). a.variable in
    map text l.names.items ++ map variable (drop l.i l.held) ≡ map variable l.held
