use Rattle.std.proofs.Common.{◌≡◌, ℕ, List, ◌++◌}
use Rattle.std.specs.Fmt.{HasWritten, IsPlainFormatter}
use Rattle.std.specs.Str.Iter.{chars_rest}
use Rattle.json.specs.Print.{escape}
use Rattle.meson_rewrite.proofs.quoted.InsideWrite.write_str.Given as goal

abbrev pub invariant-loop-c : goal.invariant-loop-c
invariant-loop-c g l = (l.self.to.ghost_name ≡ l.initial.self.to.ghost_name)
    × (IsPlainFormatter l.initial.self.to.now
    → (done : List ℕ) × HasWritten g.W.Write.write_str_gives l.initial.self.to.now (escape done) l.self.to.now × (done ++ chars_rest l.c-iterator ≡ l.fn.s))
