use Rattle.std.proofs.Common.{take}
use Rattle.std.specs.Fmt.{HasWritten, IsPlainFormatter}
use Rattle.std.specs.List.{flat_map}
use Rattle.serde_json.specs.Data.{string}
use Rattle.meson_rewrite.proofs.TextArrays.{next_item}
use Rattle.meson_rewrite.proofs.refused.TextsDisplay.fmt.Given as goal

abbrev pub invariant-loop-text : goal.invariant-loop-text
invariant-loop-text g l = IsPlainFormatter l.initial.f → HasWritten g.W.Write.write_str_gives l.initial.f (flat_map (next_item string) (take l.text-index l.rest)) l.f
