use Rattle.std.proofs.Common.{arith, ap, ◌∙◌}
use Rattle.std.specs.Prelude.{string_bytes}
use Rattle.meson_calls.proofs.PlainFolders.{first_joined, next_joined}
use Rattle.meson_followed.proofs.ways.join_parts.Goals as goal
use Rattle.meson_followed.proofs.ways.join_parts.Goals.{then-i-gt0+in_ok-push_str, else-i-gt0}

pub loop-i-preserved : goal.loop-i-preserved
loop-i-preserved c =
    let old = string_bytes c.loop-i.text in
    let middle = string_bytes c.if-i-gt0.text in
    let new = string_bytes c.push_str-in-loop-i.new.self in
    let added = c.in_ok-push_str-2.ensures.bytes in
    elim c.if-i-gt0.branch [
      | then-i-gt0+in_ok-push_str w ↦
          next_joined (λ part. part.now) c.args.parts.now c.loop-i.i _ c.loop-i-test.true old middle new c.loop-i.invariant added w.if-i-gt0.true
          (ap string_bytes w.text-is ∙ w.in_ok-push_str.ensures.bytes)
      | else-i-gt0 w ↦
          first_joined (λ part. part.now) c.args.parts.now c.loop-i.i _ c.loop-i-test.true old middle new c.loop-i.invariant added
          (omega (arith, w.if-i-gt0.false)) (ap string_bytes w.text-is)
    ]
