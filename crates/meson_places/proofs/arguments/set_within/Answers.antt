use Rattle.std.proofs.Common.{◌≡◌, true, false, Ok, Err, sym, ap, ◌∙◌}
use Rattle.std.specs.Prelude.{if◌then◌else◌}
use Rattle.meson_calls.specs.declared.refusal.Refusal.TheVariants.{TooDeep}
use Rattle.meson_places.specs.Arguments.{if_room_at, room_at}
use Rattle.meson_places.specs.Changes.{set_steps}
use Rattle.meson_places.specs.Names.{loaded_in}
use Rattle.meson_places.specs.Values.{written_given}
use Rattle.meson_places.proofs.Meant.{meant_deep, meant_fits}
use Rattle.meson_places.proofs.arguments.set_within.Goals as goal

pub returns-then-not-branch-clause-refused : goal.returns-then-not-branch-clause-refused
returns-then-not-branch-clause-refused c = λ may other.
    let l = loaded_in c.args.sources in
    let g = c.args.given.now in
    let w = written_given g may in
    let s = c.args.slot.now in
    let room : room_at l s w.node ≡ false = sym (c.in_ok-room_at.ensures may) ∙ c.if-not-branch.true in
    meant_deep (set_steps l g w c.args.key.now s) c.in_ok-steps.steps.items (c.in_ok-steps.ensures.meant may) (if_room_at l s w.node) (λ steps. ap (λ b. if b then Ok steps else Err TooDeep) room)

pub returns-clause-meant : goal.returns-clause-meant
returns-clause-meant c = λ may.
    let l = loaded_in c.args.sources in
    let g = c.args.given.now in
    let w = written_given g may in
    let s = c.args.slot.now in
    let room : room_at l s w.node ≡ true = sym (c.in_ok-room_at.ensures may) ∙ c.if-not-branch.false in
    meant_fits (set_steps l g w c.args.key.now s) c.in_ok-steps.steps.items (c.in_ok-steps.ensures.meant may) (if_room_at l s w.node) (λ steps. ap (λ b. if b then Ok steps else Err TooDeep) room)
