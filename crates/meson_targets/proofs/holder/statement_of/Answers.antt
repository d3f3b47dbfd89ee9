use Rattle.meson_targets.proofs.Words.{◌≡◌, ◌+◌, ◌-◌, ◌<◌, length, take, get_or, sym, ap, ◌∙◌, subst, arith, option_map, place}
use Rattle.meson_targets.proofs.StatementsRemoved.{short_path, place_there}
use Rattle.meson_targets.proofs.holder.statement_of.Goals as goal

pub returns-then-steps-lt2 : goal.returns-then-steps-lt2
returns-then-steps-lt2 c =
    let short = subst (λ path. length path < 2) c.get-steps.ensures c.if-steps-lt2.true in
    sym (ap (option_map (λ line. record { block = place c.args.call.now.file line.0; number = line.1 })) (short_path c.args.call.now.path.steps short))

pub returns : goal.returns
returns c =
    let steps = c.get-steps.result.now in
    let above = length steps - 2 in
    let some = c.if-steps-lt2.false in
    let long : length steps ≡ above + 2 = omega (arith, some) in
    place_there c.args.call.now c.of.result above (get_or steps above 0) (subst (λ path. length path ≡ above + 2) c.get-steps.ensures long)
    (c.of.ensures ∙ c.in_ok-block.ensures.items ∙ ap (take above) c.get-steps.ensures) (ap (λ path. get_or path above 0) c.get-steps.ensures)
