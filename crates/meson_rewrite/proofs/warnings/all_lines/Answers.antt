use Rattle.std.proofs.Common.{◌++◌, ◌∙◌, ℕ, ap, drop}
use Rattle.std.specs.Prelude.{string_bytes}
use Rattle.std.proofs.lemmas.List.{drop_all}
use Rattle.std.proofs.lemmas.Result.{IfOk-weaker}
use Rattle.meson_rewrite.proofs.Gathered.{ends, one-of, one_alone, one_more}
use Rattle.meson_rewrite.specs.Warnings.{lines_of}
use Rattle.meson_rewrite.proofs.warnings.all_lines.Goals as goal

pub returns-in-len1 : goal.returns-in-len1
returns-in-len1 c =
    let cs = c.args.commands.now in
    let command = c.command-item.result in
    let alone = one-of cs command c.in-len1.len_at_least c.in-len1.len_below c.command-item.is in
    IfOk-weaker c.lines_of.result _ _ (λ lines are. one_alone ℕ lines_of c.args.project.now cs command (string_bytes lines) alone are) c.lines_of.ensures

pub loop-command-preserved : goal.loop-command-preserved
loop-command-preserved c =
    let l = c.loop-command in
    let command = c.command-item-in-loop-command.result in
    let pushed = c.in_ok-push_str.ensures.bytes ∙ ap (λ t. string_bytes l.lines ++ t) (c.as_str.ensures.value ∙ c.in_ok-more.ensures) in
    let performs = c.in_ok-perform.ensures in
    one_more ℕ lines_of c.args.project.now c.args.commands.now l.found c.perform.new.project performs.0 l.command-index command command (string_bytes l.lines) (string_bytes c.push_str.new.self)
    c.loop-command-test.true c.command-item-in-loop-command.is l.invariant pushed performs.1

pub returns : goal.returns
returns c =
    let l = c.loop-command in
    let cs = c.args.commands.now in
    ends ℕ lines_of c.args.project.now cs l.found (drop l.command-index cs) (string_bytes l.lines) (drop_all l.command-index cs c.loop-command-test.false) l.invariant
