use Rattle.std.proofs.Common.{◌+◌, ◌∙◌, option_map, sym, ap, arith}
use Rattle.std.proofs.lemmas.Bool.{eqb-true}
use Rattle.std.proofs.lemmas.Grind.{common_steps}
use Rattle.std.proofs.lemmas.List.{take_rest}
use Rattle.meson_lex.specs.Bytes.{begins_three_quotes}
use Rattle.meson_lex.specs.Scan.{tripled_len}
use Rattle.meson_lex.proofs.ByteSearch.{plus_zero, quotes_nowhere, quotes_here, quotes_on}
use Rattle.meson_lex.proofs.strings.tripled_len.Goals as goal

pub loop-i-init : goal.loop-i-init
loop-i-init c = record { counted = omega arith; closes = plus_zero (tripled_len c.args.bytes.now) }

pub returns-then-begins_three_quotes-clause-value : goal.returns-then-begins_three_quotes-clause-value
returns-then-begins_three_quotes-clause-value c =
    quotes_here c.args.bytes.now c.loop-i.rest.now c.loop-i.len c.loop-i.invariant.closes c.in-Some.i c.in-Some.ensures.0 (eqb-true _ 39 c.in-Some.ensures.1)
    (ap begins_three_quotes (sym (take_rest c.loop-i.rest.now c.in-Some.i)) ∙ sym c.if-begins_three_quotes.ensures)

pub loop-i-preserved : goal.loop-i-preserved
loop-i-preserved c =
    let rest_is = take_rest c.loop-i.rest.now (c.in-Some.i + 1) in
    let first = c.in-Some.ensures.0 in
    let high = first.high in
    record {
      counted = grind (arith, common_steps);
      closes =
          quotes_on c.args.bytes.now c.loop-i.rest.now c.loop-i.len c.loop-i.invariant.closes c.in-Some.i first (eqb-true _ 39 c.in-Some.ensures.1)
          (ap begins_three_quotes (sym (take_rest c.loop-i.rest.now c.in-Some.i)) ∙ sym c.if-begins_three_quotes.ensures)
          ∙ ap (λ l. option_map (λ k. (c.loop-i.len + (c.in-Some.i + 1)) + k) (tripled_len l)) (sym rest_is);
    }

pub returns-clause-value : goal.returns-clause-value
returns-clause-value c = quotes_nowhere c.args.bytes.now c.loop-i.rest.now c.loop-i.len c.loop-i.invariant.closes (λ k low high. c.in_default.ensures k low high)
