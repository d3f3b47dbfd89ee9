use Rattle.std.proofs.Common.{◌+◌, ◌∙◌, option_map, sym, ap, arith}
use Rattle.std.proofs.lemmas.Bool.{eqb-true}
use Rattle.std.proofs.lemmas.Grind.{common_steps}
use Rattle.std.proofs.lemmas.List.{take_rest}
use Rattle.meson_lex.specs.Bytes.{is_line_feed, begins, first_bare_return}
use Rattle.meson_lex.proofs.ByteSearch.{plus_zero, return_nowhere, return_here, return_paired}
use Rattle.meson_lex.proofs.bytes.first_bare_return.Goals as goal

pub loop-i-init : goal.loop-i-init
loop-i-init c = record { counted = omega arith; first = plus_zero (first_bare_return c.args.bytes.now) }

pub returns-then-not-begins_byte-clause-value : goal.returns-then-not-begins_byte-clause-value
returns-then-not-begins_byte-clause-value c =
    return_here c.args.bytes.now c.loop-i.rest.now c.loop-i.place c.loop-i.invariant.first c.in-Some.i c.in-Some.ensures.0 (eqb-true _ 13 c.in-Some.ensures.1)
    (ap (begins is_line_feed) (sym (take_rest c.loop-i.rest.now (c.in-Some.i + 1))) ∙ sym c.if-not-begins_byte.ensures)

pub loop-i-preserved : goal.loop-i-preserved
loop-i-preserved c =
    let rest_is = take_rest c.loop-i.rest.now (c.in-Some.i + 1) in
    let first = c.in-Some.ensures.0 in
    let high = first.high in
    record {
      counted = grind (arith, common_steps);
      first =
          return_paired c.args.bytes.now c.loop-i.rest.now c.loop-i.place c.loop-i.invariant.first c.in-Some.i first (eqb-true _ 13 c.in-Some.ensures.1)
          (ap (begins is_line_feed) (sym rest_is) ∙ sym c.if-not-begins_byte.ensures)
          ∙ ap (λ l. option_map (λ k. (c.loop-i.place + (c.in-Some.i + 1)) + k) (first_bare_return l)) (sym rest_is);
    }

pub returns-clause-value : goal.returns-clause-value
returns-clause-value c = return_nowhere c.args.bytes.now c.loop-i.rest.now c.loop-i.place c.loop-i.invariant.first (λ k low high. c.in_default.ensures k low high)
