use Rattle.std.proofs.Common.{◌+◌, ◌<◌, ◌∙◌, length, ap, sym, arith}
use Rattle.std.specs.Prelude.{option_map}
use Rattle.std.proofs.lemmas.List.{take_rest}
use Rattle.std.proofs.lemmas.Grind.{common_steps}
use Rattle.meson_lex.specs.Scan.{quoted_len}
use Rattle.meson_lex.proofs.ByteSearch.{plus_zero}
use Rattle.meson_lex.proofs.StringSearch.{turn_quote, turn_cut, turn_escape, turn_none}
use Rattle.meson_lex.proofs.strings.quoted_len.Goals as goal

pub loop-i-init : goal.loop-i-init
loop-i-init c = record { counted = omega arith; closes = plus_zero (quoted_len c.args.bytes.now) }

pub returns-then-rest-i-eq39-clause-value : goal.returns-then-rest-i-eq39-clause-value
returns-then-rest-i-eq39-clause-value c =
    turn_quote c.args.bytes.now c.loop-i.rest.now c.loop-i.len c.in-Some.i c.loop-i.invariant.closes c.in-Some.ensures.0 c.if-rest-i-eq39.true

pub returns-then-i-rest-clause-value : goal.returns-then-i-rest-clause-value
returns-then-i-rest-clause-value c =
    turn_cut c.args.bytes.now c.loop-i.rest.now c.loop-i.len c.in-Some.i c.loop-i.invariant.closes c.in-Some.ensures.0 c.in-Some.ensures.1 c.if-rest-i-eq39.false c.if-i-rest.true

pub loop-i-preserved : goal.loop-i-preserved
loop-i-preserved c =
    let rest_is = take_rest c.loop-i.rest.now (c.in-Some.i + 2) in
    let first = c.in-Some.ensures.0 in
    let high : c.in-Some.i < length c.loop-i.rest.now = first.high in
    record {
      counted = grind (arith, common_steps);
      closes =
          turn_escape c.args.bytes.now c.loop-i.rest.now c.loop-i.len c.in-Some.i c.loop-i.invariant.closes first c.in-Some.ensures.1 c.if-rest-i-eq39.false (omega arith)
          ∙ ap (λ l. option_map (λ k. (c.loop-i.len + (c.in-Some.i + 2)) + k) (quoted_len l)) (sym rest_is);
    }

pub returns-clause-value : goal.returns-clause-value
returns-clause-value c = turn_none c.args.bytes.now c.loop-i.rest.now c.loop-i.len c.loop-i.invariant.closes (λ k low high. c.in_default.ensures k low high)
