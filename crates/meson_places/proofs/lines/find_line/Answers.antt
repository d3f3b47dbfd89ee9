use Rattle.std.proofs.Common.{◌≡◌, ◌+◌, sym, ap, ◌∙◌, subst, refl, arith}
use Rattle.meson_places.specs.Names.{line_of}
use Rattle.meson_places.specs.inside.Lines.{IsLine}
use Rattle.meson_places.proofs.LineRanges.{at_feed, at_other, ended, last_one, no_line, rises}
use Rattle.meson_places.proofs.lines.find_line.Goals as goal
use Rattle.meson_places.proofs.lines.find_line.Goals.{then-source-i-eq10+else-current-number, else-source-i-eq10}

pub returns-then-current-number : goal.returns-then-current-number
returns-then-current-number c =
    let source = c.args.source.now in
    let l = c.loop-i.invariant in
    subst (λ n. IsLine source n c.loop-i.from c.loop-i.i) c.if-current-number.true
    (ended source c.loop-i.from c.loop-i.i c.loop-i.current l.here l.first l.before 0 c.loop-i-test.true c.if-source-i-eq10.true)

pub loop-i-preserved : goal.loop-i-preserved
loop-i-preserved c =
    let source = c.args.source.now in
    let i = c.loop-i.i in
    let l = c.loop-i.invariant in
    elim c.if-source-i-eq10.branch [
      | then-source-i-eq10+else-current-number w ↦
          let here : line_of source (i + 1) ≡ c.if-source-i-eq10.current = at_feed source i 0 c.loop-i-test.true w.if-source-i-eq10.true ∙ ap (λ n. n + 1) l.here ∙ sym w.current-is in
          record {
            here = here;
            first = ap (line_of source) w.from-is ∙ here;
            before = λ at_ h. let low = rises source at_ i (omega (arith, h, w.from-is)) in omega (arith, low, l.here, w.current-is);
            passed = λ h. omega (arith, h, w.current-is, w.if-current-number.false, l.passed);
            within = omega (arith, w.from-is);
            few = omega (arith, l.few, w.current-is);
          }
      | else-source-i-eq10 w ↦ record {
        here = at_other source i 0 c.loop-i-test.true w.if-source-i-eq10.false ∙ l.here ∙ sym w.current-is;
        first = ap (line_of source) w.from-is ∙ l.first ∙ sym w.current-is;
        before = λ at_ h. let low = l.before at_ (omega (arith, h, w.from-is)) in omega (arith, low, w.current-is);
        passed = λ h. l.passed (omega (arith, h, w.current-is));
        within = omega (arith, l.within, w.from-is);
        few = omega (arith, l.few, w.current-is);
      }
    ]

pub returns-then-current-number-2 : goal.returns-then-current-number-2
returns-then-current-number-2 c =
    let source = c.args.source.now in
    let l = c.loop-i.invariant in
    subst (λ n. IsLine source n c.loop-i.from 18446744073709551615) c.if-current-number-2.true
    (last_one source c.loop-i.from c.loop-i.i c.loop-i.current l.here l.first l.before 18446744073709551615 refl c.loop-i-test.false)

pub returns-else-current-number-2 : goal.returns-else-current-number-2
returns-else-current-number-2 c =
    let l = c.loop-i.invariant in
    no_line c.args.source.now c.loop-i.i c.loop-i.current c.args.number l.here c.loop-i-test.false c.if-current-number-2.false l.passed
